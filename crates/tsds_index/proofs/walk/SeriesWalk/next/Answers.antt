use Rattle.std.proofs.Common.{ap, sym, ◌∙◌}
use Rattle.std.specs.Option.{option_copied}
use Rattle.index_segment.specs.Directory.{keys_of}
use Rattle.tsds_index.specs.Spread.{rows_of}
use Rattle.tsds_index.specs.Walks.{Walk}
use Rattle.tsds_index.proofs.Keys.{keys_ascend, none_behind, one_behind}
use Rattle.tsds_index.proofs.walk.SeriesWalk.next.Goals as goal

pub returns-in_err-next-clause-none : goal.returns-in_err-next-clause-none
returns-in_err-next-clause-none c none =
    ap (λ (w : Walk). w.ahead) (sym c.self.view_is) ∙ none_behind (option_copied c.self.inside.last) (keys_of (rows_of c.self.inside.index.now)) (sym c.in_err-next.ensures)

pub returns-clause-some : goal.returns-clause-some
returns-clause-some c =
    let rows = rows_of c.self.inside.index.now in
    ap (λ (w : Walk). w.ahead) (sym c.self.view_is)
    ∙ one_behind (option_copied c.self.inside.last) (keys_of rows) c.in_ok-next.next.now (keys_ascend rows c.holds.ensures.rows.in_order) (sym c.in_ok-next.ensures)
