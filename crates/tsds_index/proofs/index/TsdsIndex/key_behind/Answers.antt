use Rattle.std.proofs.Common.{List, ap, subst, ◌∙◌}
use Rattle.std.specs.Option.{option_copied}
use Rattle.row_cells.specs.declared.rows.Row.{Row}
use Rattle.tsds_index.specs.declared.shard.Shard.{Shard}
use Rattle.tsds_index.specs.Nexts.{IsNext}
use Rattle.tsds_index.specs.Shards.{parts_of}
use Rattle.tsds_index.specs.Sound.{IsSpread}
use Rattle.tsds_index.specs.Spread.{Spread, all_rows}
use Rattle.tsds_index.proofs.Nexts.{index_next}
use Rattle.tsds_index.proofs.index.TsdsIndex.key_behind.Goals as goal

pub returns : goal.returns
returns c =
    index_next (option_copied c.args.before) c.args.self.now (option_copied c.next_of.result) (subst IsSpread c.self.view_is c.self.invariant.are.spread)
    (subst (λ (rows : List Row). IsNext (option_copied c.args.before) rows (option_copied c.next_of.result)) (ap (λ (ss : List Shard). all_rows (parts_of ss)) c.as_slice.ensures.value ∙ ap (λ (h : Spread). all_rows h.parts) c.self.view_is) c.next_of.ensures)
