use Rattle.std.proofs.Common.{cond, Some, None, Option, ap, sym, subst, ◌∙◌, to_z, of_z, w64}
use Rattle.std.proofs.lemmas.Int.{to_z-of_z}
use Rattle.std.specs.Option.{option_copied}
use Rattle.row_cells.specs.declared.rows.Row.{Row}
use Rattle.row_cells.specs.RowLists.{AreInRowOrder}
use Rattle.index_segment.specs.Looks.{is_at}
use Rattle.tsds_index.proofs.Ordered.{look}
use Rattle.tsds_index.proofs.buffer.Buffer.find.Goals as goal

pub returns-in_err-row : goal.returns-in_err-row
returns-in_err-row c =
    let e = to_z-of_z w64 c.args.time c.ranges.time in
    let l = look c.args.key.now c.args.time (to_z w64 (of_z w64 c.args.time)) c.as_slice-rows.result.now c.args.self.now c.place_in.result None e (c.as_slice-rows.ensures.value ∙ c.self.view_is) (subst AreInRowOrder c.self.view_is c.self.invariant.in_order) c.place_in.ensures.before c.place_in.ensures.behind c.in_err-row.ensures in
    ap option_copied c.from_residual.ensures ∙ sym l

pub returns-then-stands_at : goal.returns-then-stands_at
returns-then-stands_at c =
    let row = c.in_ok-row.row.now in
    let e = to_z-of_z w64 c.args.time c.ranges.time in
    let l = look c.args.key.now c.args.time (to_z w64 (of_z w64 c.args.time)) c.as_slice-rows.result.now c.args.self.now c.place_in.result (Some row) e (c.as_slice-rows.ensures.value ∙ c.self.view_is) (subst AreInRowOrder c.self.view_is c.self.invariant.in_order) c.place_in.ensures.before c.place_in.ensures.behind c.in_ok-row.ensures in
    sym (l ∙ ap (λ b. cond {A = Option Row} b (Some row) None) (ap (λ t. is_at c.args.key.now t row) (sym e) ∙ sym c.if-stands_at.ensures))

pub returns-else-stands_at : goal.returns-else-stands_at
returns-else-stands_at c =
    let row = c.in_ok-row.row.now in
    let e = to_z-of_z w64 c.args.time c.ranges.time in
    let l = look c.args.key.now c.args.time (to_z w64 (of_z w64 c.args.time)) c.as_slice-rows.result.now c.args.self.now c.place_in.result (Some row) e (c.as_slice-rows.ensures.value ∙ c.self.view_is) (subst AreInRowOrder c.self.view_is c.self.invariant.in_order) c.place_in.ensures.before c.place_in.ensures.behind c.in_ok-row.ensures in
    sym (l ∙ ap (λ b. cond {A = Option Row} b (Some row) None) (ap (λ t. is_at c.args.key.now t row) (sym e) ∙ sym c.if-stands_at.ensures))
