use Rattle.std.proofs.Common.{subst, sym, to_z, of_z, w64}
use Rattle.std.proofs.lemmas.Int.{to_z-of_z}
use Rattle.row_cells.specs.RangeLaws.{in_order-drop}
use Rattle.row_cells.specs.RowLists.{AreInRowOrder}
use Rattle.tsds_index.proofs.Ranged.{range_is}
use Rattle.tsds_index.proofs.counts.rows_between.Goals as goal

pub place_up_to-requires-2 : goal.place_up_to-requires-2
place_up_to-requires-2 c = subst AreInRowOrder (sym c.split_at.ensures.back) (in_order-drop c.place_up_to.result c.args.rows.now c.requires)

pub returns : goal.returns
returns c =
    range_is c.args.key.now c.args.from c.args.to (to_z w64 (of_z w64 c.args.from)) (to_z w64 (of_z w64 c.args.to)) c.args.rows.now c.split_at.result.1.now c.split_at-2.result.0.now c.place_up_to.result c.place_up_to-2.result (to_z-of_z w64 c.args.from c.ranges.from) (to_z-of_z w64 c.args.to c.ranges.to) c.place_up_to.ensures.before c.place_up_to.ensures.behind c.split_at.ensures.back c.place_up_to-2.ensures.before c.place_up_to-2.ensures.behind c.split_at-2.ensures.front
