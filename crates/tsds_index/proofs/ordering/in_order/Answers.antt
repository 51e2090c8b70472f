use Rattle.std.proofs.Common.{sym, subst}
use Rattle.row_cells.specs.PlaceLaws.{in_order_stays}
use Rattle.row_cells.specs.RowLists.{AreInRowOrder}
use Rattle.tsds_index.proofs.Stable.{stable_order}
use Rattle.tsds_index.proofs.ordering.in_order.Goals as goal

pub returns-then-are_in_row_order : goal.returns-then-are_in_row_order
returns-then-are_in_row_order c = sym (in_order_stays c.args.rows.items (subst AreInRowOrder c.as_slice.ensures.value (c.are_in_row_order.ensures.0 c.if-are_in_row_order.true)))

pub returns : goal.returns
returns c = stable_order c.args.rows.items c.sort.new.rows.items c.in_ok-sort.ensures.sorted c.in_ok-sort.ensures.stable c.requires
