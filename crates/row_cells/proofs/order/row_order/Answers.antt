use Rattle.std.specs.Cmp.{int_cmp_total, on_total, then_total, back_total}
use Rattle.std.specs.Cmp.Lexicographic.{nat_list_cmp_total}
use Rattle.row_cells.proofs.order.row_order.Goals as goal

pub returns-clause-total : goal.returns-clause-total
returns-clause-total c = then_total (on_total (λ row. row.key) nat_list_cmp_total) (back_total (on_total (λ row. row.time) int_cmp_total))
