use Rattle.std.proofs.Common.{◌↔◌, IsTrue, sym, subst}
use Rattle.row_cells.specs.RowLists.{AreInRowOrder}
use Rattle.row_cells.proofs.Chained.{chained}
use Rattle.row_cells.proofs.checks.are_in_row_order.Goals as goal

pub returns-in-Some : goal.returns-in-Some
returns-in-Some c =
    let chain = chained c.in-Some.first.now c.in-Some.behind.now in
    subst (λ rows. IsTrue c.are_behind.result ↔ AreInRowOrder rows) (sym c.in-Some.ensures.cases.0)
    ((λ yes. chain.0 (c.are_behind.ensures.0 yes)), (λ order. c.are_behind.ensures.1 (chain.1 order)))
