-- Rows that stand each behind the one before it are in row order.
use Rattle.std.specs.Prelude.{◌≡◌, ◌↔◌, List, [], ◌∷◌}
use Rattle.std.specs.declared.cmp.Ordering.TheVariants.{Less}
use Rattle.row_cells.specs.declared.rows.Row.{Row}
use Rattle.row_cells.specs.EachLaws.{Each-weaker}
use Rattle.row_cells.specs.Order.{row_cmp}
use Rattle.row_cells.specs.OrderLaws.{row_cmp_total}
use Rattle.row_cells.specs.RowLists.{AllAfter, AreBehind, AreInRowOrder}

-- what stands before a row stands before all that it stands before
all_after : (first row : Row) (rows : List Row) → row_cmp first row ≡ Less → AllAfter row rows → AllAfter first rows
all_after first row rows less after = Each-weaker (λ next. row_cmp row next ≡ Less) (λ next. row_cmp first next ≡ Less) (λ next later. row_cmp_total.trans first row next less later) rows after

in_order : (before : Row) (rows : List Row) → AreBehind before rows → AreInRowOrder (before ∷ rows)
in_order before [] are = (tt, tt)
in_order before (row ∷ rows) are =
    let rest = in_order row rows are.1 in
    ((are.0, all_after before row rows are.0 rest.0), rest)

behind : (before : Row) (rows : List Row) → AreInRowOrder (before ∷ rows) → AreBehind before rows
behind before [] are = tt
behind before (row ∷ rows) are = (are.0.0, behind row rows are.1)

pub chained : (before : Row) (rows : List Row) → AreBehind before rows ↔ AreInRowOrder (before ∷ rows)
chained before rows = (in_order before rows, behind before rows)
