-- Where a series and a time stand among rows in row order.
use Rattle.std.specs.Prelude.{◌≡◌, ℕ, ℤ, ◌≤◌, List, [], length}
use Rattle.std.specs.declared.cmp.Ordering.TheVariants.{Less}
use Rattle.row_cells.specs.declared.rows.Row.{Row}
use Rattle.row_cells.specs.Each.{Each}
use Rattle.row_cells.specs.Order.{row_cmp}
use Rattle.row_cells.specs.RowLists.{AreInRowOrder}
use Rattle.tsds_index.specs.Limits.{longest_buffer}

-- a row of a series and a time, which has nothing else
abbrev pub place_row : List ℕ → ℤ → Row
place_row key time = record { key = key; time = time; count = 0; cells = [] }

-- each row stands before a row
abbrev pub AllBefore : Row → List Row → Type 0
AllBefore row rows = Each (λ r. row_cmp r row ≡ Less) rows

-- none does
abbrev pub NoneBefore : Row → List Row → Type 0
NoneBefore row rows = Each (λ r. row_cmp r row ≡ Less → ⊥) rows

-- rows in row order that a write buffer may have
pub record IsBuffer (rows : List Row) : Type 0 where
  pub in_order : AreInRowOrder rows
  pub few : length rows ≤ longest_buffer
