-- Rows in row order on both sides of a place.
use Rattle.std.specs.Prelude.{◌≡◌, List}
use Rattle.std.specs.declared.cmp.Ordering.TheVariants.{Less}
use Rattle.row_cells.specs.declared.rows.Row.{Row}
use Rattle.row_cells.specs.Each.{Each}
use Rattle.row_cells.specs.Order.{row_cmp}

-- each row stands behind a row
abbrev pub AllBehind : Row → List Row → Type 0
AllBehind row rows = Each (λ r. row_cmp row r ≡ Less) rows

-- none does
abbrev pub NoneBehind : Row → List Row → Type 0
NoneBehind row rows = Each (λ r. row_cmp row r ≡ Less → ⊥) rows
