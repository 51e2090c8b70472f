-- Rows of different series or times.
use Rattle.std.specs.Prelude.{◌≡◌, List}
use Rattle.std.specs.declared.cmp.Ordering.TheVariants.{Equal}
use Rattle.row_cells.specs.Order.{row_cmp}
use Rattle.row_cells.specs.declared.rows.Row.{Row}
use Rattle.row_cells.specs.Each.{Each}

-- two rows aren't of one series and time
abbrev pub IsApart : Row → Row → Type 0
IsApart row other = row_cmp row other ≡ Equal → ⊥

-- a row isn't of the series and time of one of these
abbrev pub IsApartFromAll : List Row → Row → Type 0
IsApartFromAll others row = Each (IsApart row) others
