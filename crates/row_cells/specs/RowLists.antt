-- Lists of rows: in row order, fitting, and how many documents they stand for.
use Rattle.std.specs.Prelude.{◌≡◌, ◌⊎◌, ◌&&◌, ℕ, ℤ, ◌+◌, Bool, List, [], ◌∷◌, if◌then◌else◌}
use Rattle.std.specs.List.{list_any}
use Rattle.std.specs.Str.{bytes_eq}
use Rattle.std.specs.Ordering.{is_le, int_eq}
use Rattle.std.specs.declared.cmp.Ordering.TheVariants.{Less, Equal}
use Rattle.row_cells.specs.declared.schemas.Schema.{Schema}
use Rattle.row_cells.specs.declared.rows.Row.{Row}
use Rattle.row_cells.specs.Each.{Each}
use Rattle.row_cells.specs.Fitting.{Fits}
use Rattle.row_cells.specs.Order.{row_cmp}

-- each row fits the schema
abbrev pub AllFit : Schema → List Row → Type 0
AllFit schema rows = Each (Fits schema) rows

-- a row stands before each of these
abbrev pub AllAfter : Row → List Row → Type 0
AllAfter row rows = Each (λ next. row_cmp row next ≡ Less) rows

-- rows in row order, no two of one series and time
abbrev pub AreInRowOrder : List Row → Type 0
AreInRowOrder [] = Unit {0}
AreInRowOrder (row ∷ rows) = AllAfter row rows × AreInRowOrder rows

-- the row put among rows in row order
abbrev pub insert_row : Row → List Row → List Row
insert_row row [] = row ∷ []
insert_row row (first ∷ rest) = if is_le (row_cmp row first) then row ∷ first ∷ rest else first ∷ insert_row row rest

-- the rows sorted: by key, and the latest first within a series
abbrev pub in_row_order : List Row → List Row
in_row_order [] = []
in_row_order (row ∷ rows) = insert_row row (in_row_order rows)

-- how many documents rows stand for
abbrev pub documents : List Row → ℕ
documents [] = 0
documents (row ∷ rows) = row.count + documents rows

-- a row is one of these
abbrev pub IsAmong : Row → List Row → Type 0
IsAmong row [] = ⊥
IsAmong row (first ∷ rest) = (first ≡ row) ⊎ IsAmong row rest

-- no two rows are of one series and time
abbrev pub AreDistinct : List Row → Type 0
AreDistinct [] = Unit {0}
AreDistinct (row ∷ rows) = Each (λ other. row_cmp row other ≡ Equal → ⊥) rows × AreDistinct rows

-- no row of one list has the series and time of a row of the other
abbrev pub AreApart : List Row → List Row → Type 0
AreApart rows others = Each (λ row. Each (λ other. row_cmp row other ≡ Equal → ⊥) others) rows

-- some row is of this series and time
abbrev pub has_place : List ℕ → ℤ → List Row → Bool
has_place key time rows = list_any (λ row. bytes_eq row.key key && int_eq row.time time) rows

-- the first of the rows stands behind a row, and each of the others behind the one before it
abbrev pub AreBehind : Row → List Row → Type 0
AreBehind before [] = Unit {0}
AreBehind before (row ∷ rows) = (row_cmp before row ≡ Less) × AreBehind row rows
