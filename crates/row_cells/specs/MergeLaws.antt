-- Rows of a series fold in any grouping, and a fold is a fold of itself.
use Rattle.std.specs.Prelude.{◌≡◌, ℕ, ℤ, List, [], ◌∷◌, Bool, true, false, Option, Some, None}
use Rattle.std.proofs.Common.{refl, ap, add_assoc}
use Rattle.row_cells.specs.declared.schemas.Role.{Role}
use Rattle.row_cells.specs.declared.schemas.Role.TheVariants.{Time, Dimension, Gauge as GaugeRole, Counter, Label}
use Rattle.row_cells.specs.declared.schemas.Field.{Field}
use Rattle.row_cells.specs.declared.schemas.Schema.{Schema}
use Rattle.row_cells.specs.declared.rows.Cell.{Cell}
use Rattle.row_cells.specs.declared.rows.Cell.TheVariants.{Absent, One, Many, Gauge, Rise as RiseCell}
use Rattle.row_cells.specs.declared.rows.Row.{Row}
use Rattle.fold_law.specs.declared.measures.Parts.{Parts}
use Rattle.fold_law.specs.declared.counters.Rise.{Rise}
use Rattle.fold_law.specs.Gauges.{join_present_parts}
use Rattle.fold_law.specs.GaugeLaws.{gauge_laws}
use Rattle.fold_law.specs.Rises.{join_present_rises}
use Rattle.fold_law.specs.RiseLaws.{rising_laws}
use Rattle.row_cells.specs.Merging.{parts_of, cell_of_parts, rise_of, cell_of_rise, last_cell, merge_cell, fold_cell, merge_cells, fold_cells, merge_of_rows, fold_of_row}

parts_of-cell_of_parts : (p : Option Parts) → parts_of (cell_of_parts p) ≡ p
parts_of-cell_of_parts None = refl
parts_of-cell_of_parts (Some p) = refl

rise_of-cell_of_rise : (p : Option Rise) → rise_of (cell_of_rise p) ≡ p
rise_of-cell_of_rise None = refl
rise_of-cell_of_rise (Some p) = refl

parts_assoc : (p q r : Option Parts) → join_present_parts (join_present_parts p q) r ≡ join_present_parts p (join_present_parts q r)
parts_assoc p q r = ap (λ gauge. gauge.0) (gauge_laws.assoc (record { 0 = p }) (record { 0 = q }) (record { 0 = r }))

rises_assoc : (p q r : Option Rise) → join_present_rises (join_present_rises p q) r ≡ join_present_rises p (join_present_rises q r)
rises_assoc p q r = ap (λ rising. rising.0) (rising_laws.assoc (record { 0 = p }) (record { 0 = q }) (record { 0 = r }))

last_cell_assoc : (a b c : Cell) → last_cell (last_cell a b) c ≡ last_cell a (last_cell b c)
last_cell_assoc a b Absent = refl
last_cell_assoc a b (One v) = refl
last_cell_assoc a b (Many vs) = refl
last_cell_assoc a b (Gauge p) = refl
last_cell_assoc a b (RiseCell r) = refl

pub merge_cell_assoc : (rises : Bool) (role : Role) (a b c : Cell) → merge_cell rises role (merge_cell rises role a b) c ≡ merge_cell rises role a (merge_cell rises role b c)
merge_cell_assoc rises Time a b c = refl
merge_cell_assoc rises Dimension a b c = refl
merge_cell_assoc rises GaugeRole a b c =
    rw (parts_of-cell_of_parts (join_present_parts (parts_of a) (parts_of b)), parts_of-cell_of_parts (join_present_parts (parts_of b) (parts_of c))) (ap cell_of_parts (parts_assoc (parts_of a) (parts_of b) (parts_of c)))
merge_cell_assoc true Counter a b c =
    rw (rise_of-cell_of_rise (join_present_rises (rise_of a) (rise_of b)), rise_of-cell_of_rise (join_present_rises (rise_of b) (rise_of c))) (ap cell_of_rise (rises_assoc (rise_of a) (rise_of b) (rise_of c)))
merge_cell_assoc false Counter a b c = last_cell_assoc a b c
merge_cell_assoc rises Label a b c = last_cell_assoc a b c

pub merge_cell-fold_cell_left : (rises : Bool) (role : Role) (a b : Cell) → merge_cell rises role (fold_cell rises role a) b ≡ merge_cell rises role a b
merge_cell-fold_cell_left rises Time a b = refl
merge_cell-fold_cell_left rises Dimension a b = refl
merge_cell-fold_cell_left rises GaugeRole a b = ap (λ p. cell_of_parts (join_present_parts p (parts_of b))) (parts_of-cell_of_parts (parts_of a))
merge_cell-fold_cell_left true Counter a b = ap (λ r. cell_of_rise (join_present_rises r (rise_of b))) (rise_of-cell_of_rise (rise_of a))
merge_cell-fold_cell_left false Counter a b = refl
merge_cell-fold_cell_left rises Label a b = refl

pub merge_cell-fold_cell_right : (rises : Bool) (role : Role) (a b : Cell) → merge_cell rises role a (fold_cell rises role b) ≡ merge_cell rises role a b
merge_cell-fold_cell_right rises Time a b = refl
merge_cell-fold_cell_right rises Dimension a b = refl
merge_cell-fold_cell_right rises GaugeRole a b = ap (λ p. cell_of_parts (join_present_parts (parts_of a) p)) (parts_of-cell_of_parts (parts_of b))
merge_cell-fold_cell_right true Counter a b = ap (λ r. cell_of_rise (join_present_rises (rise_of a) r)) (rise_of-cell_of_rise (rise_of b))
merge_cell-fold_cell_right false Counter a b = refl
merge_cell-fold_cell_right rises Label a b = refl

pub fold_cell-fold_cell : (rises : Bool) (role : Role) (a : Cell) → fold_cell rises role (fold_cell rises role a) ≡ fold_cell rises role a
fold_cell-fold_cell rises Time a = refl
fold_cell-fold_cell rises Dimension a = refl
fold_cell-fold_cell rises GaugeRole a = ap cell_of_parts (parts_of-cell_of_parts (parts_of a))
fold_cell-fold_cell true Counter a = ap cell_of_rise (rise_of-cell_of_rise (rise_of a))
fold_cell-fold_cell false Counter a = refl
fold_cell-fold_cell rises Label a = refl

-- a merge is a fold already
pub fold_cell-merge_cell : (rises : Bool) (role : Role) (a b : Cell) → fold_cell rises role (merge_cell rises role a b) ≡ merge_cell rises role a b
fold_cell-merge_cell rises Time a b = refl
fold_cell-merge_cell rises Dimension a b = refl
fold_cell-merge_cell rises GaugeRole a b = ap cell_of_parts (parts_of-cell_of_parts (join_present_parts (parts_of a) (parts_of b)))
fold_cell-merge_cell true Counter a b = ap cell_of_rise (rise_of-cell_of_rise (join_present_rises (rise_of a) (rise_of b)))
fold_cell-merge_cell false Counter a b = refl
fold_cell-merge_cell rises Label a b = refl

-- a cell in front of equal cells
cons_eq : {x y : Cell} {xs ys : List Cell} → x ≡ y → xs ≡ ys → x ∷ xs ≡ y ∷ ys
cons_eq p q = cc

merge_cells_assoc : (rises : Bool) (fs : List Field) (xs ys zs : List Cell) → merge_cells rises fs (merge_cells rises fs xs ys) zs ≡ merge_cells rises fs xs (merge_cells rises fs ys zs)
merge_cells_assoc rises [] xs ys zs = refl
merge_cells_assoc rises (f ∷ fs) [] ys zs = refl
merge_cells_assoc rises (f ∷ fs) (x ∷ xs) [] zs = refl
merge_cells_assoc rises (f ∷ fs) (x ∷ xs) (y ∷ ys) [] = refl
merge_cells_assoc rises (f ∷ fs) (x ∷ xs) (y ∷ ys) (z ∷ zs) = cons_eq (merge_cell_assoc rises f.role x y z) (merge_cells_assoc rises fs xs ys zs)

merge_cells-fold_cells_left : (rises : Bool) (fs : List Field) (xs ys : List Cell) → merge_cells rises fs (fold_cells rises fs xs) ys ≡ merge_cells rises fs xs ys
merge_cells-fold_cells_left rises [] xs ys = refl
merge_cells-fold_cells_left rises (f ∷ fs) [] ys = refl
merge_cells-fold_cells_left rises (f ∷ fs) (x ∷ xs) [] = refl
merge_cells-fold_cells_left rises (f ∷ fs) (x ∷ xs) (y ∷ ys) = cons_eq (merge_cell-fold_cell_left rises f.role x y) (merge_cells-fold_cells_left rises fs xs ys)

merge_cells-fold_cells_right : (rises : Bool) (fs : List Field) (xs ys : List Cell) → merge_cells rises fs xs (fold_cells rises fs ys) ≡ merge_cells rises fs xs ys
merge_cells-fold_cells_right rises [] xs ys = refl
merge_cells-fold_cells_right rises (f ∷ fs) [] ys = refl
merge_cells-fold_cells_right rises (f ∷ fs) (x ∷ xs) [] = refl
merge_cells-fold_cells_right rises (f ∷ fs) (x ∷ xs) (y ∷ ys) = cons_eq (merge_cell-fold_cell_right rises f.role x y) (merge_cells-fold_cells_right rises fs xs ys)

fold_cells-fold_cells : (rises : Bool) (fs : List Field) (xs : List Cell) → fold_cells rises fs (fold_cells rises fs xs) ≡ fold_cells rises fs xs
fold_cells-fold_cells rises [] xs = refl
fold_cells-fold_cells rises (f ∷ fs) [] = refl
fold_cells-fold_cells rises (f ∷ fs) (x ∷ xs) = cons_eq (fold_cell-fold_cell rises f.role x) (fold_cells-fold_cells rises fs xs)

fold_cells-merge_cells : (rises : Bool) (fs : List Field) (xs ys : List Cell) → fold_cells rises fs (merge_cells rises fs xs ys) ≡ merge_cells rises fs xs ys
fold_cells-merge_cells rises [] xs ys = refl
fold_cells-merge_cells rises (f ∷ fs) [] ys = refl
fold_cells-merge_cells rises (f ∷ fs) (x ∷ xs) [] = refl
fold_cells-merge_cells rises (f ∷ fs) (x ∷ xs) (y ∷ ys) = cons_eq (fold_cell-merge_cell rises f.role x y) (fold_cells-merge_cells rises fs xs ys)

-- a row by its parts
abbrev row_of : List ℕ → ℤ → ℕ → List Cell → Row
row_of key time count cells = record { key = key; time = time; count = count; cells = cells }

row_eq : (key : List ℕ) (time : ℤ) {m n : ℕ} {xs ys : List Cell} → m ≡ n → xs ≡ ys → row_of key time m xs ≡ row_of key time n ys
row_eq key time p q = cc

pub merge_of_rows_assoc : (schema : Schema) (a b c : Row) → merge_of_rows schema (merge_of_rows schema a b) c ≡ merge_of_rows schema a (merge_of_rows schema b c)
merge_of_rows_assoc schema a b c = row_eq a.key a.time (add_assoc a.count b.count c.count) (merge_cells_assoc schema.rises schema.fields a.cells b.cells c.cells)

pub merge_of_rows-fold_of_row_left : (schema : Schema) (a b : Row) → merge_of_rows schema (fold_of_row schema a) b ≡ merge_of_rows schema a b
merge_of_rows-fold_of_row_left schema a b = row_eq a.key a.time refl (merge_cells-fold_cells_left schema.rises schema.fields a.cells b.cells)

pub merge_of_rows-fold_of_row_right : (schema : Schema) (a b : Row) → merge_of_rows schema a (fold_of_row schema b) ≡ merge_of_rows schema a b
merge_of_rows-fold_of_row_right schema a b = row_eq a.key a.time refl (merge_cells-fold_cells_right schema.rises schema.fields a.cells b.cells)

pub fold_of_row-fold_of_row : (schema : Schema) (a : Row) → fold_of_row schema (fold_of_row schema a) ≡ fold_of_row schema a
fold_of_row-fold_of_row schema a = row_eq a.key a.time refl (fold_cells-fold_cells schema.rises schema.fields a.cells)

pub fold_of_row-merge_of_rows : (schema : Schema) (a b : Row) → fold_of_row schema (merge_of_rows schema a b) ≡ merge_of_rows schema a b
fold_of_row-merge_of_rows schema a b = row_eq a.key a.time refl (fold_cells-merge_cells schema.rises schema.fields a.cells b.cells)
