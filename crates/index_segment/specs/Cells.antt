-- What a column has for a cell, and the cell back.
use Rattle.std.specs.Prelude.{ℕ, ℤ, pos, Bool, true, false, if◌then◌else◌, List, [], ◌∷◌, map, Option, Some, None}
use Rattle.std.specs.Ordering.{int_eq}
use Rattle.column_block.specs.Spelling.{high, low, whole_of}
use Rattle.fold_law.specs.declared.measures.Parts.{Parts}
use Rattle.fold_law.specs.declared.counters.Rise.{Rise}
use Rattle.row_cells.specs.declared.scalars.Scalar.{Scalar}
use Rattle.row_cells.specs.declared.scalars.Scalar.TheVariants.{Whole, Flag, Word}
use Rattle.row_cells.specs.declared.rows.Cell.{Cell}
use Rattle.row_cells.specs.declared.rows.Cell.TheVariants.{Absent, One, Many, Gauge, Rise as RiseCell}
use Rattle.index_segment.specs.declared.gather.Number.{Number}
use Rattle.index_segment.specs.declared.gather.Number.TheVariants.{Value, First, Last, High, Low}

-- ---- what columns have

abbrev pub whole_in : Cell → Option ℤ
whole_in (One (Whole v)) = Some v
whole_in cell = None

abbrev pub parts_in : Cell → Option Parts
parts_in (Gauge p) = Some p
parts_in cell = None

abbrev pub first_in : Cell → Option ℤ
first_in (RiseCell r) = Some r.first
first_in cell = None

abbrev pub last_in : Cell → Option ℤ
last_in (RiseCell r) = Some r.last
last_in cell = None

-- the higher half of an increase, rounded down
abbrev pub high_in : Cell → Option ℤ
high_in (RiseCell r) = Some (high r.increase)
high_in cell = None

-- the lower half, read as signed
abbrev pub low_in : Cell → Option ℤ
low_in (RiseCell r) = Some (low r.increase)
low_in cell = None

-- which number of a cell a column of whole numbers has
abbrev pub number_of : Number → Cell → Option ℤ
number_of Value cell = whole_in cell
number_of First cell = first_in cell
number_of Last cell = last_in cell
number_of High cell = high_in cell
number_of Low cell = low_in cell

-- truth values are 0 and 1
abbrev pub flag_number : Bool → ℤ
flag_number true = pos 1
flag_number false = pos 0

abbrev pub number_in : Scalar → ℤ
number_in (Whole v) = v
number_in (Flag b) = flag_number b
number_in (Word t) = pos 0

abbrev pub numbers_in : Cell → List ℤ
numbers_in (Many vs) = map number_in vs
numbers_in cell = []

abbrev pub text_in : Scalar → List ℕ
text_in (Word t) = t
text_in (Whole v) = []
text_in (Flag b) = []

abbrev pub texts_in : Cell → List (List ℕ)
texts_in (Many vs) = map text_in vs
texts_in cell = []

-- ---- the cells back

abbrev pub cell_of_whole : Option ℤ → Cell
cell_of_whole None = Absent
cell_of_whole (Some v) = One (Whole v)

-- a rise by its four numbers, where all are there
abbrev pub rise_from : Option ℤ → Option ℤ → Option ℤ → Option ℤ → Option Rise
rise_from (Some f) (Some l) (Some h) (Some n) = Some (record { first = f; last = l; increase = whole_of h n })
rise_from f l h n = None

abbrev pub some_values : List Scalar → Cell
some_values [] = Absent
some_values (v ∷ vs) = Many (v ∷ vs)

abbrev pub flag_in : ℤ → Scalar
flag_in n = Flag (if int_eq n (pos 0) then false else true)

abbrev pub cell_of_numbers : List ℤ → Cell
cell_of_numbers ns = some_values (map Whole ns)

abbrev pub cell_of_flags : List ℤ → Cell
cell_of_flags ns = some_values (map flag_in ns)

abbrev pub cell_of_texts : List (List ℕ) → Cell
cell_of_texts ts = some_values (map Word ts)
