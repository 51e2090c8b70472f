-- Rows whose printed text a reader takes back.
use Rattle.std.specs.Prelude.{◌≤◌, ◌==◌, ℕ, suc, List, [], ◌∷◌, if◌then◌else◌, FitsSigned}
use Rattle.std.specs.Int.{w64}
use Rattle.row_cells.specs.declared.schemas.Field.{Field}
use Rattle.row_cells.specs.declared.rows.Cell.{Cell}
use Rattle.row_cells.specs.declared.rows.Cell.TheVariants.{Absent, One, Many, Gauge, Rise}

-- how many parts a path has: one more than its dots
abbrev pub parts_of : List ℕ → ℕ
parts_of [] = 1
parts_of (c ∷ t) = if 46 == c then suc (parts_of t) else parts_of t

-- no path has more than 126 parts, since no text that is read nests deeper than 127 levels
abbrev pub AreShallow : List Field → Type 0
AreShallow [] = Unit {0}
AreShallow (f ∷ fs) = (parts_of f.path ≤ 126) × AreShallow fs

-- the sums and counts have 64 bits, as those of single documents have; a greater number would be read as a float
abbrev pub HasSmallSums : Cell → Type 0
HasSmallSums Absent = Unit {0}
HasSmallSums (One v) = Unit {0}
HasSmallSums (Many vs) = Unit {0}
HasSmallSums (Gauge p) = FitsSigned w64 p.sum × FitsSigned w64 p.count
HasSmallSums (Rise r) = Unit {0}

abbrev pub HaveSmallSums : List Cell → Type 0
HaveSmallSums [] = Unit {0}
HaveSmallSums (c ∷ cs) = HasSmallSums c × HaveSmallSums cs
