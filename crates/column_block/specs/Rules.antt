-- What values a column may hold.
use Rattle.std.specs.Prelude.{◌≡◌, ℕ, ℤ, pos, ◌≤ℤ◌, ◌-◌, ◌*◌, ◌≤◌, ◌^◌, List, [], ◌∷◌, length, IsUtf8, unsigned_abs}
use Rattle.fold_law.specs.declared.measures.Parts.{Parts}
use Rattle.row_cells.specs.Dimensions.{IsBefore}
use Rattle.row_cells.specs.Each.{Each}
use Rattle.row_cells.specs.Limits.{longest_list, longest_word, most_documents}
use Rattle.column_block.specs.declared.kinds.Values.{Values}
use Rattle.column_block.specs.declared.kinds.Values.TheVariants.{Whole, Parts as PartsOf, Wholes, Words}
use Rattle.column_block.specs.declared.kinds.ColumnKind.{ColumnKind}
use Rattle.column_block.specs.declared.kinds.ColumnKind.TheVariants.{Whole as WholeKind, Parts as PartsKind, Wholes as WholesKind, Words as WordsKind}
use Rattle.column_block.specs.Presence.{present}

abbrev pub kind_of : Values → ColumnKind
kind_of (Whole vs) = WholeKind
kind_of (PartsOf ps) = PartsKind
kind_of (Wholes lists) = WholesKind
kind_of (Words lists) = WordsKind

-- the number of rows
abbrev pub rows_of : Values → ℕ
rows_of (Whole vs) = length vs
rows_of (PartsOf ps) = length ps
rows_of (Wholes lists) = length lists
rows_of (Words lists) = length lists

-- the parts of the documents of an index, each with at most 2^63 - 1 values of 64 bits
pub record AreParts (p : Parts) : Type 0 where
  pub counted : pos 1 ≤ℤ p.count
  pub count_within : p.count ≤ℤ pos (most_documents * (2 ^ 63 - 1))
  pub sum_within : unsigned_abs p.sum ≤ most_documents * 2 ^ 63

abbrev pub AscendAfter : ℤ → List ℤ → Type 0
AscendAfter low [] = Unit {0}
AscendAfter low (v ∷ vs) = (low ≤ℤ v) × AscendAfter v vs

-- no number is below the one before
abbrev pub Ascend : List ℤ → Type 0
Ascend [] = Unit {0}
Ascend (v ∷ vs) = AscendAfter v vs

abbrev pub TextsAscendAfter : List ℕ → List (List ℕ) → Type 0
TextsAscendAfter low [] = Unit {0}
TextsAscendAfter low (t ∷ ts) = IsBefore low t × TextsAscendAfter t ts

-- each text is behind the one before
abbrev pub TextsAscend : List (List ℕ) → Type 0
TextsAscend [] = Unit {0}
TextsAscend (t ∷ ts) = TextsAscendAfter t ts

pub record IsText (t : List ℕ) : Type 0 where
  pub utf8 : IsUtf8 t
  pub short : length t ≤ longest_word

pub record IsNumberRow (vs : List ℤ) : Type 0 where
  pub few : length vs ≤ longest_list
  pub ascend : Ascend vs

pub record IsTextRow (ts : List (List ℕ)) : Type 0 where
  pub few : length ts ≤ longest_list
  pub ascend : TextsAscend ts
  pub texts : Each IsText ts

-- The rules of a column by itself. Whole numbers are any of 64 bits.
abbrev pub KeepsRules : Values → Type 0
KeepsRules (Whole vs) = Unit {0}
KeepsRules (PartsOf ps) = Each AreParts (present ps)
KeepsRules (Wholes lists) = Each IsNumberRow lists
KeepsRules (Words lists) = Each IsTextRow lists

-- what a column of a kind and a number of rows may hold
pub record IsColumnOf (kind : ColumnKind) (rows : ℕ) (vs : Values) : Type 0 where
  pub kind_is : kind_of vs ≡ kind
  pub rows_are : rows_of vs ≡ rows
  pub rules : KeepsRules vs
