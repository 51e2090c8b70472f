-- Lists of texts by their places in a table.
use Rattle.std.specs.Prelude.{◌≡◌, ◌↔◌, ℕ, ℤ, pos, ◌+ℤ◌, ◌≤ℤ◌, ◌<ℤ◌, ◌<◌, Bool, false, IsTrue, List, [], ◌∷◌, length, map, get_or, unsigned_abs}
use Rattle.row_cells.specs.Each.{Each}
use Rattle.packed_lists.specs.Lists.{Fronted, joined}
use Rattle.column_block.specs.Rules.{IsText, IsTextRow, TextsAscend}
use Rattle.column_block.specs.Spelling.{IsIn, IsTableOf, ordinals, table_bytes}

-- the texts at some places of a table
abbrev pub texts_at : List (List ℕ) → List ℤ → List (List ℕ)
texts_at texts places = map (λ place. get_or texts (unsigned_abs place) []) places

-- lists of texts, by the places of all of them
abbrev pub worded : List (List ℕ) → List (List ℤ) → List (List (List ℕ))
worded texts rows = map (texts_at texts) rows

-- two lists have the same texts
abbrev pub HaveSame : List (List ℕ) → List (List ℕ) → Type 0
HaveSame a b = (t : List ℕ) → IsIn t a ↔ IsIn t b

-- places below a count, each above the one before
abbrev pub ClimbFrom : ℤ → ℤ → List ℤ → Type 0
ClimbFrom low count [] = Unit {0}
ClimbFrom low count (v ∷ vs) = (low ≤ℤ v) × (v <ℤ count) × ClimbFrom (v +ℤ pos 1) count vs

-- lists of places in a table of so many texts, each of which some list has
pub record AreOrdinals (count : ℕ) (rows : List (List ℤ)) : Type 0 where
  pub climb : Each (ClimbFrom (pos 0) (pos count)) rows
  pub occur : (k : ℕ) → k < count → IsIn (pos k) (joined rows)

-- the marked places are those that are among some numbers
abbrev pub AreMarked : List ℤ → List Bool → Type 0
AreMarked numbers seen = (k : ℕ) → k < length seen → IsTrue (get_or seen k false) ↔ IsIn (pos k) numbers

-- texts that can be a table by themselves
pub record AreTexts (texts : List (List ℕ)) : Type 0 where
  pub ascend : TextsAscend texts
  pub each : Each IsText texts

-- what is kept of lists of texts: the table behind which the places of all texts stand
pub record AreWords (texts : List (List ℕ)) (rows : Fronted) (lists : List (List (List ℕ))) : Type 0 where
  pub table : IsTableOf texts lists
  pub front : rows.front ≡ table_bytes texts
  pub rows_are : rows.lists ≡ map (ordinals texts) lists
  pub rules : Each IsTextRow lists
