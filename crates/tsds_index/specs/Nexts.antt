-- Keys of series behind another.
use Rattle.std.specs.Prelude.{◌≡◌, ℕ, true, false, if◌then◌else◌, Option, Some, None, List, [], ◌∷◌, filter}
use Rattle.std.specs.Cmp.Lexicographic.{slice_cmp}
use Rattle.std.specs.Ordering.{is_gt, is_le, nat_cmp}
use Rattle.row_cells.specs.declared.rows.Row.{Row}
use Rattle.row_cells.specs.Each.{Each}
use Rattle.row_cells.specs.RowLists.{IsAmong}
use Rattle.index_segment.specs.Looks.{is_behind}

-- the lesser of two keys, where both are there
abbrev pub lesser : Option (List ℕ) → Option (List ℕ) → Option (List ℕ)
lesser None other = other
lesser (Some k) None = Some k
lesser (Some k) (Some j) = if is_le (slice_cmp nat_cmp k j) then Some k else Some j

-- the key of the first row that has one behind another
abbrev pub first_key : Option (List ℕ) → List Row → Option (List ℕ)
first_key before [] = None
first_key before (row ∷ rows) = if is_behind before row.key then Some row.key else first_key before rows

-- a key stands at or before another
abbrev pub IsUpToKey : List ℕ → List ℕ → Type 0
IsUpToKey k j = is_gt (slice_cmp nat_cmp k j) ≡ false

-- the key is the least of those behind another that rows have, or there is none
abbrev pub IsNext : Option (List ℕ) → List Row → Option (List ℕ) → Type 0
IsNext before rows None = Each (λ r. is_behind before r.key ≡ false) rows
IsNext before rows (Some k) = (is_behind before k ≡ true) × ((r : Row) × IsAmong r rows × (r.key ≡ k)) × Each (λ r. is_behind before r.key ≡ true → IsUpToKey k r.key) rows

-- the keys behind another, or all
abbrev pub keys_behind : Option (List ℕ) → List (List ℕ) → List (List ℕ)
keys_behind before keys = filter (is_behind before) keys
