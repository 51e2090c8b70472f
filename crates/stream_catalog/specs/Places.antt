-- Where names stand in lists by names, for private clauses.
use Rattle.std.specs.Prelude.{◌≡◌, ℕ, suc, ◌<◌, ◌≤◌, Bool, List, [], ◌∷◌, drop, filter, length, slice_index_or, slice_set, Some, None, if◌then◌else◌}
use Rattle.std.specs.List.{insert, remove}
use Rattle.std.specs.Ordering.{is_lt, nat_cmp}
use Rattle.std.specs.Cmp.Lexicographic.{slice_cmp}
use Rattle.stream_catalog.specs.Lists.{found_by, inserted, updated, without}

-- how many at the front have lesser names
abbrev pub place_of : {A : Type 0} → (A → List ℕ) → List ℕ → List A → ℕ
place_of name n [] = 0
place_of name n (x ∷ xs) = if is_lt (slice_cmp nat_cmp (name x) n) then suc (place_of name n xs) else 0

-- the one of a name is at a place, and is found, changed, taken out and replaced there
pub record IsHereAt {A : Type 0} (name : A → List ℕ) (n : List ℕ) (xs : List A) (at : ℕ) : Type 0 where
  pub within : at < length xs
  pub found : (d : A) → found_by name n xs ≡ Some (slice_index_or xs at d)
  pub changed : (g : A → A) (d : A) → updated name n g xs ≡ slice_set xs at (g (slice_index_or xs at d))
  pub left : without name n xs ≡ remove xs at
  pub replaced : (x : A) → name x ≡ n → inserted name x (without name n xs) ≡ slice_set xs at x

-- none has the name, and one that has it is put at a place
pub record IsAbsentAt {A : Type 0} (name : A → List ℕ) (n : List ℕ) (xs : List A) (at : ℕ) : Type 0 where
  pub within : at ≤ length xs
  pub none : found_by name n xs ≡ None
  pub put : (x : A) → name x ≡ n → inserted name x xs ≡ insert xs at x

-- from a place on a test keeps all
abbrev pub AllKept : {A : Type 0} → (A → Bool) → List A → ℕ → Type 0
AllKept p xs m = filter p (drop m xs) ≡ drop m xs
