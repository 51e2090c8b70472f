-- Lists of lists, and those of numbers behind other bytes.
use Rattle.std.specs.Prelude.{◌≡◌, ℕ, ℤ, ◌≤◌, List, [], ◌∷◌, length, map, take, drop}
use Rattle.std.specs.List.{flat_map}
use Rattle.packed_lists.specs.Nums.{AreNums}
use Rattle.packed_lists.specs.Decoded.{ArePlaced}

-- all items of some lists, in order
abbrev pub joined : {A : Type 0} → List (List A) → List A
joined lists = flat_map (λ xs. xs) lists

-- how many items stand in the lists before a place
abbrev pub items_before : {A : Type 0} → List (List A) → ℕ → ℕ
items_before xs k = length (joined (take k xs))

-- two groups of lists are as long, list by list
abbrev pub AreAlike : List (List ℤ) → List (List ℤ) → Type 0
AreAlike [] [] = Unit {0}
AreAlike [] (w ∷ ws) = ⊥
AreAlike (v ∷ vs) [] = ⊥
AreAlike (v ∷ vs) (w ∷ ws) = (length v ≡ length w) × AreAlike vs ws

-- lists, behind some bytes
pub record Fronted : Type 0 where
  pub front : List ℕ
  pub lists : List (List ℤ)

-- what is kept of them: the bytes of all, where the blocks of each begin, and how many numbers each has
pub record AreHeld (front : ℕ) (bytes : List ℕ) (places : List (List ℕ)) (lens : List ℕ) (lists : List (List ℤ)) : Type 0 where
  pub inside : front ≤ length bytes
  pub spelled : AreNums lists (drop front bytes)
  pub placed : ArePlaced bytes places lists
  pub counted : lens ≡ map (λ (vs : List ℤ). length vs) lists
