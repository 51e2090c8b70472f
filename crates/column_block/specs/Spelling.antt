-- The bytes of a column.
use Rattle.std.specs.Prelude.{◌≡◌, ◌↔◌, ◌⊎◌, ℕ, ℤ, pos, ◌+ℤ◌, ◌*ℤ◌, ◌+◌, ◌^◌, List, [], ◌∷◌, ◌++◌, length, map, unsigned_abs, if◌then◌else◌}
use Rattle.std.specs.Int.{w64, to_be_bytes, int_div_euclid, int_rem_euclid, cast_signed, cast_unsigned}
use Rattle.std.specs.List.{flat_map}
use Rattle.std.specs.Str.{bytes_eq}
use Rattle.fold_law.specs.declared.measures.Parts.{Parts}
use Rattle.column_block.specs.declared.kinds.Values.{Values}
use Rattle.column_block.specs.declared.kinds.Values.TheVariants.{Whole, Parts as PartsOf, Wholes, Words}
use Rattle.packed_lists.specs.Lists.{joined}
use Rattle.packed_lists.specs.Nums.{AreNums}
use Rattle.row_cells.specs.Dimensions.{text_bytes}
use Rattle.column_block.specs.Presence.{presence, present, flags_of}
use Rattle.column_block.specs.Rules.{TextsAscend}

-- the higher half of a number of 128 bits, rounded down
abbrev pub high : ℤ → ℤ
high s = int_div_euclid s (pos (2 ^ 64))

-- the lower half, read as signed
abbrev pub low : ℤ → ℤ
low s = cast_signed w64 (unsigned_abs (int_rem_euclid s (pos (2 ^ 64))))

-- the number of two halves
abbrev pub whole_of : ℤ → ℤ → ℤ
whole_of h l = (h *ℤ pos (2 ^ 64)) +ℤ pos (cast_unsigned w64 l)

-- minima, maxima, sums and counts, the latter two by halves
abbrev pub six_lists : List Parts → List (List ℤ)
six_lists ps =
    map (λ p. p.min) ps ∷ map (λ p. p.max) ps
    ∷ map (λ p. high p.sum) ps ∷ map (λ p. low p.sum) ps
    ∷ map (λ p. high p.count) ps ∷ map (λ p. low p.count) ps ∷ []

abbrev pub IsIn : {A : Type 0} → A → List A → Type 0
IsIn x [] = ⊥
IsIn x (y ∷ ys) = (x ≡ y) ⊎ IsIn x ys

abbrev pub lengths : {A : Type 0} → List (List A) → List ℤ
lengths lists = map (λ xs. pos (length xs)) lists

-- the texts that occur in some lists, each once, ascending
pub record IsTableOf (texts : List (List ℕ)) (lists : List (List (List ℕ))) : Type 0 where
  pub ascend : TextsAscend texts
  pub occur : (t : List ℕ) → IsIn t texts ↔ IsIn t (joined lists)

-- the place of a text in a table, from 0
abbrev pub ordinal : List (List ℕ) → List ℕ → ℕ
ordinal [] t = 0
ordinal (u ∷ us) t = if bytes_eq u t then 0 else 1 + ordinal us t

abbrev pub ordinals : List (List ℕ) → List (List ℕ) → List ℤ
ordinals texts ts = map (λ t. pos (ordinal texts t)) ts

-- eight bytes of how many texts there are, and the texts
abbrev pub table_bytes : List (List ℕ) → List ℕ
table_bytes texts = to_be_bytes w64 (length texts) ++ flat_map text_bytes texts

-- the bytes are these first ones, and then the lists of numbers
abbrev pub IsAhead : List ℕ → List (List ℤ) → List ℕ → Type 0
IsAhead front lists bytes = (rest : List ℕ) × AreNums lists rest × (bytes ≡ front ++ rest)

-- The bytes are those of the values:
-- whole numbers by which rows have one, and the numbers; parts by which rows have some, and six lists of numbers;
-- lists by their lengths, and all numbers; texts by their table, the lengths of the lists, and the places of all texts.
abbrev pub Spells : Values → List ℕ → Type 0
Spells (Whole vs) bytes = IsAhead (presence (flags_of vs)) (present vs ∷ []) bytes
Spells (PartsOf ps) bytes = IsAhead (presence (flags_of ps)) (six_lists (present ps)) bytes
Spells (Wholes lists) bytes = AreNums (lengths lists ∷ joined lists ∷ []) bytes
Spells (Words lists) bytes = (texts : List (List ℕ)) × IsTableOf texts lists
    × IsAhead (table_bytes texts) (lengths lists ∷ ordinals texts (joined lists) ∷ []) bytes
