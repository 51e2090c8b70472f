-- From which segment on they are joined, told from the newest on.
use Rattle.std.specs.Prelude.{◌≡◌, ℕ, suc, ◌+◌, ◌-◌, ◌^◌, ◌≤◌, Bool, true, false, if◌then◌else◌, List, [], ◌∷◌, ◌++◌, length, reverse}
use Rattle.std.proofs.Common.{refl, ap, sym, ◌∙◌, arith}
use Rattle.std.proofs.lemmas.List.{length-append, map-append, reverse-append}
use Rattle.index_segment.specs.Held.{Held}
use Rattle.tsds_index.specs.Sealing.{is_joined, joined_count}
use Rattle.tsds_index.specs.Segments.{lists_in}
use Rattle.tsds_index.specs.Spread.{newest_first}
use Rattle.tsds_index.proofs.Looked.{newest_is}

pub last_first : (left older : List Held) (s : Held) → left ≡ older ++ s ∷ [] → reverse (lists_in left) ≡ s.rows ∷ reverse (lists_in older)
last_first left older s is =
    ap (λ gs. reverse (lists_in gs)) is ∙ (ap reverse (map-append (λ (h : Held). h.rows) older (s ∷ [])) ∙ reverse-append (lists_in older) (s.rows ∷ []))

-- of all segments some are joined already to so many rows, and some are left
pub record AreJoining (all left : List Held) (rows size : ℕ) : Type 0 where
  pub few : size + length (newest_first (lists_in left)) ≤ 2 ^ 32
  pub counted : joined_count size (reverse (lists_in left)) + length all ≡ joined_count rows (reverse (lists_in all)) + length left

pub join_begun : (all : List Held) (rows : ℕ) → rows + length (newest_first (lists_in all)) ≤ 2 ^ 32 → AreJoining all all rows rows
join_begun all rows few = record { few = few; counted = refl }

module _ (all left older : List Held) (s : Held) (rows size n : ℕ) (left_is : left ≡ older ++ s ∷ []) (n_is : n ≡ length s.rows) (are : AreJoining all left rows size) where
  long : length left ≡ length older + 1
  long = ap length left_is ∙ length-append older (s ∷ [])

  sized : length (newest_first (lists_in left)) ≡ length s.rows + length (newest_first (lists_in older))
  sized = ap length (newest_is left older s left_is) ∙ length-append s.rows (newest_first (lists_in older))

  pub size_few : size + n ≤ 2 ^ 32
  size_few = omega (arith, are.few, sized, n_is)

  told : (b : Bool) → is_joined n size ≡ b → joined_count size (reverse (lists_in left)) ≡ (if b then suc (joined_count (size + n) (reverse (lists_in older))) else 0)
  told b is =
      ap (joined_count size) (last_first left older s left_is)
      ∙ (ap (λ k. if is_joined k size then suc (joined_count (size + k) (reverse (lists_in older))) else 0) (sym n_is)
      ∙ ap (λ (v : Bool). if v then suc (joined_count (size + n) (reverse (lists_in older))) else 0) is)

  pub join_more : true ≡ is_joined n size → AreJoining all older rows (size + n)
  join_more is = record {
    few = omega (arith, are.few, sized, n_is);
    counted = omega (arith, are.counted, told true (sym is), long);
  }

  pub join_stops : false ≡ is_joined n size → length left ≡ length all - joined_count rows (reverse (lists_in all))
  join_stops is = omega (arith, are.counted, told false (sym is))

pub join_ends : (all left : List Held) (rows size : ℕ) → left ≡ [] → AreJoining all left rows size → 0 ≡ length all - joined_count rows (reverse (lists_in all))
join_ends all left rows size none are = omega (arith, are.counted, ap (λ gs. joined_count size (reverse (lists_in gs))) none, ap length none)
