-- What a read of an id's parts shows.
use Rattle.std.specs.Prelude.{◌≡◌, ℕ, pos, zero, suc, ◌-◌, ◌+◌, ◌<◌, ◌≤ℤ◌, Option, Some, None, IsNone, IsSomeAnd, List, [], ◌∷◌, ◌++◌, length}
use Rattle.std.specs.Int.{w64, to_be_bytes, from_be_bytes}
use Rattle.std.proofs.Common.{ap, ◌∙◌, sym, arith, get_or, take, drop, subst, to_z, length-drop}
use Rattle.std.proofs.lemmas.Int.{ints}
use Rattle.std.proofs.lemmas.List.{take-append-drop}
use Rattle.std.proofs.lemmas.Nat.{be_bytes_8}
use Rattle.edge_face.specs.Limits.{last_instant}
use Rattle.time_text.specs.Instant.{IsInstant}
use Rattle.series_id.specs.Ids.{id_bytes}

small_drop : (n : ℕ) (xs : List ℕ) → ((i : ℕ) → get_or xs i 0 < 256) → (i : ℕ) → get_or (drop n xs) i 0 < 256
small_drop zero xs small i = small i
small_drop (suc n) [] small i = omega arith
small_drop (suc n) (x ∷ xs) small i = small_drop n xs (λ k. small (suc k)) i

instant_of : (r : ℕ) → pos r ≤ℤ last_instant → IsInstant (pos r)
instant_of r within = (omega (arith, ints), within)

-- the last eight bytes are the time
pub time_read : (bytes key last : List ℕ) (r : ℕ) → key ≡ take (length bytes - 8) bytes → last ≡ drop (length bytes - 8) bytes → length key + 8 ≡ length bytes → ((i : ℕ) → get_or bytes i 0 < 256) → r ≡ from_be_bytes w64 last → pos r ≤ℤ last_instant → (bytes ≡ id_bytes key (to_z w64 r)) × IsInstant (to_z w64 r)
time_read bytes key last r key_is last_is whole_is small read within =
    let n = length bytes - 8 in
    let eight : length last ≡ 8 = omega (arith, ap length last_is, length-drop (length bytes - 8) bytes, whole_is) in
    let is : to_z w64 r ≡ pos r = omega (arith, ints, within) in
    let last_small : (i : ℕ) → get_or last i 0 < 256 = λ i. rw last_is (small_drop n bytes small i) in
    let spelled : to_be_bytes w64 r ≡ last = be_bytes_8 last r eight last_small read in
    let whole : bytes ≡ key ++ last = sym (rw (key_is, last_is) (take-append-drop n bytes)) in
    rw is (whole ∙ ap (λ t. key ++ t) (sym spelled), instant_of r within)

pub not_absent : {A : Type 0} (P : A → Type 0) (o : Option A) → IsNone o → IsSomeAnd o P → ⊥
not_absent P None none some = some
not_absent P (Some x) none some = cc none

pub at_some : {A : Type 0} (P : A → Type 0) (o : Option A) (x : A) → o ≡ Some x → IsSomeAnd o P → P x
at_some P o x is some = subst (λ r. IsSomeAnd r P) is some
