-- What a read of a text and of an entry's bytes shows.
use Rattle.std.specs.Prelude.{◌≡◌, ℕ, ◌-◌, ◌<◌, ◌^◌, List, ◌++◌, length}
use Rattle.std.specs.Int.{w16, to_be_bytes, from_be_bytes}
use Rattle.std.proofs.Common.{refl, ap, ◌∙◌, arith, take, drop, length-append}
use Rattle.std.proofs.Math.Seq.{take-append_seam, drop-append_seam}
use Rattle.std.proofs.lemmas.Nat.{from_be_bytes-to_be_bytes_2}
use Rattle.row_cells.specs.Dimensions.{text_bytes}

pub take_front : (a b : List ℕ) (n : ℕ) → n ≡ length a → take n (a ++ b) ≡ a
take_front a b n is = ap (λ k. take k (a ++ b)) is ∙ take-append_seam a b

pub drop_front : (a b : List ℕ) (n : ℕ) → n ≡ length a → drop n (a ++ b) ≡ b
drop_front a b n is = ap (λ k. drop k (a ++ b)) is ∙ drop-append_seam a b

-- two bytes of length and what follows them
pub record Counted (text rest tail : List ℕ) (count : ℕ) : Type 0 where
  pub tail_is : tail ≡ text ++ rest
  pub count_is : count ≡ length text

pub counted : (bytes head tail text rest : List ℕ) (count : ℕ) → head ≡ take 2 bytes → tail ≡ drop 2 bytes → count ≡ from_be_bytes w16 head → length text < 2 ^ 16 → bytes ≡ text_bytes text ++ rest → Counted text rest tail count
counted bytes head tail text rest count head_is tail_is read short same =
    let split : bytes ≡ to_be_bytes w16 (length text) ++ (text ++ rest) = same in
    let front : head ≡ to_be_bytes w16 (length text) = head_is ∙ (ap (take 2) split ∙ refl) in
    let back : tail ≡ text ++ rest = tail_is ∙ (ap (drop 2) split ∙ refl) in
    record { tail_is = back; count_is = read ∙ (ap (from_be_bytes w16) front ∙ from_be_bytes-to_be_bytes_2 (length text) short) }

-- what is left of the bytes after an entry, by its length
pub entry_cut : (bytes a rest left : List ℕ) → bytes ≡ a ++ rest → left ≡ rest → (take (length bytes - length left) bytes ≡ a) × (drop (length bytes - length left) bytes ≡ rest)
entry_cut bytes a rest left same is =
    let n : length bytes - length left ≡ length a = omega (arith, ap length same, length-append a rest, ap length is) in
    (ap (take (length bytes - length left)) same ∙ take_front a rest (length bytes - length left) n, ap (drop (length bytes - length left)) same ∙ drop_front a rest (length bytes - length left) n)
