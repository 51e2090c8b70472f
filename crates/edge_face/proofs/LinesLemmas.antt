-- Which piece the bytes that wait show.
use Rattle.std.proofs.Common.{◌≡◌, ◌∙◌, ℕ, suc, ◌+◌, ◌-◌, ◌<◌, ◌≤◌, ◌==◌, inl, inr, Bool, true, false, cond, nat_lt, ◌&&◌, Option, None, Some, IfSome, add-one, append-nil, List, [], ◌∷◌, ◌++◌, length, take, drop, refl, ap, sym, arith, eq-eqb, length-take}
use Rattle.std.specs.List.{slice_index}
use Rattle.std.specs.Io.BufRead.{strip_last, ends_with_byte}
use Rattle.std.proofs.lemmas.Bool.{ne_eqb}
use Rattle.std.proofs.lemmas.List.{get_or-take}
use Rattle.std.proofs.Math.Seq.{take-length, drop-length}
use Rattle.std.proofs.lemmas.Bool.{lt-ltb}
use Rattle.edge_face.specs.LinesLaws.{piece-at, after-at, piece-none, after-none}
use Rattle.edge_face.specs.Lines.{piece_of, after_piece, HasNoNewline, IsNewlineAt, EndsInNewline, ShowsPiece}

-- without a newline at its end nothing is cut
pub strip-none : (bytes : List ℕ) → HasNoNewline bytes → strip_last 10 bytes ≡ bytes
strip-none [] none = refl
strip-none (x ∷ xs) none =
    let bytes = x ∷ xs in
    let last : (slice_index bytes (length bytes - 1) == 10) ≡ false = ne_eqb (slice_index bytes (length bytes - 1)) 10 (none (length bytes - 1) (omega arith)) in
    let ends : ends_with_byte 10 bytes ≡ false = ap (λ b. nat_lt 0 (length bytes) && b) last ∙ and-false (nat_lt 0 (length bytes)) in
    ap (λ b. cond b (take (length bytes - 1) bytes) bytes) ends
  where
    and-false : (b : Bool) → (b && false) ≡ false
    and-false true = refl
    and-false false = refl

-- a newline at the end is cut
pub strip-hit : (bytes : List ℕ) (n : ℕ) → length bytes ≡ suc n → slice_index bytes n ≡ 10 → length (strip_last 10 bytes) ≤ n
strip-hit bytes n len hit =
    let last : (slice_index bytes (length bytes - 1) == 10) ≡ true = eq-eqb (slice_index bytes (length bytes - 1)) 10 (ap (slice_index bytes) (omega arith) ∙ hit) in
    let some : nat_lt 0 (length bytes) ≡ true = lt-ltb 0 (length bytes) (omega arith) in
    let ends : ends_with_byte 10 bytes ≡ true = ap (λ b. nat_lt 0 (length bytes) && b) last ∙ ap (λ b. b && true) some in
    let is : strip_last 10 bytes ≡ take (length bytes - 1) bytes = ap (λ b. cond b (take (length bytes - 1) bytes) bytes) ends in
    omega (arith, ap length is, length-take (length bytes - 1) bytes)

-- a piece's line is at least its newline shorter
pub strip-at : (bytes : List ℕ) (at : ℕ) → IsNewlineAt bytes at → length (strip_last 10 (take (suc at) bytes)) ≤ at
strip-at bytes at is =
    let inside : at < length bytes = is.inside in
    strip-hit (take (suc at) bytes) at (omega (arith, length-take (suc at) bytes)) (get_or-take (suc at) bytes at 0 (omega arith) ∙ is.newline)

-- the first newline stands in what it ends
at-front : (waiting : List ℕ) (at : ℕ) → IsNewlineAt waiting at → IsNewlineAt (take (suc at) waiting) at
at-front waiting at is =
    let inside : at < length waiting = is.inside in
    record {
      inside = omega (arith, length-take (suc at) waiting);
      newline = get_or-take (suc at) waiting at 0 (omega arith) ∙ is.newline;
      before = λ k below. λ hit. is.before k below (sym (get_or-take (suc at) waiting k 0 (omega arith)) ∙ hit);
    }

ends-at : (waiting : List ℕ) (at : ℕ) → IsNewlineAt waiting at → EndsInNewline (suc at) waiting
ends-at waiting at is =
    let inside : at < length waiting = is.inside in
    let front : List ℕ = take (suc at) waiting in
    let here = at-front waiting at is in
    let count : length front ≡ suc at = omega (arith, length-take (suc at) waiting) in
    let last : length front - 1 ≡ at = omega (arith, count) in
    let whole : take (suc at) front ≡ front = ap (λ n. take n front) (sym count) ∙ take-length front in
    let none : drop (suc at) front ≡ [] = ap (λ n. drop n front) (sym count) ∙ drop-length front in
    record {
      some = omega arith;
      ends = ap (λ v. v && (slice_index front (length front - 1) == 10)) (lt-ltb 0 (length front) (omega (arith, count))) ∙ eq-eqb (slice_index front (length front - 1)) 10 (ap (slice_index front) last ∙ here.newline);
      piece = λ more. piece-at front more at here ∙ whole;
      after = λ more. after-at front more at here ∙ ap (λ l. l ++ more) none;
    }

-- bytes up to the first newline show a piece
pub shows-newline : (waiting : List ℕ) (at : ℕ) (ended : Bool) (left : Option (List ℕ)) → IsNewlineAt waiting at → ShowsPiece (at + 1) waiting ended left
shows-newline waiting at ended left is =
    let inside : at < length waiting = is.inside in
    rw (add-one at) (record {
      inside = omega arith;
      piece = told left;
      after = then left;
      none = λ zero. absurd (omega arith);
      how = inl (ends-at waiting at is);
    })
  where
    told : (left : Option (List ℕ)) → IfSome left (λ rest. piece_of (waiting ++ rest) ≡ take (suc at) waiting)
    told None = tt
    told (Some rest) = piece-at waiting rest at is

    then : (left : Option (List ℕ)) → IfSome left (λ rest. after_piece (waiting ++ rest) ≡ drop (suc at) waiting ++ rest)
    then None = tt
    then (Some rest) = after-at waiting rest at is

-- bytes without a newline show a piece at the end
pub shows-end : (waiting : List ℕ) (ended : Bool) (left : Option (List ℕ)) → ended ≡ true → HasNoNewline waiting → IfSome left (λ rest. rest ≡ []) → ShowsPiece (length waiting) waiting ended left
shows-end waiting ended left is none end =
    record {
      inside = omega arith;
      piece = told left end;
      after = behind left end;
      none = λ zero. (no_bytes waiting zero, end);
      how = inr (record { source = is; all = refl; none = none });
    }
  where
    no_bytes : (bytes : List ℕ) → length bytes ≡ 0 → bytes ≡ []
    no_bytes [] h = refl
    no_bytes (x ∷ xs) h = absurd (omega arith)

    told : (left : Option (List ℕ)) → IfSome left (λ rest. rest ≡ []) → IfSome left (λ rest. piece_of (waiting ++ rest) ≡ take (length waiting) waiting)
    told None end = tt
    told (Some rest) end = piece-none waiting rest none ∙ ap (λ l. waiting ++ piece_of l) end ∙ append-nil waiting ∙ sym (take-length waiting)

    behind : (left : Option (List ℕ)) → IfSome left (λ rest. rest ≡ []) → IfSome left (λ rest. after_piece (waiting ++ rest) ≡ drop (length waiting) waiting ++ rest)
    behind None end = tt
    behind (Some rest) end = after-none waiting rest none ∙ ap after_piece end ∙ sym (ap (λ l. l ++ rest) (drop-length waiting) ∙ end)

-- a line with its newline is shorter than what waits; one that ends the input is what waits
pub newline-short : (waiting : List ℕ) (at : ℕ) → IsNewlineAt waiting at → length (strip_last 10 (take (at + 1) waiting)) < length waiting
newline-short waiting at is =
    let inside : at < length waiting = is.inside in
    rw (add-one at) (omega (arith, strip-at waiting at is))

pub end-short : (waiting : List ℕ) → HasNoNewline waiting → length (strip_last 10 (take (length waiting) waiting)) ≤ length waiting
end-short waiting none =
    omega (arith, ap (λ l. length (strip_last 10 l)) (take-length waiting), ap length (strip-none waiting none))
