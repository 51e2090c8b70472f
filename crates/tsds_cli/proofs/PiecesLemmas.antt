-- All pieces are the first one, and those of what follows it.
use Rattle.std.proofs.Common.{◌≡◌, ◌∙◌, ℕ, ◌-◌, ◌<◌, ◌≤◌, ◌==◌, ◌&&◌, nat_lt, Bool, true, false, cond, List, [], ◌∷◌, ◌++◌, length, take, refl, ap, arith, length-append, length-take, append-nil}
use Rattle.std.specs.List.{slice_index}
use Rattle.std.specs.Io.BufRead.{strip_last, ends_with_byte}
use Rattle.std.proofs.lemmas.Bool.{ne_eqb}
use Rattle.edge_face.specs.Lines.{piece_of, after_piece, pieces_of, with_first, HasNoNewline}

-- the pieces of bytes that are not empty
pub pieces-first : (b : ℕ) (bytes : List ℕ) → pieces_of (b ∷ bytes) ≡ piece_of (b ∷ bytes) ∷ pieces_of (after_piece (b ∷ bytes))
pieces-first b [] = go (b == 10)
  where
    go : (hit : Bool) → cond hit ((b ∷ []) ∷ []) ((b ∷ []) ∷ []) ≡ cond hit (b ∷ []) (b ∷ []) ∷ pieces_of (cond hit [] [])
    go true = refl
    go false = refl
pieces-first b (c ∷ bytes) = go (b == 10) (ap (with_first b) (pieces-first c bytes))
  where
    go : (hit : Bool) → with_first b (pieces_of (c ∷ bytes)) ≡ (b ∷ piece_of (c ∷ bytes)) ∷ pieces_of (after_piece (c ∷ bytes))
        → cond hit ((b ∷ []) ∷ pieces_of (c ∷ bytes)) (with_first b (pieces_of (c ∷ bytes))) ≡ cond hit (b ∷ []) (b ∷ piece_of (c ∷ bytes)) ∷ pieces_of (cond hit (c ∷ bytes) (after_piece (c ∷ bytes)))
    go true h = refl
    go false h = h

-- the same, where the first piece and the rest are known
pub pieces-split : (bytes piece rest : List ℕ) → piece_of bytes ≡ piece → after_piece bytes ≡ rest → 0 < length piece → pieces_of bytes ≡ piece ∷ pieces_of rest
pieces-split [] piece rest first after some = absurd (omega (arith, ap length first))
pieces-split (b ∷ bytes) piece rest first after some = pieces-first b bytes ∙ ap (λ p. p ∷ pieces_of (after_piece (b ∷ bytes))) first ∙ ap (λ r. piece ∷ pieces_of r) after

and-false : (b : Bool) → (b && false) ≡ false
and-false true = refl
and-false false = refl

pub not-ended : (b : ℕ) (bytes : List ℕ) → HasNoNewline (b ∷ bytes) → ends_with_byte 10 (b ∷ bytes) ≡ false
not-ended b bytes none =
    let all : List ℕ = b ∷ bytes in
    let last : (slice_index all (length all - 1) == 10) ≡ false = ne_eqb (slice_index all (length all - 1)) 10 (none (length all - 1) (omega arith)) in
    ap (λ v. nat_lt 0 (length all) && v) last ∙ and-false (nat_lt 0 (length all))

-- bytes without a newline are all in the line of a piece that they begin
pub strip-front : (waiting more : List ℕ) → HasNoNewline waiting → length waiting ≤ length (strip_last 10 (waiting ++ more))
strip-front [] more none = omega arith
strip-front (b ∷ bytes) [] none =
    let all : List ℕ = b ∷ bytes in
    let same : length (strip_last 10 (all ++ [])) ≡ length all = ap (λ l. length (strip_last 10 l)) (append-nil all) ∙ ap (λ v. length (cond v (take (length all - 1) all) all)) (not-ended b bytes none) in
    omega (arith, same)
strip-front (b ∷ bytes) (c ∷ more) none = by (ends_with_byte 10 ((b ∷ bytes) ++ c ∷ more))
  where
    by : (v : Bool) → length (b ∷ bytes) ≤ length (cond v (take (length ((b ∷ bytes) ++ c ∷ more) - 1) ((b ∷ bytes) ++ c ∷ more)) ((b ∷ bytes) ++ c ∷ more))
    by true = omega (arith, length-take (length ((b ∷ bytes) ++ c ∷ more) - 1) ((b ∷ bytes) ++ c ∷ more), length-append (b ∷ bytes) (c ∷ more))
    by false = omega (arith, length-append (b ∷ bytes) (c ∷ more))
