-- Where the first piece of some bytes ends: laws that crates above cite.
use Rattle.std.proofs.Common.{◌≡◌, ◌∙◌, ℕ, zero, suc, cond, List, [], ◌∷◌, ◌++◌, take, drop, refl, ap, arith, eq-eqb}
use Rattle.std.proofs.lemmas.Bool.{ne_eqb}
use Rattle.edge_face.specs.Lines.{piece_of, after_piece, NoNewlineBelow, HasNoNewline, IsNewlineAt}

-- what holds of the bytes behind the first
below_tail : (n x : ℕ) (xs : List ℕ) → NoNewlineBelow (suc n) (x ∷ xs) → NoNewlineBelow n xs
below_tail n x xs none = λ k below. none (suc k) (omega arith)

-- a piece that ends at the first newline
pub piece-at : (bytes more : List ℕ) (at : ℕ) → IsNewlineAt bytes at → piece_of (bytes ++ more) ≡ take (suc at) bytes
piece-at [] more at is = absurd (omega (arith, is.inside))
piece-at (x ∷ xs) more zero is = ap (λ b. cond b (x ∷ []) (x ∷ piece_of (xs ++ more))) (eq-eqb x 10 is.newline)
piece-at (x ∷ xs) more (suc k) is =
    ap (λ b. cond b (x ∷ []) (x ∷ piece_of (xs ++ more))) (ne_eqb x 10 (is.before 0 (omega arith)))
    ∙ ap (λ l. x ∷ l) (piece-at xs more k (record { inside = omega (arith, is.inside); newline = is.newline; before = below_tail k x xs is.before }))

-- and what follows it
pub after-at : (bytes more : List ℕ) (at : ℕ) → IsNewlineAt bytes at → after_piece (bytes ++ more) ≡ drop (suc at) bytes ++ more
after-at [] more at is = absurd (omega (arith, is.inside))
after-at (x ∷ xs) more zero is = ap (λ b. cond b (xs ++ more) (after_piece (xs ++ more))) (eq-eqb x 10 is.newline)
after-at (x ∷ xs) more (suc k) is =
    ap (λ b. cond b (xs ++ more) (after_piece (xs ++ more))) (ne_eqb x 10 (is.before 0 (omega arith)))
    ∙ after-at xs more k (record { inside = omega (arith, is.inside); newline = is.newline; before = below_tail k x xs is.before })

-- bytes without a newline belong to the first piece
pub piece-none : (bytes more : List ℕ) → HasNoNewline bytes → piece_of (bytes ++ more) ≡ bytes ++ piece_of more
piece-none [] more none = refl
piece-none (x ∷ xs) more none =
    ap (λ b. cond b (x ∷ []) (x ∷ piece_of (xs ++ more))) (ne_eqb x 10 (none 0 (omega arith)))
    ∙ ap (λ l. x ∷ l) (piece-none xs more (λ k below. none (suc k) (omega arith)))

pub after-none : (bytes more : List ℕ) → HasNoNewline bytes → after_piece (bytes ++ more) ≡ after_piece more
after-none [] more none = refl
after-none (x ∷ xs) more none =
    ap (λ b. cond b (xs ++ more) (after_piece (xs ++ more))) (ne_eqb x 10 (none 0 (omega arith)))
    ∙ after-none xs more (λ k below. none (suc k) (omega arith))
