-- Bytes that begin with a block, or with a list of numbers.
use Rattle.std.proofs.Common.{◌≡◌, ℕ, ℤ, ◌+◌, ◌*◌, ◌/◌, ◌≤◌, List, [], ◌∷◌, ◌++◌, length, get_or, take, drop, refl, sym, ◌∙◌, ap, subst, arith}
use Rattle.std.specs.Prelude.{FitsSigned, Option, Some, Result, Ok, Err}
use Rattle.std.specs.Int.{w64}
use Rattle.std.specs.List.{All, concat}
use Rattle.std.proofs.lemmas.List.{take-append-drop, append_assoc, length-drop, length-append}
use Rattle.std.proofs.lemmas.List.Elements.{All-nil, All-append}
use Rattle.std.proofs.Math.Seq.{take-append_seam, drop-append_seam}
use Rattle.column_pack.specs.Block.{IsBlock}
use Rattle.column_pack.specs.BlockLaws.{one_block, one_list, block_length, block_some, block_signed}
use Rattle.packed_lists.specs.Nums.{AreBlocksOf, IsNums}

-- no list is empty whose block there is
pub no-empty : (block : List ℕ) → IsBlock [] block → ⊥
no-empty block h = absurd (omega (arith, block_some [] block h))

-- two lists of one length that begin a list
pub same-fronts : {A : Type 0} (a b x y : List A) → length a ≡ length b → a ++ x ≡ b ++ y → (a ≡ b) × (x ≡ y)
same-fronts a b x y n e = (
  sym (take-append_seam a x) ∙ ap (λ z. take z (a ++ x)) n ∙ ap (take (length b)) e ∙ take-append_seam b y,
  sym (drop-append_seam a x) ∙ ap (λ z. drop z (a ++ x)) n ∙ ap (drop (length b)) e ∙ drop-append_seam b y,
)

pub front-length : (vs ws : List ℤ) (a b x y : List ℕ) → IsBlock vs a → IsBlock ws b → a ++ x ≡ b ++ y → length a ≡ length b
front-length vs ws a b x y h k e =
    sym (block_length vs a x h) ∙ ap (λ (z : List ℕ). 27 + ((get_or z 0 0 * get_or z 26 0 + 7) / 8)) e ∙ block_length ws b y k

-- bytes begin with one block
pub same-front : (vs ws : List ℤ) (a b x y : List ℕ) → IsBlock vs a → IsBlock ws b → a ++ x ≡ b ++ y → (a ≡ b) × (x ≡ y)
same-front vs ws a b x y h k e = same-fronts a b x y (front-length vs ws a b x y h k e) e

same-blocks-of : (vs : List ℤ) (cs bs : List (List ℕ)) → AreBlocksOf cs vs → AreBlocksOf bs vs → concat cs ≡ concat bs
same-blocks-of vs [] [] h k = refl
same-blocks-of vs [] (b ∷ bs) h k = absurd (no-empty b (subst (λ v. IsBlock (take 128 v) b) h k.0))
same-blocks-of vs (a ∷ cs) [] h k = absurd (no-empty a (subst (λ v. IsBlock (take 128 v) a) k h.0))
same-blocks-of vs (a ∷ cs) (b ∷ bs) h k =
    ap (λ z. z ++ concat cs) (one_block (take 128 vs) a b h.0 k.0) ∙ ap (λ z. b ++ z) (same-blocks-of (drop 128 vs) cs bs h.1 k.1)

-- numbers have one spelling
pub one-nums : (vs : List ℤ) (a b : List ℕ) → IsNums vs a → IsNums vs b → a ≡ b
one-nums vs a b (cs, h, e) (bs, k, f) = e ∙ same-blocks-of vs cs bs h k ∙ sym f

same-front-of : (vs ws : List ℤ) (cs bs : List (List ℕ)) (x y : List ℕ) → length vs ≡ length ws → AreBlocksOf cs vs → AreBlocksOf bs ws
    → concat cs ++ x ≡ concat bs ++ y → (vs ≡ ws) × (concat cs ≡ concat bs) × (x ≡ y)
same-front-of vs ws [] [] x y n h k e = (h ∙ sym k, refl, e)
same-front-of vs ws [] (b ∷ bs) x y n h k e = absurd (no-empty b (subst (λ v. IsBlock (take 128 v) b) (none ws (sym n ∙ ap (λ (v : List ℤ). length v) h)) k.0))
  where
    none : (v : List ℤ) → length v ≡ 0 → v ≡ []
    none [] z = refl
    none (u ∷ us) z = absurd (omega arith)
same-front-of vs ws (a ∷ cs) [] x y n h k e = absurd (no-empty a (subst (λ v. IsBlock (take 128 v) a) (none vs (n ∙ ap (λ (v : List ℤ). length v) k)) h.0))
  where
    none : (v : List ℤ) → length v ≡ 0 → v ≡ []
    none [] z = refl
    none (u ∷ us) z = absurd (omega arith)
same-front-of vs ws (a ∷ cs) (b ∷ bs) x y n h k e =
    let f = same-front (take 128 vs) (take 128 ws) a b (concat cs ++ x) (concat bs ++ y) h.0 k.0 (sym (append_assoc a (concat cs) x) ∙ e ∙ append_assoc b (concat bs) y) in
    let r = same-front-of (drop 128 vs) (drop 128 ws) cs bs x y (rest-length vs ws n) h.1 k.1 f.1 in
    let t : take 128 vs ≡ take 128 ws = one_list (take 128 vs) (take 128 ws) b (subst (λ z. IsBlock (take 128 vs) z) f.0 h.0) k.0 in (
      sym (take-append-drop 128 vs) ∙ ap (λ z. z ++ drop 128 vs) t ∙ ap (λ z. take 128 ws ++ z) r.0 ∙ take-append-drop 128 ws,
      ap (λ z. z ++ concat cs) f.0 ∙ ap (λ z. b ++ z) r.1,
      r.2,
    )
  where
    rest-length : (v w : List ℤ) → length v ≡ length w → length (drop 128 v) ≡ length (drop 128 w)
    rest-length v w m = omega (arith, length-drop 128 v, length-drop 128 w)

-- bytes begin with one list of cs many numbers
pub same-nums : (vs ws : List ℤ) (a b x y : List ℕ) → length vs ≡ length ws → IsNums vs a → IsNums ws b → a ++ x ≡ b ++ y → (vs ≡ ws) × (a ≡ b) × (x ≡ y)
same-nums vs ws a b x y n (cs, h, e) (bs, k, f) g =
    let r = same-front-of vs ws cs bs x y n h k (ap (λ z. z ++ x) (sym e) ∙ g ∙ ap (λ z. z ++ y) f) in
    (r.0, e ∙ r.1 ∙ sym f, r.2)

fit-of : (vs : List ℤ) (blocks : List (List ℕ)) → AreBlocksOf blocks vs → All (FitsSigned w64) vs
fit-of vs [] h = subst (λ v. All (FitsSigned w64) v) (sym h) (All-nil (FitsSigned w64))
fit-of vs (block ∷ blocks) (h, k) = subst (λ v. All (FitsSigned w64) v) (take-append-drop 128 vs) (All-append (FitsSigned w64) (take 128 vs) (drop 128 vs) (block_signed (take 128 vs) block h) (fit-of (drop 128 vs) blocks k))

pub nums-fit : (vs : List ℤ) (bytes : List ℕ) → IsNums vs bytes → All (FitsSigned w64) vs
nums-fit vs bytes (blocks, h, e) = fit-of vs blocks h

-- as many bytes of the front as it has
pub take-front : {A : Type 0} (bytes front rest : List A) (len : ℕ) → bytes ≡ front ++ rest → len ≡ length front → take len bytes ≡ front
take-front bytes front rest len e n = ap (λ z. take z bytes) n ∙ ap (take (length front)) e ∙ take-append_seam front rest

pub drop-front : {A : Type 0} (bytes front rest : List A) (len : ℕ) → bytes ≡ front ++ rest → len ≡ length front → drop len bytes ≡ rest
drop-front bytes front rest len e n = ap (λ z. drop z bytes) n ∙ ap (drop (length front)) e ∙ drop-append_seam front rest

pub some-same : {A : Type 0} (r : Option A) (x y : A) → r ≡ Some x → r ≡ Some y → x ≡ y
some-same r x y e f = cc

pub ok-same : {A E : Type 0} (r : Result A E) (x y : A) → r ≡ Ok x → r ≡ Ok y → x ≡ y
ok-same r x y e f = cc

pub front-shorter : {A : Type 0} (bytes front rest : List A) → bytes ≡ front ++ rest → length front ≤ length bytes
front-shorter bytes front rest e = omega (arith, ap (λ (z : List _). length z) e, length-append front rest)

pub err-same : {A E : Type 0} (x y : E) → ◌≡◌ {A = Result A E} (Err x) (Err y) → x ≡ y
err-same x y e = cc
