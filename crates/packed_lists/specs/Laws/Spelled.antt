-- Several lists of numbers, one behind the other.
use Rattle.std.proofs.Common.{◌≡◌, ℕ, ℤ, ◌+◌, ◌<◌, List, [], ◌∷◌, ◌++◌, length, get_or, take, refl, sym, ◌∙◌, ap, subst}
use Rattle.std.proofs.lemmas.List.{append_assoc, append-nil, take_more}
use Rattle.packed_lists.specs.Nums.{IsNums, AreNums}
use Rattle.packed_lists.specs.Decoded.{AreBlocksAt, ArePlaced}
use Rattle.packed_lists.specs.Lists.{AreAlike}
use Rattle.packed_lists.specs.Laws.Fronts.{one-nums, same-nums}
use Rattle.packed_lists.specs.Laws.Placing.{blocks-before}

pub nums-push : (lists : List (List ℤ)) (vs : List ℤ) (rest nums : List ℕ) → AreNums lists rest → IsNums vs nums → AreNums (lists ++ vs ∷ []) (rest ++ nums)
nums-push [] vs rest nums h k = (nums, [], k, refl, ap (λ z. z ++ nums) h ∙ sym (append-nil nums))
nums-push (us ∷ lists) vs rest nums (front, behind, g, h, e) k = (front, behind ++ nums, g, nums-push lists vs behind nums h k, ap (λ z. z ++ nums) e ∙ append_assoc front behind nums)

pub placed-before : (bytes more : List ℕ) (places : List (List ℕ)) (lists : List (List ℤ)) → ArePlaced bytes places lists → ArePlaced (bytes ++ more) places lists
placed-before bytes more [] [] h = tt
placed-before bytes more [] (vs ∷ lists) h = absurd h
placed-before bytes more (p ∷ ps) [] h = absurd h
placed-before bytes more (p ∷ ps) (vs ∷ lists) h = (blocks-before bytes more p vs h.0, placed-before bytes more ps lists h.1)

pub placed-push : (bytes : List ℕ) (places : List (List ℕ)) (lists : List (List ℤ)) (p : List ℕ) (vs : List ℤ) → ArePlaced bytes places lists → AreBlocksAt bytes p vs → ArePlaced bytes (places ++ p ∷ []) (lists ++ vs ∷ [])
placed-push bytes [] [] p vs h k = (k, tt)
placed-push bytes [] (us ∷ lists) p vs h k = absurd h
placed-push bytes (q ∷ qs) [] p vs h k = absurd h
placed-push bytes (q ∷ qs) (us ∷ lists) p vs h k = (h.0, placed-push bytes qs lists p vs h.1 k)

-- lists have one spelling
pub one-each : (lists : List (List ℤ)) (a b : List ℕ) → AreNums lists a → AreNums lists b → a ≡ b
one-each [] a b h k = h ∙ sym k
one-each (vs ∷ lists) a b (n, r, g, h, e) (m, s, k, l, f) = e ∙ ap (λ z. z ++ r) (one-nums vs n m g k) ∙ ap (λ z. m ++ z) (one-each lists r s h l) ∙ sym f

pub same-each : (lists more : List (List ℤ)) (a b x y : List ℕ) → AreAlike lists more → AreNums lists a → AreNums more b → a ++ x ≡ b ++ y → (lists ≡ more) × (a ≡ b) × (x ≡ y)
same-each [] [] a b x y n h k e = (refl, h ∙ sym k, ap (λ z. z ++ x) (sym h) ∙ e ∙ ap (λ z. z ++ y) k)
same-each [] (w ∷ ws) a b x y n h k e = absurd n
same-each (v ∷ vs) [] a b x y n h k e = absurd n
same-each (v ∷ vs) (w ∷ ws) a b x y n (c, r, g, h, e) (d, s, k, l, f) q =
    let first = same-nums v w c d (r ++ x) (s ++ y) n.0 g k (sym (append_assoc c r x) ∙ ap (λ z. z ++ x) (sym e) ∙ q ∙ ap (λ z. z ++ y) f ∙ append_assoc d s y) in
    let rest = same-each vs ws r s x y n.1 h l first.2 in
    (ap (λ z. z ∷ vs) first.0 ∙ ap (λ z. w ∷ z) rest.0, e ∙ ap (λ z. z ++ r) first.1 ∙ ap (λ z. d ++ z) rest.1 ∙ sym f, rest.2)

pub take-next : (lists : List (List ℤ)) (k : ℕ) (vs : List ℤ) → k < length lists → vs ≡ get_or lists k vs → take (k + 1) lists ≡ take k lists ++ vs ∷ []
take-next lists k vs h e = take_more lists k vs h ∙ ap (λ z. take k lists ++ z ∷ []) (sym e)

-- one list more behind the others
pub spelled-more : (lists : List (List ℤ)) (k : ℕ) (old now then-now : List ℕ) (vs : List ℤ) → k < length lists → vs ≡ get_or lists k vs
    → ((rest : List ℕ) × AreNums (take k lists) rest × (now ≡ old ++ rest)) → ((nums : List ℕ) × IsNums vs nums × (then-now ≡ now ++ nums))
    → (rest : List ℕ) × AreNums (take (k + 1) lists) rest × (then-now ≡ old ++ rest)
spelled-more lists k old now then-now vs h e (rest, g, f) (nums, n, d) =
    (rest ++ nums, subst (λ z. AreNums z (rest ++ nums)) (sym (take-next lists k vs h e)) (nums-push (take k lists) vs rest nums g n), d ∙ ap (λ z. z ++ nums) f ∙ append_assoc old rest nums)

pub placed-more : (lists : List (List ℤ)) (k : ℕ) (now then-now : List ℕ) (places : List (List ℕ)) (p : List ℕ) (vs : List ℤ) → k < length lists → vs ≡ get_or lists k vs
    → ArePlaced now places (take k lists) → ((nums : List ℕ) × IsNums vs nums × (then-now ≡ now ++ nums)) → AreBlocksAt then-now p vs
    → ArePlaced then-now (places ++ p ∷ []) (take (k + 1) lists)
placed-more lists k now then-now places p vs h e g (nums, n, d) b =
    subst (λ z. ArePlaced then-now (places ++ p ∷ []) z) (sym (take-next lists k vs h e))
    (placed-push then-now places (take k lists) p vs (subst (λ z. ArePlaced z places (take k lists)) (sym d) (placed-before now nums places (take k lists) g)) b)
