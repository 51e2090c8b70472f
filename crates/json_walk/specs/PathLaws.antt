-- What is left of a path behind a name.
use Rattle.std.proofs.Common.{◌≡◌, ℕ, ◌+◌, ◌-◌, ◌≤◌, ◌<◌, length, List, [], ◌∷◌, ◌++◌, Bool, true, false, ◌&&◌, cond, nat_eq, bytes_eq, Option, Some, None, option_and_then, take, drop, refl, sym, ap, ◌∙◌, append_assoc, length-append, arith}
use Rattle.std.proofs.lemmas.Bool.Decides.{nat_tests}
use Rattle.std.proofs.Math.Seq.{take-append_seam}
use Rattle.json_walk.specs.Path.{Path, end, text, behind_name, behind, below, whole}

one_head : (v : Bool) (b : Bool) (o r : Option Path) → r ≡ cond b o None → cond v r None ≡ cond (v && b) o None
one_head true b o r e = e
one_head false b o r e = refl

behind_split : (s p : List ℕ) → behind_name s p ≡ cond (bytes_eq s (take (length s) p)) (behind_name [] (drop (length s) p)) None
behind_split [] p = refl
behind_split (x ∷ s) [] = refl
behind_split (x ∷ s) (c ∷ p) = one_head (nat_eq x c) _ _ _ (behind_split s p)

none_head : (v : Bool) (r : Option Path) → r ≡ None → cond v r None ≡ None
none_head true r e = e
none_head false r e = refl

pub behind_short : (s p : List ℕ) → length p < length s → behind_name s p ≡ None
behind_short [] p h = absurd (omega arith)
behind_short (x ∷ s) [] h = refl
behind_short (x ∷ s) (c ∷ p) h = none_head (nat_eq x c) _ (behind_short s p (omega arith))

pub behind_other : (s p : List ℕ) → bytes_eq s (take (length s) p) ≡ false → behind_name s p ≡ None
behind_other s p other = behind_split s p ∙ ap (λ b. cond b (behind_name [] (drop (length s) p)) None) other

pub behind_same : (s p : List ℕ) → bytes_eq s (take (length s) p) ≡ true → behind_name s p ≡ behind_name [] (drop (length s) p)
behind_same s p same = behind_split s p ∙ ap (λ b. cond b (behind_name [] (drop (length s) p)) None) same

eq_of : (a b : ℕ) → nat_eq a b ≡ true → a ≡ b
eq_of a b e = grind (arith, nat_tests)

same_path : (p q : Path) → Some p ≡ Some q → p ≡ q
same_path p q e = cc

whole-cons : (x : ℕ) (s : List ℕ) (r : Path) → whole (Some (x ∷ s)) r ≡ x ∷ whole (Some s) r
whole-cons x s end = refl
whole-cons x s (text r) = refl

-- a path that goes on behind a name is the name and what is left
pub goes_on : (s t : List ℕ) (r : Path) → behind_name s t ≡ Some r → t ≡ whole (Some s) r
goes_on [] [] r e = ap (whole (Some [])) (same_path end r e)
goes_on [] (c ∷ t) r e = go (nat_eq 46 c) refl e where
  go : (v : Bool) → nat_eq 46 c ≡ v → cond v (Some (text t)) None ≡ Some r → c ∷ t ≡ whole (Some []) r
  go true is e = ap (λ x. x ∷ t) (sym (eq_of 46 c is)) ∙ ap (whole (Some [])) (same_path (text t) r e)
  go false is e = cc
goes_on (x ∷ s) [] r e = cc
goes_on (x ∷ s) (c ∷ t) r e = go (nat_eq x c) refl e (goes_on s t r) where
  go : (v : Bool) → nat_eq x c ≡ v → cond v (behind_name s t) None ≡ Some r → (behind_name s t ≡ Some r → t ≡ whole (Some s) r) → c ∷ t ≡ whole (Some (x ∷ s)) r
  go true is e later = ap (λ y. y ∷ t) (sym (eq_of x c is)) ∙ ap (λ ys. x ∷ ys) (later e) ∙ sym (whole-cons x s r)
  go false is e later = cc

same_byte : (x : ℕ) → nat_eq x x ≡ true
same_byte x = grind (arith, nat_tests)

-- behind a name, what goes on there is left
pub behind_whole : (s : List ℕ) (r : Path) → behind_name s (whole (Some s) r) ≡ Some r
behind_whole [] end = refl
behind_whole [] (text r) = refl
behind_whole (x ∷ s) end = ap (λ b. cond b (behind_name s s) None) (same_byte x) ∙ behind_whole s end
behind_whole (x ∷ s) (text r) = ap (λ b. cond b (behind_name s (s ++ 46 ∷ r)) None) (same_byte x) ∙ behind_whole s (text r)

-- behind two names is behind the first and then behind the second
pub behind_both : (q s p : List ℕ) → behind_name (q ++ 46 ∷ s) p ≡ option_and_then (behind s) (behind_name q p)
behind_both [] s [] = refl
behind_both [] s (c ∷ t) = go (nat_eq 46 c) where
  go : (v : Bool) → cond v (behind_name s t) None ≡ option_and_then (behind s) (cond v (Some (text t)) None)
  go true = refl
  go false = refl
behind_both (x ∷ q) s [] = refl
behind_both (x ∷ q) s (c ∷ t) = go (nat_eq x c) (behind_both q s t) where
  go : (v : Bool) → behind_name (q ++ 46 ∷ s) t ≡ option_and_then (behind s) (behind_name q t)
      → cond v (behind_name (q ++ 46 ∷ s) t) None ≡ option_and_then (behind s) (cond v (behind_name q t) None)
  go true same = same
  go false same = refl

whole-below : (here : Option (List ℕ)) (s : List ℕ) (r : Path) → whole here (text (whole (Some s) r)) ≡ whole (Some (below here s)) r
whole-below None s r = refl
whole-below (Some q) s end = refl
whole-below (Some q) s (text r) = sym (append_assoc q (46 ∷ s) (46 ∷ r))

pub whole_next : (here : Option (List ℕ)) (s left : List ℕ) (r : Path) → behind_name s left ≡ Some r → whole here (text left) ≡ whole (Some (below here s)) r
whole_next here s left r e = ap (λ t. whole here (text t)) (goes_on s left r e) ∙ whole-below here s r

-- the place is what stands before the dot and the rest
pub place_before : (p q r : List ℕ) → p ≡ whole (Some q) (text r) → (length r + 1 ≤ length p) × (take (length p - length r - 1) p ≡ q)
place_before p q r e =
    let long : length p ≡ length q + (length r + 1) = ap length e ∙ length-append q (46 ∷ r) ∙ omega arith in
    let size : length p - length r - 1 ≡ length q = omega arith in
    (omega arith, ap (λ n. take n p) size ∙ ap (take (length q)) e ∙ take-append_seam q (46 ∷ r))
