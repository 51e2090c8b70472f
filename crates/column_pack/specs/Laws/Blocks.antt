use Rattle.std.proofs.Common.{◌≡◌, ◌≢◌, ℕ, ℤ, pos, negsuc, suc, ◌+◌, ◌-◌, ◌^◌, ◌<◌, ◌≤◌, Bool, true, false, List, [], ◌∷◌, length, get_or, map, refl, sym, ◌∙◌, ap, subst, arith, inl, inr}
use Rattle.std.specs.Prelude.{◌||◌, nat_lt, FitsSigned}
use Rattle.std.specs.Int.{w64}
use Rattle.std.specs.List.{All, Contains, sum}
use Rattle.std.proofs.lemmas.Bool.{lt-ltb, le-ltb, cases_lt}
use Rattle.std.proofs.lemmas.List.{drop_all, append-nil}
use Rattle.std.proofs.lemmas.List.Elements.{All-head, All-tail, All-map, All-weaker}
use Rattle.std.proofs.lemmas.List.Sums.{sum_by-cons}
use mathlib.Core.Bool.{beq}
use borrow.Rule.Slice.PartMut.{put_mid}
use Rattle.column_pack.specs.Block.{IsCanonical, walk, rises, falls, rises_after, falls_after, kind_of, kind_from, height, below_top, place}
use Rattle.column_pack.specs.Digits.{greatest_of, IsWidth}
use Rattle.column_pack.specs.Parts.{IsReduced}
use Rattle.column_pack.specs.declared.parts.Kind.{Kind}
use Rattle.column_pack.specs.declared.parts.Kind.TheVariants.{Plain, Rising, Falling}
use Rattle.column_pack.specs.Laws.Reduced.{greatest_bounds}

-- ---- values upside down

flip-lt : (x y : ℕ) → x < 2 ^ 64 → y < 2 ^ 64 → nat_lt (below_top x) (below_top y) ≡ nat_lt y x
flip-lt x y p q = elim (cases_lt y x) [
  | inl h ↦ lt-ltb (below_top x) (below_top y) (omega arith) ∙ sym (lt-ltb y x h)
  | inr h ↦ le-ltb (below_top x) (below_top y) (omega arith) ∙ sym (le-ltb y x h)
]

pub rises-flip : (x : ℕ) (xs : List ℕ) → x < 2 ^ 64 → All (λ h. h < 2 ^ 64) xs → rises_after (below_top x) (map below_top xs) ≡ falls_after x xs
rises-flip x [] p h = refl
rises-flip x (y ∷ xs) p h = let q : y < 2 ^ 64 = All-head (λ h. h < 2 ^ 64) y xs h in rw (flip-lt x y p q, rises-flip y xs q (All-tail (λ h. h < 2 ^ 64) y xs h)) refl

pub falls-flip : (x : ℕ) (xs : List ℕ) → x < 2 ^ 64 → All (λ h. h < 2 ^ 64) xs → falls_after (below_top x) (map below_top xs) ≡ rises_after x xs
falls-flip x [] p h = refl
falls-flip x (y ∷ xs) p h = let q : y < 2 ^ 64 = All-head (λ h. h < 2 ^ 64) y xs h in rw (flip-lt y x q p, falls-flip y xs q (All-tail (λ h. h < 2 ^ 64) y xs h)) refl

pub rises-below_top : (hs : List ℕ) → All (λ h. h < 2 ^ 64) hs → rises (map below_top hs) ≡ falls hs
rises-below_top [] h = refl
rises-below_top (x ∷ xs) h = rises-flip x xs (All-head (λ h. h < 2 ^ 64) x xs h) (All-tail (λ h. h < 2 ^ 64) x xs h)

pub falls-below_top : (hs : List ℕ) → All (λ h. h < 2 ^ 64) hs → falls (map below_top hs) ≡ rises hs
falls-below_top [] h = refl
falls-below_top (x ∷ xs) h = falls-flip x xs (All-head (λ h. h < 2 ^ 64) x xs h) (All-tail (λ h. h < 2 ^ 64) x xs h)

-- ---- heights

pub height-lt : (v : ℤ) → FitsSigned w64 v → height v < 2 ^ 64
height-lt (pos n) f = omega (arith, f.sfits)
height-lt (negsuc n) f = omega (arith, f.sfits)

pub heights-lt : (vs : List ℤ) → All (FitsSigned w64) vs → All (λ h. h < 2 ^ 64) (map height vs)
heights-lt vs h = All-map (λ h. h < 2 ^ 64) height vs (All-weaker (FitsSigned w64) (λ v. height v < 2 ^ 64) height-lt vs h)

pub falling-places : (vs : List ℤ) → map (place Falling) vs ≡ map below_top (map height vs)
falling-places [] = refl
falling-places (v ∷ vs) = ap (λ ys. below_top (height v) ∷ ys) (falling-places vs)

pub kind_from-same : (r f : Bool) → r ≡ f → Plain ≡ kind_from r f
kind_from-same true true e = refl
kind_from-same false false e = refl
kind_from-same true false e = cc
kind_from-same false true e = cc

-- ---- blocks of values that rise or fall

pub put-one : (old into : List ℕ) → length old ≡ suc (length into) → get_or old 0 0 ≡ 0 → put_mid 1 (length old - 1) old into ≡ 0 ∷ into
put-one [] into l z = absurd (omega arith)
put-one (x ∷ xs) into l z = rw (z, drop_all (length (x ∷ xs) - 1) xs (omega arith), append-nil into) refl

pub steps-canonical : (k : Kind) (first m f w : ℕ) (ns rs : List ℕ) → k ≢ Plain → IsReduced ns m f rs → IsWidth w (greatest_of (0 ∷ rs))
    → suc (length rs) ≤ 128 → first < 2 ^ 64 → m < 2 ^ 64 → f < 2 ^ 64 → w ≤ 64
    → IsCanonical (record { kind = k; first = first; offset = m; factor = f; width = w; residuals = 0 ∷ rs })
steps-canonical Plain first m f w ns rs ne r width few p q s t = absurd (ne refl)
steps-canonical Rising first m f w ns rs ne r width few p q s t = record {
  fits = record { some = omega arith; few = few; first = p; offset = q; factor = s; width = t };
  unused_zero = refl;
  least = subst (λ ys. Contains ys m) (sym r.numbers) r.among;
  factor = r.greatest;
  width = width;
}
steps-canonical Falling first m f w ns rs ne r width few p q s t = record {
  fits = record { some = omega arith; few = few; first = p; offset = q; factor = s; width = t };
  unused_zero = refl;
  least = subst (λ ys. Contains ys m) (sym r.numbers) r.among;
  factor = r.greatest;
  width = width;
}

-- a width that is enough for the greatest residual is for each
pub below-width : (w : ℕ) (rs : List ℕ) → IsWidth w (greatest_of rs) → All (λ r. r < 2 ^ w) rs
below-width w rs h = λ k d l. omega (arith, greatest_bounds rs k d l, h.enough)

-- ---- the kind of a block's values

falls-after-walk : (p s : ℕ) (ss : List ℕ) → p ≤ s → falls_after p (walk s ss) ≡ false
falls-after-walk p s [] h = rw (le-ltb s p h) refl
falls-after-walk p s (x ∷ ss) h = rw (le-ltb s p h) (falls-after-walk s (s + x) ss (omega arith))

pub falls-walk : (s : ℕ) (ss : List ℕ) → falls (walk s ss) ≡ false
falls-walk s [] = refl
falls-walk s (x ∷ ss) = falls-after-walk s (s + x) ss (omega arith)

rises-after-walk : (p s : ℕ) (ss : List ℕ) → p ≤ s → rises_after p (walk s ss) ≡ nat_lt p (s + sum ss)
rises-after-walk p s [] h = let e : s + 0 ≡ s = omega arith in rw e (or-self (nat_lt p s))
  where
    or-self : (b : Bool) → (b || false) ≡ b
    or-self true = refl
    or-self false = refl
rises-after-walk p s (x ∷ ss) h =
    let ih : rises_after s (walk (s + x) ss) ≡ nat_lt s (s + x + sum ss) = rises-after-walk s (s + x) ss (omega arith) in
    let c : sum (x ∷ ss) ≡ x + sum ss = sum_by-cons (λ y. y) x ss in
    let e : s + sum (x ∷ ss) ≡ s + x + sum ss = omega arith in
    rw (e, ih) (go p s (s + x + sum ss) h (omega arith))
  where
    go : (p s t : ℕ) → p ≤ s → s ≤ t → (nat_lt p s || nat_lt s t) ≡ nat_lt p t
    go p s t h k = elim (cases_lt p s) [
      | inl l ↦ rw (lt-ltb p s l, lt-ltb p t (omega arith)) refl
      | inr l ↦ let e : p ≡ s = omega arith in rw (le-ltb p s l, e) refl
    ]

pub rises-walk : (s : ℕ) (ss : List ℕ) → rises (walk s ss) ≡ nat_lt 0 (sum ss)
rises-walk s [] = refl
rises-walk s (x ∷ ss) =
    let c : sum (x ∷ ss) ≡ x + sum ss = sum_by-cons (λ y. y) x ss in
    rises-after-walk s (s + x) ss (omega arith) ∙ elim (cases_lt 0 (sum (x ∷ ss))) [
      | inl l ↦ lt-ltb s (s + x + sum ss) (omega arith) ∙ sym (lt-ltb 0 (sum (x ∷ ss)) l)
      | inr l ↦ le-ltb s (s + x + sum ss) (omega arith) ∙ sym (le-ltb 0 (sum (x ∷ ss)) l)
    ]

-- ---- the kind that heights have

pub kind-plain : (k : Kind) (r f : Bool) (hs gs : List ℕ) → k ≡ Plain → r ≡ rises hs → f ≡ falls hs → r ≡ f → hs ≡ gs → k ≡ kind_of gs
kind-plain k r f hs gs e a b c d = e ∙ kind_from-same r f c ∙ ap (λ z. kind_from z f) a ∙ ap (λ z. kind_from (rises hs) z) b ∙ ap kind_of d

pub kind-rising : (k : Kind) (r f : Bool) (hs gs : List ℕ) → k ≡ Rising → r ≡ rises hs → f ≡ falls hs → (r ≡ f → ⊥) → r ≡ true → hs ≡ gs → k ≡ kind_of gs
kind-rising k true true hs gs e a b c t d = absurd (c refl)
kind-rising k true false hs gs e a b c t d = e ∙ ap (λ z. kind_from z false) a ∙ ap (λ z. kind_from (rises hs) z) b ∙ ap kind_of d
kind-rising k false f hs gs e a b c t d = cc

pub kind-falling : (k : Kind) (r f : Bool) (hs gs : List ℕ) → k ≡ Falling → r ≡ rises hs → f ≡ falls hs → (r ≡ f → ⊥) → r ≡ false → hs ≡ gs → k ≡ kind_of gs
kind-falling k false false hs gs e a b c t d = absurd (c refl)
kind-falling k false true hs gs e a b c t d = e ∙ ap (λ z. kind_from z true) a ∙ ap (λ z. kind_from (rises hs) z) b ∙ ap kind_of d
kind-falling k true f hs gs e a b c t d = cc

pub up-values : (k : Kind) (vs : List ℤ) → (k ≡ Falling → ⊥) → map height vs ≡ map (place k) vs
up-values Plain vs e = refl
up-values Rising vs e = refl
up-values Falling vs e = absurd (e refl)

pub down-values : (k : Kind) (vs : List ℤ) → k ≡ Falling → map below_top (map height vs) ≡ map (place k) vs
down-values Plain vs e = cc
down-values Rising vs e = cc
down-values Falling vs e = sym (falling-places vs)

pub same-bools : (r f : Bool) → beq r f ≡ true → r ≡ f
same-bools true true e = refl
same-bools false false e = refl
same-bools true false e = cc
same-bools false true e = cc

pub other-bools : (r f : Bool) → beq r f ≡ false → r ≡ f → ⊥
other-bools true true e h = cc
other-bools false false e h = cc
other-bools true false e h = cc
other-bools false true e h = cc

-- of what neither rises nor falls alike, what doesn't rise falls: upside down it doesn't fall
pub not-rising : (hs : List ℕ) (r : Bool) → All (λ h. h < 2 ^ 64) hs → r ≡ rises hs → r ≡ false → falls (map below_top hs) ≡ false
not-rising hs r h a b = falls-below_top hs h ∙ sym a ∙ b

pub not-falling : (hs : List ℕ) (r f : Bool) → f ≡ falls hs → r ≡ true → (r ≡ f → ⊥) → falls hs ≡ false
not-falling hs true true a b c = absurd (c refl)
not-falling hs true false a b c = sym a
not-falling hs false f a b c = cc
