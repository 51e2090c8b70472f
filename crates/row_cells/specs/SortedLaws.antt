-- Lists put in order by a total order.
use Rattle.std.specs.Prelude.{◌≡◌, ℕ, zero, suc, ◌≤◌, ◌<◌, Bool, true, false, List, [], ◌∷◌, ◌++◌, length, take, Option, Some, None, if◌then◌else◌}
use Rattle.std.specs.Cmp.{IsTotalOrder}
use Rattle.std.specs.List.{insert, slice_get}
use Rattle.std.specs.Ordering.{is_le, ordering_reverse}
use Rattle.std.specs.declared.cmp.Ordering.{Ordering}
use Rattle.std.specs.declared.cmp.Ordering.TheVariants.{Less, Equal, Greater}
use Rattle.std.proofs.Common.{refl, ap, ◌∙◌, sym, subst, arith}
use Rattle.row_cells.specs.Each.{Each}
use Rattle.row_cells.specs.EachLaws.{Each-weaker}
use Rattle.row_cells.specs.RangeLaws.{each_take}
use Rattle.row_cells.specs.Sorted.{put, sorted}

module _ {A : Type 0} (cmp : A → A → Ordering) (total : IsTotalOrder cmp) where
  -- an element isn't behind another
  abbrev pub UpTo : A → A → Type 0
  UpTo x y = is_le (cmp x y) ≡ true

  abbrev pub Ascend : List A → Type 0
  Ascend [] = Unit {0}
  Ascend (x ∷ xs) = Each (UpTo x) xs × Ascend xs

  upto_by : (x y z : A) (a b : Ordering) → cmp x y ≡ a → cmp y z ≡ b → is_le a ≡ true → is_le b ≡ true → UpTo x z
  upto_by x y z Less Less first second p q = ap is_le (total.trans x y z first second)
  upto_by x y z Less Equal first second p q =
      ap is_le (total.antisymm x z ∙ (ap ordering_reverse (sym (total.congr y z x second)) ∙ (sym (total.antisymm x y) ∙ first)))
  upto_by x y z Equal b first second p q = ap is_le (total.congr x y z first ∙ second) ∙ q
  upto_by x y z Greater b first second p q = cc
  upto_by x y z Less Greater first second p q = cc

  pub upto_chain : (x y z : A) → UpTo x y → UpTo y z → UpTo x z
  upto_chain x y z p q = upto_by x y z (cmp x y) (cmp y z) refl refl p q

  -- of two elements one isn't behind the other
  behind_by : (x y : A) (o : Ordering) → cmp x y ≡ o → is_le o ≡ false → UpTo y x
  behind_by x y Less is p = cc
  behind_by x y Equal is p = cc
  behind_by x y Greater is p = ap is_le (total.antisymm y x ∙ ap ordering_reverse is)

  pub upto_other : (x y : A) → is_le (cmp x y) ≡ false → UpTo y x
  upto_other x y p = behind_by x y (cmp x y) refl p

  pub put_each : (P : A → Type 0) (x : A) (ys : List A) → P x → Each P ys → Each P (put cmp x ys)
  put_each P x [] here each = (here, tt)
  put_each P x (y ∷ ys) here each = by_test (is_le (cmp x y)) (put_each P x ys here each.1)
    where
      by_test : (b : Bool) → Each P (put cmp x ys) → Each P (if b then x ∷ y ∷ ys else y ∷ put cmp x ys)
      by_test true later = (here, each)
      by_test false later = (each.0, later)

  put_ascends : (x : A) (ys : List A) → Ascend ys → Ascend (put cmp x ys)
  put_ascends x [] ascend = (tt, tt)
  put_ascends x (y ∷ ys) ascend = by_test (is_le (cmp x y)) refl (put_ascends x ys ascend.1)
    where
      by_test : (b : Bool) → is_le (cmp x y) ≡ b → Ascend (put cmp x ys) → Ascend (if b then x ∷ y ∷ ys else y ∷ put cmp x ys)
      by_test true is later = ((is, Each-weaker (UpTo y) (UpTo x) (λ z next. upto_chain x y z is next) ys ascend.0), ascend)
      by_test false is later = (put_each (UpTo y) x ys (upto_other x y is) ascend.0, later)

  pub sorted_ascends : (xs : List A) → Ascend (sorted cmp xs)
  sorted_ascends [] = tt
  sorted_ascends (x ∷ xs) = put_ascends x (sorted cmp xs) (sorted_ascends xs)

  pub take_ascends : (n : ℕ) (xs : List A) → Ascend xs → Ascend (take n xs)
  take_ascends zero xs ascend = tt
  take_ascends (suc n) [] ascend = tt
  take_ascends (suc n) (x ∷ xs) ascend = (each_take (UpTo x) n xs ascend.0, take_ascends n xs ascend.1)

  -- what is put where the front ends and what isn't behind begins stands in its place
  abbrev pub Behind : A → Option A → Type 0
  Behind x None = Unit {0}
  Behind x (Some y) = is_le (cmp x y) ≡ false

  abbrev pub Before : A → Option A → Type 0
  Before x None = Unit {0}
  Before x (Some y) = is_le (cmp x y) ≡ true

  abbrev pub BehindFront : A → List A → ℕ → Type 0
  BehindFront x ys zero = Unit {0}
  BehindFront x ys (suc k) = Behind x (slice_get ys k)

  -- the first is no further than what stands at a place
  front_upto : (y : A) (ys : List A) (k : ℕ) (z : A) → Each (UpTo y) ys → slice_get ys k ≡ Some z → UpTo y z
  front_upto y [] k z each is = cc
  front_upto y (w ∷ ys) zero z each is = subst (λ v. UpTo y v) (same is) each.0
    where
      same : {v u : A} → Some v ≡ Some u → v ≡ u
      same e = cc
  front_upto y (w ∷ ys) (suc k) z each is = front_upto y ys k z each.1 is

  -- what is behind a later one is behind an earlier one
  behind_first : (x y z : A) → UpTo y z → is_le (cmp x z) ≡ false → is_le (cmp x y) ≡ false
  behind_first x y z le behind = by_test (is_le (cmp x y)) refl
    where
      by_test : (b : Bool) → is_le (cmp x y) ≡ b → is_le (cmp x y) ≡ false
      by_test false is = is
      by_test true is = absurd (no (sym behind ∙ upto_chain x y z is le))
        where
          no : false ≡ true → ⊥
          no e = cc

  first_behind : (x y : A) (ys : List A) (k : ℕ) → Ascend (y ∷ ys) → suc k ≤ length (y ∷ ys) → BehindFront x (y ∷ ys) (suc k) → is_le (cmp x y) ≡ false
  first_behind x y ys zero ascend within behind = behind
  first_behind x y ys (suc k) ascend within behind = by_found (slice_get ys k) refl behind
    where
      by_found : (o : Option A) → slice_get ys k ≡ o → Behind x o → is_le (cmp x y) ≡ false
      by_found (Some z) is later = behind_first x y z (front_upto y ys k z ascend.0 is) later
      by_found None is later = absurd (none ys k (omega (arith, within)) is)
        where
          none : (zs : List A) (i : ℕ) → i < length zs → slice_get zs i ≡ None → ⊥
          none [] i less e = absurd (omega (arith, less))
          none (w ∷ zs) zero less e = cc
          none (w ∷ zs) (suc i) less e = none zs i (omega (arith, less)) e

  pub put_at : (x : A) (ys : List A) (at : ℕ) → Ascend ys → at ≤ length ys → BehindFront x ys at → Before x (slice_get ys at) → put cmp x ys ≡ insert ys at x
  put_at x [] zero ascend within behind before = refl
  put_at x [] (suc at) ascend within behind before = absurd (omega (arith, within))
  put_at x (y ∷ ys) zero ascend within behind before = rw before refl
  put_at x (y ∷ ys) (suc at) ascend within behind before =
      rw (first_behind x y ys at ascend within behind) (ap (λ zs. y ∷ zs) (put_at x ys at ascend.1 (omega (arith, within)) (later at within behind) before))
    where
      later : (k : ℕ) → suc k ≤ length (y ∷ ys) → BehindFront x (y ∷ ys) (suc k) → BehindFront x ys k
      later zero here is = tt
      later (suc k) here is = is

  -- the first elements of a list with one more hang on its first elements alone
  pub take_put : (n : ℕ) (x : A) (ys : List A) → take n (put cmp x ys) ≡ take n (put cmp x (take n ys))
  take_put zero x ys = refl
  take_put (suc n) x [] = refl
  take_put (suc n) x (y ∷ ys) = by_test (is_le (cmp x y)) (take_put n x ys)
    where
      by_test : (b : Bool) → take n (put cmp x ys) ≡ take n (put cmp x (take n ys)) → take (suc n) (if b then x ∷ y ∷ ys else y ∷ put cmp x ys) ≡ take (suc n) (if b then x ∷ y ∷ take n ys else y ∷ put cmp x (take n ys))
      by_test true later = ap (λ zs. x ∷ zs) (take_cons n y ys)
        where
          take_cons : (m : ℕ) (z : A) (zs : List A) → take m (z ∷ zs) ≡ take m (z ∷ take m zs)
          take_cons zero z zs = refl
          take_cons (suc m) z zs = ap (λ ws. z ∷ ws) (take_less m zs)
            where
              take_less : (m : ℕ) (zs : List A) → take m zs ≡ take m (take (suc m) zs)
              take_less zero zs = refl
              take_less (suc m) [] = refl
              take_less (suc m) (z ∷ zs) = ap (λ ws. z ∷ ws) (take_less m zs)
      by_test false later = ap (λ zs. y ∷ zs) later

  -- what is put behind the first elements isn't among them
  pub take_insert : (n : ℕ) (x : A) (ys : List A) (at : ℕ) → n ≤ at → at ≤ length ys → take n (insert ys at x) ≡ take n ys
  take_insert zero x ys at behind within = refl
  take_insert (suc n) x ys zero behind within = absurd (omega (arith, behind))
  take_insert (suc n) x [] (suc at) behind within = absurd (omega (arith, within))
  take_insert (suc n) x (y ∷ ys) (suc at) behind within = ap (λ zs. y ∷ zs) (take_insert n x ys at (omega (arith, behind)) (omega (arith, within)))

  -- ---- elements that the order tells apart

  abbrev pub Told : A → A → Type 0
  Told x y = cmp x y ≡ Equal → ⊥

  other_by : (x y : A) (o : Ordering) → cmp x y ≡ o → Told x y → is_le o ≡ true → is_le (cmp y x) ≡ false
  other_by x y Less is told le = ap is_le (total.antisymm y x ∙ ap ordering_reverse is)
  other_by x y Equal is told le = absurd (told is)
  other_by x y Greater is told le = cc

  one_way : (x y : A) → Told x y → is_le (cmp x y) ≡ true → is_le (cmp y x) ≡ false
  one_way x y told le = other_by x y (cmp x y) refl told le

  put_late : (x y : A) (ys : List A) → is_le (cmp x y) ≡ false → put cmp x (y ∷ ys) ≡ y ∷ put cmp x ys
  put_late x y ys is = rw is refl

  put_first : (x y : A) (ys : List A) → is_le (cmp x y) ≡ true → put cmp x (y ∷ ys) ≡ x ∷ y ∷ ys
  put_first x y ys is = rw is refl

  pub put_both : (x y : A) (zs : List A) → Told x y → put cmp x (put cmp y zs) ≡ put cmp y (put cmp x zs)
  put_both x y [] told = by_order (is_le (cmp x y)) refl
    where
      by_order : (b : Bool) → is_le (cmp x y) ≡ b → put cmp x (y ∷ []) ≡ put cmp y (x ∷ [])
      by_order true is = put_first x y [] is ∙ sym (put_late y x [] (one_way x y told is))
      by_order false is = put_late x y [] is ∙ sym (put_first y x [] (upto_other x y is))
  put_both x y (z ∷ zs) told = by_both (is_le (cmp x z)) (is_le (cmp y z)) refl refl (put_both x y zs told)
    where
      front : (b : Bool) → is_le (cmp x y) ≡ b → is_le (cmp x z) ≡ true → is_le (cmp y z) ≡ true → put cmp x (y ∷ z ∷ zs) ≡ put cmp y (x ∷ z ∷ zs)
      front true is xz yz = put_first x y (z ∷ zs) is ∙ (ap (λ ws. x ∷ ws) (sym (put_first y z zs yz)) ∙ sym (put_late y x (z ∷ zs) (one_way x y told is)))
      front false is xz yz = put_late x y (z ∷ zs) is ∙ (ap (λ ws. y ∷ ws) (put_first x z zs xz) ∙ sym (put_first y x (z ∷ zs) (upto_other x y is)))

      by_both : (a b : Bool) → is_le (cmp x z) ≡ a → is_le (cmp y z) ≡ b → put cmp x (put cmp y zs) ≡ put cmp y (put cmp x zs) →
          put cmp x (put cmp y (z ∷ zs)) ≡ put cmp y (put cmp x (z ∷ zs))
      by_both true true xz yz later = ap (put cmp x) (put_first y z zs yz) ∙ (front (is_le (cmp x y)) refl xz yz ∙ sym (ap (put cmp y) (put_first x z zs xz)))
      by_both true false xz yz later =
          ap (put cmp x) (put_late y z zs yz)
          ∙ (put_first x z (put cmp y zs) xz
          ∙ (ap (λ ws. x ∷ ws) (sym (put_late y z zs yz))
          ∙ (sym (put_late y x (z ∷ zs) (behind_first y x z xz yz)) ∙ sym (ap (put cmp y) (put_first x z zs xz)))))
      by_both false true xz yz later =
          ap (put cmp x) (put_first y z zs yz)
          ∙ (put_late x y (z ∷ zs) (behind_first x y z yz xz)
          ∙ (ap (λ ws. y ∷ ws) (put_late x z zs xz)
          ∙ (sym (put_first y z (put cmp x zs) yz) ∙ sym (ap (put cmp y) (put_late x z zs xz)))))
      by_both false false xz yz later =
          ap (put cmp x) (put_late y z zs yz)
          ∙ (put_late x z (put cmp y zs) xz
          ∙ (ap (λ ws. z ∷ ws) later
          ∙ (sym (put_late y z (put cmp x zs) yz) ∙ sym (ap (put cmp y) (put_late x z zs xz)))))

  -- an element among others that are told apart from it is sorted as if it stood in front
  pub sorted_front : (x : A) (before after : List A) → Each (λ y. Told y x) before → sorted cmp (before ++ x ∷ after) ≡ put cmp x (sorted cmp (before ++ after))
  sorted_front x [] after each = refl
  sorted_front x (y ∷ before) after each =
      ap (put cmp y) (sorted_front x before after each.1) ∙ put_both y x (sorted cmp (before ++ after)) each.0
