-- What is among the items of lists.
use Rattle.std.proofs.Common.{◌≡◌, ◌⊎◌, inl, inr, ℕ, suc, zero, ◌+◌, ◌<◌, Bool, true, false, ◌||◌, List, [], ◌∷◌, ◌++◌, length, get_or, take, map, refl, sym, ◌∙◌, ap, subst, arith, Ordering, Less, Equal, Greater}
use Rattle.std.specs.BTreeSet.{insert_key}
use Rattle.std.specs.Cmp.Lexicographic.{slice_cmp}
use Rattle.std.specs.List.{list_any}
use Rattle.std.specs.Ordering.{nat_cmp, match_ordering, is_eq}
use Rattle.std.proofs.lemmas.Bool.{false≢true}
use Rattle.std.proofs.lemmas.List.{append_assoc, append-nil, take_more}
use Rattle.std.proofs.lemmas.Map.Text.{is_eq-slice_cmp}
use Rattle.std.proofs.lemmas.Slice.Eq.{bytes_eq-Decides}
use Rattle.row_cells.specs.Each.{Each}
use Rattle.packed_lists.specs.Lists.{joined}
use Rattle.packed_lists.specs.Laws.Picking.{joined-append}
use Rattle.column_block.specs.Spelling.{IsIn}
use Rattle.column_block.specs.Worded.{HaveSame}

pub in-left : {A : Type 0} (x : A) (a b : List A) → IsIn x a → IsIn x (a ++ b)
in-left x [] b h = absurd h
in-left x (y ∷ a) b (inl e) = inl e
in-left x (y ∷ a) b (inr h) = inr (in-left x a b h)

pub in-right : {A : Type 0} (x : A) (a b : List A) → IsIn x b → IsIn x (a ++ b)
in-right x [] b h = h
in-right x (y ∷ a) b h = inr (in-right x a b h)

pub in-either : {A : Type 0} (x : A) (a b : List A) → IsIn x (a ++ b) → IsIn x a ⊎ IsIn x b
in-either x [] b h = inr h
in-either x (y ∷ a) b (inl e) = inl (inl e)
in-either x (y ∷ a) b (inr h) = elim (in-either x a b h) [ inl g ↦ inl (inr g) | inr g ↦ inr g ]

pub in-at : {A : Type 0} (xs : List A) (k : ℕ) (d : A) → k < length xs → IsIn (get_or xs k d) xs
in-at [] k d h = absurd (omega arith)
in-at (x ∷ xs) zero d h = inl refl
in-at (x ∷ xs) (suc k) d h = inr (in-at xs k d (omega arith))

pub in-item : {A : Type 0} (xs : List A) (k : ℕ) (x : A) → k < length xs → x ≡ get_or xs k x → IsIn x xs
in-item xs k x h e = subst (λ z. IsIn z xs) (sym e) (in-at xs k x h)

pub in-map : {A B : Type 0} (f : A → B) (x : A) (xs : List A) → IsIn x xs → IsIn (f x) (map f xs)
in-map f x [] h = absurd h
in-map f x (y ∷ xs) (inl e) = inl (ap f e)
in-map f x (y ∷ xs) (inr h) = inr (in-map f x xs h)

pub from-map : {A B : Type 0} (f : A → B) (y : B) (xs : List A) → IsIn y (map f xs) → (x : A) × IsIn x xs × (y ≡ f x)
from-map f y [] h = absurd h
from-map f y (x ∷ xs) (inl e) = (x, inl refl, e)
from-map f y (x ∷ xs) (inr h) = let (z, g, e) = from-map f y xs h in (z, inr g, e)

pub in-joined : {A : Type 0} (x : A) (lists : List (List A)) (k : ℕ) (d : List A) → k < length lists → IsIn x (get_or lists k d) → IsIn x (joined lists)
in-joined x [] k d h g = absurd (omega arith)
in-joined x (xs ∷ lists) zero d h g = in-left x xs (joined lists) g
in-joined x (xs ∷ lists) (suc k) d h g = in-right x xs (joined lists) (in-joined x lists k d (omega arith) g)

pub each-in : {A : Type 0} (P : A → Type 0) (xs : List A) (x : A) → Each P xs → IsIn x xs → P x
each-in P [] x all h = absurd h
each-in P (y ∷ xs) x all (inl e) = subst P (sym e) all.0
each-in P (y ∷ xs) x all (inr h) = each-in P xs x all.1 h

pub each-all : {A : Type 0} (P : A → Type 0) (xs : List A) → ((x : A) → IsIn x xs → P x) → Each P xs
each-all P [] all = tt
each-all P (x ∷ xs) all = (all x (inl refl), each-all P xs (λ y h. all y (inr h)))

-- ---- the same texts

pub same-append : (a b c : List (List ℕ)) → HaveSame a b → HaveSame (a ++ c) (b ++ c)
same-append a b c h t = (
  (λ g. elim (in-either t a c g) [ inl k ↦ in-left t b c ((h t).0 k) | inr k ↦ in-right t b c k ]),
  (λ g. elim (in-either t b c g) [ inl k ↦ in-left t a c ((h t).1 k) | inr k ↦ in-right t a c k ]),
)

pub same-trans : (a b c : List (List ℕ)) → HaveSame a b → HaveSame b c → HaveSame a c
same-trans a b c h k t = ((λ g. (k t).0 ((h t).0 g)), (λ g. (h t).1 ((k t).1 g)))

pub same-held : (t : List ℕ) (ks : List (List ℕ)) → IsIn t ks → HaveSame ks (ks ++ t ∷ [])
same-held t ks h u = (
  (λ g. in-left u ks (t ∷ []) g),
  (λ g. elim (in-either u ks (t ∷ []) g) [ inl k ↦ k | inr k ↦ elim k [ inl e ↦ subst (λ z. IsIn z ks) (sym e) h | inr z ↦ absurd z ] ]),
)

-- one text more
pub same-more : (start row ks now : List (List ℕ)) (k : ℕ) (x : List ℕ) → k < length row → x ≡ get_or row k x → HaveSame ks (start ++ take k row) → HaveSame now (ks ++ x ∷ []) → HaveSame now (start ++ take (k + 1) row)
same-more start row ks now k x h at before step =
    let e : (start ++ take k row) ++ x ∷ [] ≡ start ++ take (k + 1) row = append_assoc start (take k row) (x ∷ []) ∙ ap (λ z. start ++ (take k row ++ z ∷ [])) at ∙ ap (λ z. start ++ z) (sym (take_more row k x h)) in
    subst (HaveSame now) e (same-trans now (ks ++ x ∷ []) ((start ++ take k row) ++ x ∷ []) step (same-append ks (start ++ take k row) (x ∷ []) before))

-- one list more
pub joined-more : {A : Type 0} (lists : List (List A)) (k : ℕ) (row : List A) → k < length lists → row ≡ get_or lists k row → joined (take k lists) ++ row ≡ joined (take (k + 1) lists)
joined-more lists k row h r =
    ap (λ z. joined (take k lists) ++ z) (r ∙ sym (append-nil (get_or lists k row))) ∙ sym (joined-append (take k lists) (get_or lists k row ∷ [])) ∙ ap joined (sym (take_more lists k row h))

pub same-list : (lists : List (List (List ℕ))) (ks now : List (List ℕ)) (k : ℕ) (row : List (List ℕ)) → k < length lists → row ≡ get_or lists k row → HaveSame ks (joined (take k lists)) → HaveSame now (ks ++ row) → HaveSame now (joined (take (k + 1) lists))
same-list lists ks now k row h r before step =
    subst (HaveSame now) (joined-more lists k row h r) (same-trans now (ks ++ row) (joined (take k lists) ++ row) step (same-append ks (joined (take k lists)) row before))

-- ---- sets of texts

placed : (k x : List ℕ) (xs : List (List ℕ)) (o : Ordering) → slice_cmp nat_cmp k x ≡ o → HaveSame (insert_key (slice_cmp nat_cmp) xs k) (xs ++ k ∷ [])
    → HaveSame (match_ordering o (k ∷ x ∷ xs) (x ∷ xs) (x ∷ insert_key (slice_cmp nat_cmp) xs k)) (x ∷ (xs ++ k ∷ []))
placed k x xs Less is later t = (
  (λ h. elim h [ inl e ↦ in-right t (x ∷ xs) (k ∷ []) (inl e) | inr g ↦ in-left t (x ∷ xs) (k ∷ []) g ]),
  (λ h. elim (in-either t (x ∷ xs) (k ∷ []) h) [ inl g ↦ inr g | inr g ↦ elim g [ inl e ↦ inl e | inr z ↦ absurd z ] ]),
)
placed k x xs Equal is later t =
    let same : k ≡ x = (bytes_eq-Decides k x).0 (sym (is_eq-slice_cmp k x) ∙ ap is_eq is) in (
      (λ h. in-left t (x ∷ xs) (k ∷ []) h),
      (λ h. elim (in-either t (x ∷ xs) (k ∷ []) h) [ inl g ↦ g | inr g ↦ elim g [ inl e ↦ inl (e ∙ same) | inr z ↦ absurd z ] ]),
    )
placed k x xs Greater is later t = (
  (λ h. elim h [ inl e ↦ inl e | inr g ↦ inr ((later t).0 g) ]),
  (λ h. elim h [ inl e ↦ inl e | inr g ↦ inr ((later t).1 g) ]),
)

pub same-insert : (k : List ℕ) (xs : List (List ℕ)) → HaveSame (insert_key (slice_cmp nat_cmp) xs k) (xs ++ k ∷ [])
same-insert k [] t = ((λ h. h), (λ h. h))
same-insert k (x ∷ xs) t = placed k x xs (slice_cmp nat_cmp k x) refl (same-insert k xs) t

first-or : (t k : List ℕ) (ks : List (List ℕ)) (v : Bool) → is_eq (slice_cmp nat_cmp t k) ≡ v → (list_any (λ x. is_eq (slice_cmp nat_cmp t x)) ks ≡ true → IsIn t ks) → (v || list_any (λ x. is_eq (slice_cmp nat_cmp t x)) ks) ≡ true → IsIn t (k ∷ ks)
first-or t k ks true e rest h = inl ((bytes_eq-Decides t k).0 (sym (is_eq-slice_cmp t k) ∙ e))
first-or t k ks false e rest h = inr (rest h)

-- the test of a set
pub any-in : (t : List ℕ) (ks : List (List ℕ)) → list_any (λ x. is_eq (slice_cmp nat_cmp t x)) ks ≡ true → IsIn t ks
any-in t [] h = absurd (false≢true h)
any-in t (k ∷ ks) h = first-or t k ks (is_eq (slice_cmp nat_cmp t k)) refl (any-in t ks) h
