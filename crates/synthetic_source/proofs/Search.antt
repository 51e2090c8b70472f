-- Binary searches among texts that ascend.
use Rattle.std.proofs.Common.{◌≡◌, ◌≢◌, ◌⊎◌, inl, inr, ℕ, zero, suc, ◌+◌, ◌<◌, ◌≤◌, List, [], ◌∷◌, map, length, get_or, true, false, refl, sym, ap, ◌∙◌, subst, arith}
use Rattle.std.specs.Cmp.{tied_itself}
use Rattle.std.specs.Cmp.Lexicographic.{slice_cmp, nat_list_cmp_total}
use Rattle.std.specs.Ordering.{nat_cmp, match_ordering}
use Rattle.std.specs.declared.cmp.Ordering.TheVariants.{Less, Equal, Greater}
use Rattle.std.proofs.lemmas.Bool.{cases_eq}
use Rattle.row_cells.specs.Dimensions.{IsBefore}
use Rattle.row_cells.specs.Fitting.{FieldsAscendAfter, FieldsAscend}
use Rattle.row_cells.specs.JoinLaws.{before_chain, after_is, before_of_after}
use Rattle.row_cells.specs.declared.schemas.Field.{Field}
use Rattle.synthetic_source.specs.Places.{RiseAfter, Rise, later_place, place_among}

pub same_text : (p : List ℕ) → slice_cmp nat_cmp p p ≡ Equal
same_text p = tied_itself nat_list_cmp_total p

module _ {X : Type 0} (key : X → List ℕ) where
  -- each text is after the first
  pub after_first : (p : List ℕ) (xs : List X) (k : ℕ) (d : X) → RiseAfter p (map key xs) → k < length xs → IsBefore p (key (get_or xs k d))
  after_first p [] k d rise below = absurd (omega arith)
  after_first p (x ∷ xs) zero d rise below = rise.0
  after_first p (x ∷ xs) (suc k) d rise below = before_chain p (key x) (key (get_or xs k d)) rise.0 (after_first (key x) xs k d rise.1 (omega arith))

  tail_rises : (p : List ℕ) (xs : List X) → RiseAfter p (map key xs) → Rise (map key xs)
  tail_rises p [] rise = tt
  tail_rises p (x ∷ xs) rise = rise.1

  pub place_ok : (s : List ℕ) (xs : List X) (i : ℕ) (d : X) → Rise (map key xs) → i < length xs → key (get_or xs i d) ≡ s → place_among s (map key xs) ≡ record { at = i; found = true }
  place_ok s [] i d rise below here = absurd (omega arith)
  place_ok s (x ∷ xs) zero d rise below here =
      ap (λ o. match_ordering o (record { at = 0; found = false }) (record { at = 0; found = true }) (later_place (place_among s (map key xs)))) (subst (λ t. slice_cmp nat_cmp s t ≡ Equal) (sym here) (same_text s))
  place_ok s (x ∷ xs) (suc i) d rise below here =
      let before : IsBefore (key x) s = subst (λ t. IsBefore (key x) t) here (after_first (key x) xs i d rise (omega arith)) in
      ap (λ o. match_ordering o (record { at = 0; found = false }) (record { at = 0; found = true }) (later_place (place_among s (map key xs)))) (after_is (key x) s before)
      ∙ ap later_place (place_ok s xs i d (tail_rises (key x) xs rise) (omega arith) here)

  pub place_err : (s : List ℕ) (xs : List X) (i : ℕ) → i ≤ length xs → ((k : ℕ) (d : X) → k < i → slice_cmp nat_cmp (key (get_or xs k d)) s ≡ Less) → ((k : ℕ) (d : X) → i ≤ k → k < length xs → slice_cmp nat_cmp (key (get_or xs k d)) s ≡ Greater) → place_among s (map key xs) ≡ record { at = i; found = false }
  place_err s [] zero le before after = refl
  place_err s [] (suc i) le before after = absurd (omega arith)
  place_err s (x ∷ xs) zero le before after =
      ap (λ o. match_ordering o (record { at = 0; found = false }) (record { at = 0; found = true }) (later_place (place_among s (map key xs)))) (before_of_after (key x) s (after 0 x (omega arith) (omega arith)))
  place_err s (x ∷ xs) (suc i) le before after =
      ap (λ o. match_ordering o (record { at = 0; found = false }) (record { at = 0; found = true }) (later_place (place_among s (map key xs)))) (after_is (key x) s (before 0 x (omega arith)))
      ∙ ap later_place (place_err s xs i (omega arith) (λ k d below. before (suc k) d (omega arith)) (λ k d above below. after (suc k) d (omega arith) (omega arith)))

  -- an element that is there is the same for each default
  pub same_element : (xs : List X) (k : ℕ) (d e : X) → k < length xs → get_or xs k d ≡ get_or xs k e
  same_element [] k d e below = absurd (omega arith)
  same_element (x ∷ xs) zero d e below = refl
  same_element (x ∷ xs) (suc k) d e below = same_element xs k d e (omega arith)

  -- an earlier text is before a later one
  pub at_before : (xs : List X) (k m : ℕ) (d e : X) → Rise (map key xs) → k < m → m < length xs → IsBefore (key (get_or xs k d)) (key (get_or xs m e))
  at_before [] k m d e rise less below = absurd (omega arith)
  at_before (x ∷ xs) zero zero d e rise less below = absurd (omega arith)
  at_before (x ∷ xs) zero (suc m) d e rise less below = after_first (key x) xs m e rise (omega arith)
  at_before (x ∷ xs) (suc k) zero d e rise less below = absurd (omega arith)
  at_before (x ∷ xs) (suc k) (suc m) d e rise less below = at_before xs k m d e (tail_rises (key x) xs rise) (omega arith) (omega arith)

  -- a search goes on behind a text that is before
  pub less_before : (s : List ℕ) (xs : List X) (m : ℕ) (e : X) → Rise (map key xs) → m < length xs → slice_cmp nat_cmp (key (get_or xs m e)) s ≡ Less → (k : ℕ) (d : X) → k < m + 1 → slice_cmp nat_cmp (key (get_or xs k d)) s ≡ Less
  less_before s xs m e rise below less k d le = go (cases_eq k m)
    where
      go : (k ≡ m) ⊎ (k ≢ m) → slice_cmp nat_cmp (key (get_or xs k d)) s ≡ Less
      go (inl same) = subst (λ n. slice_cmp nat_cmp (key (get_or xs n d)) s ≡ Less) (sym same) (subst (λ x. slice_cmp nat_cmp (key x) s ≡ Less) (same_element xs m e d below) less)
      go (inr other) = before_chain (key (get_or xs k d)) (key (get_or xs m e)) s (at_before xs k m d e rise (omega arith) below) less

  -- and before a text that is after
  pub greater_after : (s : List ℕ) (xs : List X) (m : ℕ) (e : X) → Rise (map key xs) → slice_cmp nat_cmp (key (get_or xs m e)) s ≡ Greater → (k : ℕ) (d : X) → m ≤ k → k < length xs → slice_cmp nat_cmp (key (get_or xs k d)) s ≡ Greater
  greater_after s xs m e rise greater k d le below = go (cases_eq k m)
    where
      go : (k ≡ m) ⊎ (k ≢ m) → slice_cmp nat_cmp (key (get_or xs k d)) s ≡ Greater
      go (inl same) = subst (λ n. slice_cmp nat_cmp (key (get_or xs n d)) s ≡ Greater) (sym same) (subst (λ x. slice_cmp nat_cmp (key x) s ≡ Greater) (same_element xs m e d (omega arith)) greater)
      go (inr other) = after_is s (key (get_or xs k d)) (before_chain s (key (get_or xs m e)) (key (get_or xs k d)) (before_of_after (key (get_or xs m e)) s greater) (at_before xs m k e d rise (omega arith) below))

-- fields ascend by their paths
pub fields_rise_after : (p : List ℕ) (fs : List Field) → FieldsAscendAfter p fs → RiseAfter p (map (λ f. f.path) fs)
fields_rise_after p [] ascend = tt
fields_rise_after p (f ∷ fs) ascend = (ascend.0, fields_rise_after f.path fs ascend.1)

pub fields_rise : (fs : List Field) → FieldsAscend fs → Rise (map (λ f. f.path) fs)
fields_rise [] ascend = tt
fields_rise (f ∷ fs) ascend = fields_rise_after f.path fs ascend.1

module _ {X : Type 0} (key : X → List ℕ) where
  -- a text after the last is after all
  pub last_below : (s : List ℕ) (xs : List X) (k n : ℕ) (d : X) → Rise (map key xs) → n + 1 ≡ length xs → k ≤ n → IsBefore (key (get_or xs n d)) s → IsBefore (key (get_or xs k d)) s
  last_below s [] k n d rise long le last = absurd (omega arith)
  last_below s (x ∷ []) zero zero d rise long le last = last
  last_below s (x ∷ []) k (suc n) d rise long le last = absurd (omega arith)
  last_below s (x ∷ []) (suc k) zero d rise long le last = absurd (omega arith)
  last_below s (x ∷ y ∷ ys) k zero d rise long le last = absurd (omega arith)
  last_below s (x ∷ y ∷ ys) zero (suc n) d rise long le last = before_chain (key x) (key y) s rise.0 (last_below s (y ∷ ys) 0 n d rise.1 (omega arith) (omega arith) last)
  last_below s (x ∷ y ∷ ys) (suc k) (suc n) d rise long le last = last_below s (y ∷ ys) k n d rise.1 (omega arith) (omega arith) last
