-- What the samples that a test takes have in common in lists that are alike.
use Rattle.std.specs.Prelude.{◌≡◌, ℕ, ℤ, ◌≤◌, ◌&&◌, ◌⊎◌, Bool, true, false, cond, List, [], ◌∷◌, ◌++◌, filter, flat_map}
use Rattle.std.specs.Cmp.{IsTotalOrder}
use Rattle.std.specs.declared.cmp.Ordering.{Ordering}
use Rattle.std.specs.declared.cmp.Ordering.TheVariants.{Equal}
use Rattle.std.proofs.Common.{refl, ap, ◌∙◌, sym, subst, inl, inr, arith}
use Rattle.time_text.specs.Bucket.{bucket_start}
use Rattle.row_cells.specs.declared.schemas.Role.TheVariants.{Gauge, Counter}
use Rattle.row_cells.specs.declared.schemas.Field.{Field}
use Rattle.row_cells.specs.Mapped.{IsRoleAt}
use Rattle.row_cells.specs.Each.{Each}
use Rattle.row_cells.specs.EachLaws.{Each-filter, Each-all, filter_all}
use Rattle.histogram_aggs.specs.Sets.{ascending, Among}
use Rattle.histogram_aggs.specs.SetLaws.{among-left, among-right, among-split, same-sets, has, has-from, has-to}
use Rattle.histogram_aggs.specs.Samples.{Sample, documents_in}
use Rattle.histogram_aggs.specs.Metrics.{gauge_all, of_window, rise_in_order}
use Rattle.histogram_aggs.specs.Alike.{Choice, Head, Keeps, IsOfHead, pick, Alike}
use Rattle.histogram_aggs.specs.Laws.{AlikeChosen}

-- ---- filters

pub filter-filter : {A : Type 0} (p q : A → Bool) (xs : List A) → filter p (filter q xs) ≡ filter (λ x. p x && q x) xs
filter-filter p q [] = refl
filter-filter p q (x ∷ xs) = by_tests (p x) (q x) refl (filter-filter p q xs)
  where
    by_tests : (a b : Bool) → p x ≡ a → filter p (filter q xs) ≡ filter (λ y. p y && q y) xs → filter p (cond b (x ∷ filter q xs) (filter q xs)) ≡ cond (a && b) (x ∷ filter (λ y. p y && q y) xs) (filter (λ y. p y && q y) xs)
    by_tests true true is later = rw is (ap (λ ys. x ∷ ys) later)
    by_tests true false is later = later
    by_tests false true is later = rw is later
    by_tests false false is later = later

pub filter-same : {A : Type 0} (p q : A → Bool) (xs : List A) → Each (λ x. p x ≡ q x) xs → filter p xs ≡ filter q xs
filter-same p q [] each = refl
filter-same p q (x ∷ xs) each = rw (each.0, filter-same p q xs each.1) refl

abbrev pub every : Choice
every key start bucket = true

pub pick-every : (n : ℕ) (xs : List Sample) → pick n every xs ≡ xs
pick-every n xs = filter_all (λ s. true) xs (Each-all (λ s. true ≡ true) (λ s. refl) xs)

abbrev pub both : Choice → Choice → Choice
both a b = λ key start bucket. a key start bucket && b key start bucket

pub pick-pick : (n : ℕ) (a b : Choice) (xs : List Sample) → pick n a (pick n b xs) ≡ pick n (both a b) xs
pick-pick n a b xs = filter-filter (λ s. a s.row.key s.start (bucket_start n s.row.time)) (λ s. b s.row.key s.start (bucket_start n s.row.time)) xs

-- the parts that a test takes are alike
pub alike-pick : AlikeChosen
alike-pick n fields head keeps xs ys b alike = record {
  first = Each-filter (IsOfHead fields head) (λ s. b s.row.key s.start (bucket_start n s.row.time)) xs alike.first;
  second = Each-filter (IsOfHead fields head) (λ s. b s.row.key s.start (bucket_start n s.row.time)) ys alike.second;
  counts = λ a. ap documents_in (pick-pick n a b xs) ∙ (alike.counts (both a b) ∙ sym (ap documents_in (pick-pick n a b ys)));
  gauges = λ place a at kept. ap (gauge_all place) (pick-pick n a b xs) ∙ (alike.gauges place (both a b) at kept ∙ sym (ap (gauge_all place) (pick-pick n a b ys)));
  rises = λ place key start a at kept.
      ap (λ zs. rise_in_order place (of_window key start zs)) (pick-pick n a b xs)
      ∙ (alike.rises place key start (both a b) at kept ∙ sym (ap (λ zs. rise_in_order place (of_window key start zs)) (pick-pick n a b ys)));
}

pub alike-documents : (n : ℕ) (fields : List Field) (head : Head) (keeps : Keeps) (xs ys : List Sample) → Alike n fields head keeps xs ys → documents_in xs ≡ documents_in ys
alike-documents n fields head keeps xs ys alike = sym (ap documents_in (pick-every n xs)) ∙ (alike.counts every ∙ ap documents_in (pick-every n ys))

pub alike-gauge : (n : ℕ) (fields : List Field) (head : Head) (keeps : Keeps) (xs ys : List Sample) → Alike n fields head keeps xs ys → (place : ℕ) → IsRoleAt Gauge fields place → keeps place ≡ true → gauge_all place xs ≡ gauge_all place ys
alike-gauge n fields head keeps xs ys alike place at kept = sym (ap (gauge_all place) (pick-every n xs)) ∙ (alike.gauges place every at kept ∙ ap (gauge_all place) (pick-every n ys))

pub alike-rise : (n : ℕ) (fields : List Field) (head : Head) (keeps : Keeps) (xs ys : List Sample) → Alike n fields head keeps xs ys → (place : ℕ) (key : List ℕ) (start : ℤ) → IsRoleAt Counter fields place → keeps place ≡ true →
    rise_in_order place (of_window key start xs) ≡ rise_in_order place (of_window key start ys)
alike-rise n fields head keeps xs ys alike place key start at kept =
    sym (ap (λ zs. rise_in_order place (of_window key start zs)) (pick-every n xs)) ∙ (alike.rises place key start every at kept ∙ ap (λ zs. rise_in_order place (of_window key start zs)) (pick-every n ys))

-- ---- which marks there are: what samples have by their series, window and bucket

module _ {A : Type 0} (cmp : A → A → Ordering) (total : IsTotalOrder cmp) (tied : (x y : A) → cmp x y ≡ Equal → x ≡ y) (n : ℕ) (fields : List Field) (head : Head) (keeps : Keeps) (marks : List ℕ → ℤ → ℤ → List A) where
  abbrev marked : A → Choice
  marked v = λ key start bucket. has cmp total tied v (marks key start bucket)

  abbrev marks_of : Sample → List A
  marks_of s = marks s.row.key s.start (bucket_start n s.row.time)

  some-there : (v : A) (xs : List Sample) → Each (IsOfHead fields head) xs → Among v (flat_map marks_of xs) → 1 ≤ documents_in (pick n (marked v) xs)
  some-there v [] each among = absurd among
  some-there v (s ∷ xs) each among = by_place (among-split v (marks_of s) (flat_map marks_of xs) among) (some-there v xs each.1)
    where
      by_test : (b : Bool) → 1 ≤ documents_in (pick n (marked v) xs) → 1 ≤ documents_in (cond b (s ∷ pick n (marked v) xs) (pick n (marked v) xs))
      by_test true later = omega (arith, later)
      by_test false later = later

      here : (b : Bool) → b ≡ true → 1 ≤ documents_in (cond b (s ∷ pick n (marked v) xs) (pick n (marked v) xs))
      here true is = let counted = each.0.counted in omega (arith, counted)
      here false is = cc

      by_place : Among v (marks_of s) ⊎ Among v (flat_map marks_of xs) → (Among v (flat_map marks_of xs) → 1 ≤ documents_in (pick n (marked v) xs)) → 1 ≤ documents_in (pick n (marked v) (s ∷ xs))
      by_place (inl one) later = here (has cmp total tied v (marks_of s)) (has-from cmp total tied v (marks_of s) one)
      by_place (inr other) later = by_test (has cmp total tied v (marks_of s)) (later other)

  there-some : (v : A) (xs : List Sample) → 1 ≤ documents_in (pick n (marked v) xs) → Among v (flat_map marks_of xs)
  there-some v [] some = absurd (omega (arith, some))
  there-some v (s ∷ xs) some = by_test (has cmp total tied v (marks_of s)) refl (there-some v xs) some
    where
      by_test : (b : Bool) → has cmp total tied v (marks_of s) ≡ b → (1 ≤ documents_in (pick n (marked v) xs) → Among v (flat_map marks_of xs)) → 1 ≤ documents_in (cond b (s ∷ pick n (marked v) xs) (pick n (marked v) xs)) → Among v (marks_of s ++ flat_map marks_of xs)
      by_test true is later some = among-left v (marks_of s) (flat_map marks_of xs) (has-to cmp total tied v (marks_of s) is)
      by_test false is later some = among-right v (marks_of s) (flat_map marks_of xs) (later some)

  pub same-marks : (xs ys : List Sample) → Alike n fields head keeps xs ys → ascending cmp (flat_map marks_of xs) ≡ ascending cmp (flat_map marks_of ys)
  same-marks xs ys alike =
      same-sets cmp total tied (flat_map marks_of xs) (flat_map marks_of ys)
      (λ v among. there-some v ys (subst (λ k. 1 ≤ k) (alike.counts (marked v)) (some-there v xs alike.first among)))
      (λ v among. there-some v xs (subst (λ k. 1 ≤ k) (sym (alike.counts (marked v))) (some-there v ys alike.second among)))
