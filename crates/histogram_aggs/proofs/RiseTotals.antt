-- What is kept of a counter, moment by moment, tells its rise.
use Rattle.std.proofs.Common.{◌≡◌, ℕ, ℤ, Bool, true, false, List, [], ◌∷◌, ◌++◌, map, flat_map, filter, Option, Some, None, refl, ap, ◌∙◌, sym, subst, inl, inr, ◌⊎◌, cond, arith}
use Rattle.std.specs.Prelude.{pos, ◌+ℤ◌, ◌&&◌, ◌≤ℤ◌}
use Rattle.std.specs.BTreeMap.{BTreeMap, IsOrdered, get, is_at, keys}
use Rattle.std.specs.Cmp.{IsTotalOrder, int_cmp_total, tied_itself, on_total, then_total}
use Rattle.std.specs.Cmp.Lexicographic.{slice_cmp, nat_list_cmp_total}
use Rattle.std.specs.Map.{keys_of, lookup}
use Rattle.std.specs.Ordering.{int_cmp, int_eq, is_eq, nat_cmp, ordering_then}
use Rattle.std.specs.Str.{bytes_eq}
use Rattle.std.specs.declared.cmp.Ordering.{Ordering}
use Rattle.std.specs.declared.cmp.Ordering.TheVariants.{Less, Equal, Greater}
use Rattle.std.proofs.lemmas.Bool.Decides.{Decides-int_eq}
use Rattle.std.proofs.lemmas.Cmp.{int_ranked}
use Rattle.std.proofs.lemmas.Int.{ints}
use Rattle.std.proofs.lemmas.Map.Text.{is_eq-slice_cmp}
use Rattle.std.proofs.lemmas.Slice.Eq.{bytes_eq-Decides}
use Rattle.fold_law.specs.declared.counters.Rise.{Rise}
use Rattle.fold_law.specs.declared.counters.Rising.{Rising}
use Rattle.fold_law.specs.Laws.{FoldLaws, fold_of}
use Rattle.fold_law.specs.Rises.{no_rise, merge_risings}
use Rattle.fold_law.specs.RiseLaws.{rising_laws}
use Rattle.row_cells.specs.declared.rows.Row.{Row}
use Rattle.row_cells.specs.Each.{Each}
use Rattle.row_cells.specs.EachLaws.{Each-all, Each-both, Each-filter, Each-weaker, filter_none}
use Rattle.row_cells.specs.OrderLaws.{Ascend, IsUpTo, in_row_order-ascends, in_row_order-each, in_row_order-filter, in_row_order-same, upto_cases, upto_from}
use Rattle.row_cells.specs.RowLists.{in_row_order}
use Rattle.downsample_fold.specs.Measures.{rising_in}
use Rattle.downsample_fold.specs.Totals.{total_over}
use Rattle.histogram_aggs.specs.JoinLaws.{each-append}
use Rattle.histogram_aggs.specs.Metrics.{increase_in, increase_of, of_window, rise_in_order, rise_of_series, series_in, windows_of}
use Rattle.downsample_fold.specs.Columns.{total_of}
use Rattle.histogram_aggs.specs.Rises.{RisesStand, SeriesStands, moment_cmp, rise_at, rise_held}
use Rattle.histogram_aggs.specs.Samples.{Sample, rows_in}
use Rattle.histogram_aggs.specs.Sets.{Among, ascending}
use Rattle.histogram_aggs.specs.SetLaws.{Ascends, above-first, among-left, among-right, ascending-among, ascending-ascends, not-below-itself}
use Rattle.histogram_aggs.proofs.KeySteps.{ascends_from, entries_found, found_among}

-- ---- folds over marks that ascend

module _ {K : Type 0} (cmp : K → K → Ordering) (total : IsTotalOrder cmp) (tied : (x y : K) → cmp x y ≡ Equal → x ≡ y) {F : Type 0} (none : F) (merge : F → F → F) (left : (a : F) → merge none a ≡ a) (f : K → F) where
  all_none : (ks : List K) → ((k : K) → Among k ks → f k ≡ none) → fold_of none merge f ks ≡ none
  all_none [] void = refl
  all_none (k ∷ ks) void = ap (λ a. merge a (fold_of none merge f ks)) (void k (inl refl)) ∙ (left (fold_of none merge f ks) ∙ all_none ks (λ j among. void j (inr among)))

  -- marks that have nothing may be left out
  among_more : (ls ks : List K) → Ascends cmp total tied ls → Ascends cmp total tied ks → ((k : K) → Among k ks → Among k ls) → ((k : K) → Among k ls → (Among k ks → ⊥) → f k ≡ none) →
      fold_of none merge f ks ≡ fold_of none merge f ls
  among_more [] [] up_l up_k within void = refl
  among_more [] (k ∷ ks) up_l up_k within void = absurd (within k (inl refl))
  among_more (l ∷ ls) [] up_l up_k within void = sym (all_none (l ∷ ls) (λ k among. void k among (λ bad. bad)))
  among_more (l ∷ ls) (k ∷ ks) up_l up_k within void =
      by_place (within k (inl refl)) (among_more ls (k ∷ ks) up_l.1 up_k) (among_more ls ks up_l.1 up_k.1)
    where
      Later : List K → Type 0
      Later js = ((j : K) → Among j js → Among j ls) → ((j : K) → Among j ls → (Among j js → ⊥) → f j ≡ none) → fold_of none merge f js ≡ fold_of none merge f ls

      above : (j : K) → Among j ls → cmp l j ≡ Less
      above j among = above-first cmp total tied l j ls up_l.0 among

      behind : (j : K) → Among j ks → cmp k j ≡ Less
      behind j among = above-first cmp total tied k j ks up_k.0 among

      differs : (j : K) → Among j ls → l ≡ j → ⊥
      differs j among same = not-below-itself cmp total tied j (subst (λ i. cmp i j ≡ Less) same (above j among))

      by_place : (l ≡ k) ⊎ Among k ls → Later (k ∷ ks) → Later ks → fold_of none merge f (k ∷ ks) ≡ fold_of none merge f (l ∷ ls)
      by_place (inl same) one other =
          ap (λ j. merge (f j) (fold_of none merge f ks)) (sym same)
          ∙ ap (merge (f l)) (other
          (λ j among. elim (within j (inr among)) [
            | inl here ↦ absurd (not-below-itself cmp total tied j (subst (λ i. cmp i j ≡ Less) (sym same ∙ here) (behind j among)))
            | inr there ↦ there
          ])
          (λ j among out. void j (inr among) (λ is. elim is [ inl here ↦ differs j among (same ∙ here) | inr there ↦ out there ])))
      by_place (inr there) one other =
          let first : f l ≡ none =
          void l (inl refl) (λ is. elim is [
            | inl here ↦ differs k there (sym here)
            | inr after ↦ not-below-itself cmp total tied l (total.trans l k l (above k there) (behind l after))
          ]) in
          one (λ j among. elim (within j among) [
            | inl here ↦ elim among [
              | inl head ↦ absurd (differs k there (here ∙ sym head))
              | inr tail ↦ absurd (not-below-itself cmp total tied j (subst (λ i. cmp i j ≡ Less) here (total.trans l k j (above k there) (behind j tail))))
            ]
            | inr later ↦ later
          ]) (λ j among out. void j (inr among) out)
          ∙ sym (ap (λ a. merge a (fold_of none merge f ls)) first ∙ left (fold_of none merge f ls))

  -- so two lists of marks tell the same where neither leaves out a mark that has something
  pub same_folds : (ks ls : List K) → Ascends cmp total tied ks → Ascends cmp total tied ls → ((k : K) → (Among k ks → ⊥) → f k ≡ none) → ((k : K) → (Among k ls → ⊥) → f k ≡ none) →
      fold_of none merge f ks ≡ fold_of none merge f ls
  same_folds ks ls up_k up_l no_k no_l =
      let all = ascending cmp (ks ++ ls) in
      let up = ascending-ascends cmp total tied (ks ++ ls) in
      among_more all ks up up_k (λ k among. ascending-among cmp total tied k (ks ++ ls) (among-left k ks ls among)) (λ k among out. no_k k out)
      ∙ sym (among_more all ls up up_l (λ k among. ascending-among cmp total tied k (ks ++ ls) (among-right k ks ls among)) (λ k among out. no_l k out))

-- one value more at the last mark that has something
module _ {K : Type 0} (cmp : K → K → Ordering) (total : IsTotalOrder cmp) (tied : (x y : K) → cmp x y ≡ Equal → x ≡ y) {F : Type 0} {none : F} {merge : F → F → F} {reach : F → ℕ} (laws : FoldLaws none merge reach) where
  pub fold_last : (g h : K → F) (v : F) (at : K) (ks : List K) → Ascends cmp total tied ks → Among at ks → h at ≡ merge (g at) v → ((k : K) → (at ≡ k → ⊥) → h k ≡ g k) → ((k : K) → cmp at k ≡ Less → g k ≡ none) →
      fold_of none merge h ks ≡ merge (fold_of none merge g ks) v
  fold_last g h v at [] up among here same last = absurd among
  fold_last g h v at (k ∷ ks) up (inl is) here same last =
      let above : (j : K) → Among j ks → cmp at j ≡ Less = λ j among. subst (λ i. cmp i j ≡ Less) is (above-first cmp total tied k j ks up.0 among) in
      let differs : (j : K) → Among j ks → at ≡ j → ⊥ = λ j among at_j. not-below-itself cmp total tied j (subst (λ i. cmp i j ≡ Less) at_j (above j among)) in
      let no_g : fold_of none merge g ks ≡ none = all_none cmp total tied none merge laws.none_left g ks (λ j among. last j (above j among)) in
      let no_h : fold_of none merge h ks ≡ none = all_none cmp total tied none merge laws.none_left h ks (λ j among. same j (differs j among) ∙ last j (above j among)) in
      ap (merge (h k)) no_h ∙ (laws.none_right (h k) ∙ (subst (λ i. h i ≡ merge (g i) v) (sym is) here
      ∙ ap (λ a. merge a v) (sym (ap (merge (g k)) no_g ∙ laws.none_right (g k)))))
  fold_last g h v at (k ∷ ks) up (inr there) here same last =
      let below : cmp k at ≡ Less = above-first cmp total tied k at ks up.0 there in
      let differs : at ≡ k → ⊥ = λ is. not-below-itself cmp total tied k (subst (λ i. cmp k i ≡ Less) is below) in
      ap (λ a. merge a (fold_of none merge h ks)) (same k differs)
      ∙ (ap (merge (g k)) (fold_last g h v at ks up.1 there here same last) ∙ sym (laws.assoc (g k) (fold_of none merge g ks) v))

fold_append : {K F : Type 0} {none : F} {merge : F → F → F} {reach : F → ℕ} (laws : FoldLaws none merge reach) (f : K → F) (ks ls : List K) → fold_of none merge f (ks ++ ls) ≡ merge (fold_of none merge f ks) (fold_of none merge f ls)
fold_append {none = none} {merge = merge} laws f [] ls = sym (laws.none_left (fold_of none merge f ls))
fold_append {none = none} {merge = merge} laws f (k ∷ ks) ls = ap (merge (f k)) (fold_append laws f ks ls) ∙ sym (laws.assoc (f k) (fold_of none merge f ks) (fold_of none merge f ls))

fold_map : {J K F : Type 0} (none : F) (merge : F → F → F) (f : K → F) (g : J → K) (js : List J) → fold_of none merge f (map g js) ≡ fold_of none merge (λ j. f (g j)) js
fold_map none merge f g [] = refl
fold_map none merge f g (j ∷ js) = ap (merge (f (g j))) (fold_map none merge f g js)

fold_same : {K F : Type 0} (none : F) (merge : F → F → F) (f g : K → F) (ks : List K) → Each (λ k. f k ≡ g k) ks → fold_of none merge f ks ≡ fold_of none merge g ks
fold_same none merge f g [] each = refl
fold_same none merge f g (k ∷ ks) each = ap (λ a. merge a (fold_of none merge f ks)) each.0 ∙ ap (merge (g k)) (fold_same none merge f g ks each.1)

-- ---- moments

pub moment_total : IsTotalOrder moment_cmp
moment_total = then_total (on_total (λ t. t.0) int_cmp_total) (on_total (λ t. t.1) int_cmp_total)

pub int_tied : (x y : ℤ) → int_cmp x y ≡ Equal → x ≡ y
int_tied x y is = int_ranked x y Equal (sym is)

abbrev moment : ℤ → ℤ → ℤ × ℤ
moment w t = (w, t)

pub moment_tied : (x y : ℤ × ℤ) → moment_cmp x y ≡ Equal → x ≡ y
moment_tied x y is = by_first (int_cmp x.0 y.0) refl is
  where
    by_first : (o : Ordering) → int_cmp x.0 y.0 ≡ o → ordering_then o (int_cmp x.1 y.1) ≡ Equal → x ≡ y
    by_first Less first both = cc
    by_first Equal first both = pair (int_tied x.0 y.0 first) (int_tied x.1 y.1 both)
      where
        pair : x.0 ≡ y.0 → x.1 ≡ y.1 → x ≡ y
        pair p q = ap (λ a. moment a x.1) p ∙ ap (moment y.0) q
    by_first Greater first both = cc

-- all pairs of a window and a time
abbrev pairs : List ℤ → List ℤ → List (ℤ × ℤ)
pairs ws ts = flat_map (λ w. map (λ t. (w, t)) ts) ws

each_map : {A B : Type 0} (P : B → Type 0) (f : A → B) (xs : List A) → Each (λ x. P (f x)) xs → Each P (map f xs)
each_map P f [] each = tt
each_map P f (x ∷ xs) each = (each.0, each_map P f xs each.1)

ascends_append : (xs ys : List (ℤ × ℤ)) → Ascends moment_cmp moment_total moment_tied xs → Ascends moment_cmp moment_total moment_tied ys → Each (λ x. Each (λ y. moment_cmp x y ≡ Less) ys) xs →
    Ascends moment_cmp moment_total moment_tied (xs ++ ys)
ascends_append [] ys first second apart = second
ascends_append (x ∷ xs) ys first second apart = (each-append (λ y. moment_cmp x y ≡ Less) xs ys first.0 apart.0, ascends_append xs ys first.1 second apart.1)

of_one_window : (w : ℤ) (ts : List ℤ) → Ascends int_cmp int_cmp_total int_tied ts → Ascends moment_cmp moment_total moment_tied (map (λ t. (w, t)) ts)
of_one_window w [] up = tt
of_one_window w (t ∷ ts) up = (
  each_map (λ (y : ℤ × ℤ). moment_cmp (w, t) y ≡ Less) (λ u. (w, u)) ts (Each-weaker (λ u. int_cmp t u ≡ Less) (λ u. moment_cmp (w, t) (w, u) ≡ Less) (λ u above. ap (λ o. ordering_then o (int_cmp t u)) (tied_itself int_cmp_total w) ∙ above) ts up.0),
  of_one_window w ts up.1,
)

each_pair : (P : ℤ × ℤ → Type 0) (ws ts : List ℤ) → Each (λ w. (t : ℤ) → P (w, t)) ws → Each P (pairs ws ts)
each_pair P [] ts each = tt
each_pair P (w ∷ ws) ts each = each-append P (map (λ t. (w, t)) ts) (pairs ws ts) (each_map P (λ t. (w, t)) ts (Each-all (λ t. P (w, t)) (λ t. each.0 t) ts)) (each_pair P ws ts each.1)

pairs_ascend : (ws ts : List ℤ) → Ascends int_cmp int_cmp_total int_tied ws → Ascends int_cmp int_cmp_total int_tied ts → Ascends moment_cmp moment_total moment_tied (pairs ws ts)
pairs_ascend [] ts up_w up_t = tt
pairs_ascend (w ∷ ws) ts up_w up_t =
    ascends_append (map (λ t. (w, t)) ts) (pairs ws ts) (of_one_window w ts up_t) (pairs_ascend ws ts up_w.1 up_t)
    (each_map (λ (x : ℤ × ℤ). Each (λ y. moment_cmp x y ≡ Less) (pairs ws ts)) (λ t. (w, t)) ts
    (Each-all (λ t. Each (λ y. moment_cmp (w, t) y ≡ Less) (pairs ws ts)) (λ t. each_pair (λ (y : ℤ × ℤ). moment_cmp (w, t) y ≡ Less) ws ts
    (Each-weaker (λ v. int_cmp w v ≡ Less) (λ v. (u : ℤ) → moment_cmp (w, t) (v, u) ≡ Less) (λ v above u. ap (λ o. ordering_then o (int_cmp t u)) above) ws up_w.0)) ts))

among_map : (w t : ℤ) (ts : List ℤ) → Among t ts → Among (moment w t) (map (λ u. (w, u)) ts)
among_map w t [] among = absurd among
among_map w t (u ∷ ts) (inl here) = inl (ap (moment w) here)
among_map w t (u ∷ ts) (inr there) = inr (among_map w t ts there)

among_pairs : (w t : ℤ) (ws ts : List ℤ) → Among w ws → Among t ts → Among (moment w t) (pairs ws ts)
among_pairs w t [] ts first second = absurd first
among_pairs w t (v ∷ ws) ts (inl here) second =
    among-left (moment w t) (map (λ u. (v, u)) ts) (pairs ws ts) (subst (λ (i : ℤ). Among (moment w t) (map (λ (u : ℤ). moment i u) ts)) (sym here) (among_map w t ts second))
among_pairs w t (v ∷ ws) ts (inr there) second = among-right (moment w t) (map (λ u. (v, u)) ts) (pairs ws ts) (among_pairs w t ws ts there second)

-- ---- one series

-- the rises of a list of moments, one behind the other
abbrev pub rise_over : List ((ℤ × ℤ) × Rise) → Rising
rise_over entries = fold_of no_rise merge_risings (λ e. record { 0 = Some e.1 }) entries

-- rows of one time
abbrev pub at_time : ℤ → List Row → List Row
at_time t rows = filter (λ row. int_eq row.time t) rows

int_eq_self : (t : ℤ) → int_eq t t ≡ true
int_eq_self t = (Decides-int_eq t t).1 refl

int_eq_apart : (t u : ℤ) → (t ≡ u → ⊥) → int_eq t u ≡ false
int_eq_apart t u differs = by_test (int_eq t u) refl
  where
    by_test : (b : Bool) → int_eq t u ≡ b → b ≡ false
    by_test true is = absurd (differs ((Decides-int_eq t u).0 is))
    by_test false is = refl

-- rows of one series, in order, are those of each time, one time behind the other
by_times : (value : Row → Rising) (key : List ℕ) (rows : List Row) (ts : List ℤ) → Ascends int_cmp int_cmp_total int_tied ts → Each (λ row. row.key ≡ key) rows → Each (λ row. Among row.time ts) rows → Ascend rows →
    fold_of no_rise merge_risings (λ t. total_over no_rise merge_risings value (at_time t rows)) ts ≡ total_over no_rise merge_risings value rows
by_times value key [] ts up keyed timed ascend = all_none int_cmp int_cmp_total int_tied no_rise merge_risings rising_laws.none_left (λ t. no_rise) ts (λ t among. refl)
by_times value key (row ∷ rows) ts up keyed timed ascend =
    fold_last int_cmp int_cmp_total int_tied rising_laws (λ t. total_over no_rise merge_risings value (at_time t rows)) (λ t. total_over no_rise merge_risings value (at_time t (row ∷ rows))) (value row) row.time ts up timed.0
    (ap (λ b. total_over no_rise merge_risings value (cond b (row ∷ at_time row.time rows) (at_time row.time rows))) (int_eq_self row.time))
    (λ t differs. ap (λ b. total_over no_rise merge_risings value (cond b (row ∷ at_time t rows) (at_time t rows))) (int_eq_apart row.time t differs))
    (λ t above. ap (total_over no_rise merge_risings value) (filter_none (λ r. int_eq r.time t) rows
    (Each-both (IsUpTo row) (λ r. r.key ≡ key) (λ r. int_eq r.time t ≡ false) (λ r upto same. int_eq_apart r.time t (apart r t above upto same)) rows ascend.0 keyed.1)))
    ∙ ap (λ a. merge_risings a (value row)) (by_times value key rows ts up keyed.1 timed.1 ascend.1)
  where
    apart : (r : Row) (t : ℤ) → int_cmp row.time t ≡ Less → IsUpTo row r → r.key ≡ key → r.time ≡ t → ⊥
    apart r t above upto same is = by_cases (upto_cases row r upto)
      where
        by_cases : (slice_cmp nat_cmp row.key r.key ≡ Less) ⊎ ((row.key ≡ r.key) × (r.time ≤ℤ row.time)) → ⊥
        by_cases (inl before) = not-below-itself (slice_cmp nat_cmp) nat_list_cmp_total list_tied row.key (subst (λ k. slice_cmp nat_cmp row.key k ≡ Less) (same ∙ sym keyed.0) before)
          where
            list_tied : (x y : List ℕ) → slice_cmp nat_cmp x y ≡ Equal → x ≡ y
            list_tied x y tied = (bytes_eq-Decides x y).0 (sym (is_eq-slice_cmp x y) ∙ ap is_eq tied)
        by_cases (inr tied) = let less = int_ranked row.time t Less (sym above) in let upto_here = tied.1 in omega (arith, ints, is, less, upto_here)

all_here : (t : ℤ) (rows : List Row) → Each (λ row. int_eq row.time t ≡ true) (at_time t rows)
all_here t [] = tt
all_here t (r ∷ rows) = by_test (int_eq r.time t) refl (all_here t rows)
  where
    by_test : (b : Bool) → int_eq r.time t ≡ b → Each (λ row. int_eq row.time t ≡ true) (at_time t rows) → Each (λ row. int_eq row.time t ≡ true) (cond b (r ∷ at_time t rows) (at_time t rows))
    by_test true is later = (is, later)
    by_test false is later = later

-- rows of one series and time stand in any order
all_alike : (key : List ℕ) (t : ℤ) (rows : List Row) → Each (λ row. row.key ≡ key) rows → Each (λ row. int_eq row.time t ≡ true) rows → Ascend rows
all_alike key t [] keyed timed = tt
all_alike key t (r ∷ rows) keyed timed = (
  Each-both (λ row. row.key ≡ key) (λ row. int_eq row.time t ≡ true) (IsUpTo r)
      (λ row same is. upto_from r row (inr (keyed.0 ∙ sym same, (let one = (Decides-int_eq r.time t).0 timed.0 in let other = (Decides-int_eq row.time t).0 is in omega (arith, ints, one, other))))) rows keyed.1 timed.1,
  all_alike key t rows keyed.1 timed.1,
)

-- of rows that aren't in order
times_of_window : (place : ℕ) (key : List ℕ) (rows : List Row) (ts : List ℤ) → Ascends int_cmp int_cmp_total int_tied ts → Each (λ row. row.key ≡ key) rows → Each (λ row. Among row.time ts) rows →
    fold_of no_rise merge_risings (λ t. total_over no_rise merge_risings (rising_in place) (at_time t rows)) ts ≡ total_over no_rise merge_risings (rising_in place) (in_row_order rows)
times_of_window place key rows ts up keyed timed =
    fold_same no_rise merge_risings (λ t. total_over no_rise merge_risings (rising_in place) (at_time t rows)) (λ t. total_over no_rise merge_risings (rising_in place) (at_time t (in_row_order rows))) ts
    (Each-all (λ t. total_over no_rise merge_risings (rising_in place) (at_time t rows) ≡ total_over no_rise merge_risings (rising_in place) (at_time t (in_row_order rows)))
    (λ t. ap (total_over no_rise merge_risings (rising_in place)) (sym (in_row_order-same (at_time t rows) (alike t)) ∙ in_row_order-filter (λ row. int_eq row.time t) rows)) ts)
    ∙ by_times (rising_in place) key (in_row_order rows) ts up (in_row_order-each (λ row. row.key ≡ key) rows keyed) (in_row_order-each (λ row. Among row.time ts) rows timed) (in_row_order-ascends rows)
  where
    alike : (t : ℤ) → Ascend (at_time t rows)
    alike t = all_alike key t (at_time t rows) (Each-filter (λ row. row.key ≡ key) (λ row. int_eq row.time t) rows keyed) (all_here t rows)

-- ---- samples

among_all : {A B : Type 0} (f : A → B) (xs : List A) → Each (λ x. Among (f x) (map f xs)) xs
among_all f [] = tt
among_all f (x ∷ xs) = (inl refl, Each-weaker (λ y. Among (f y) (map f xs)) (λ y. Among (f y) (map f (x ∷ xs))) (λ y among. inr among) xs (among_all f xs))

each_row : (P : Row → Type 0) (xs : List Sample) → Each (λ s. P s.row) xs → Each P (rows_in xs)
each_row P [] each = tt
each_row P (s ∷ xs) each = (each.0, each_row P xs each.1)

rows_filter : (test : Row → Bool) (xs : List Sample) → rows_in (filter (λ s. test s.row) xs) ≡ filter test (rows_in xs)
rows_filter test [] = refl
rows_filter test (s ∷ xs) = by_test (test s.row) (rows_filter test xs)
  where
    by_test : (b : Bool) → rows_in (filter (λ u. test u.row) xs) ≡ filter test (rows_in xs) →
        rows_in (cond b (s ∷ filter (λ u. test u.row) xs) (filter (λ u. test u.row) xs)) ≡ cond b (s.row ∷ filter test (rows_in xs)) (filter test (rows_in xs))
    by_test true later = ap (λ rows. s.row ∷ rows) later
    by_test false later = later

abbrev IsOf : List ℕ → ℤ → Sample → Type 0
IsOf key w s = (s.row.key ≡ key) × (s.start ≡ w)

window_each : (key : List ℕ) (w : ℤ) (xs : List Sample) → Each (IsOf key w) (of_window key w xs)
window_each key w [] = tt
window_each key w (s ∷ xs) = by_tests (bytes_eq s.row.key key) (int_eq s.start w) refl refl (window_each key w xs)
  where
    by_tests : (a b : Bool) → bytes_eq s.row.key key ≡ a → int_eq s.start w ≡ b → Each (IsOf key w) (of_window key w xs) → Each (IsOf key w) (cond (a && b) (s ∷ of_window key w xs) (of_window key w xs))
    by_tests true true same here later = (((bytes_eq-Decides s.row.key key).0 same, (Decides-int_eq s.start w).0 here), later)
    by_tests true false same here later = later
    by_tests false true same here later = later
    by_tests false false same here later = later

-- the times of samples, ascending
abbrev times_in : List Sample → List ℤ
times_in xs = ascending int_cmp (map (λ s. s.row.time) xs)

times_up : (xs : List Sample) → Ascends int_cmp int_cmp_total int_tied (times_in xs)
times_up xs = ascending-ascends int_cmp int_cmp_total int_tied (map (λ s. s.row.time) xs)

windows_up : (xs : List Sample) → Ascends int_cmp int_cmp_total int_tied (windows_of xs)
windows_up xs = ascending-ascends int_cmp int_cmp_total int_tied (map (λ s. s.start) xs)

all_timed : (xs : List Sample) → Each (λ s. Among s.row.time (times_in xs)) xs
all_timed xs = Each-weaker (λ s. Among s.row.time (map (λ u. u.row.time) xs)) (λ s. Among s.row.time (times_in xs)) (λ s among. ascending-among int_cmp int_cmp_total int_tied s.row.time (map (λ u. u.row.time) xs) among) xs (among_all (λ s. s.row.time) xs)

all_windowed : (xs : List Sample) → Each (λ s. Among s.start (windows_of xs)) xs
all_windowed xs = Each-weaker (λ s. Among s.start (map (λ u. u.start) xs)) (λ s. Among s.start (windows_of xs)) (λ s among. ascending-among int_cmp int_cmp_total int_tied s.start (map (λ u. u.start) xs) among) xs (among_all (λ s. s.start) xs)

-- all moments that samples may have
abbrev moments_of : List Sample → List (ℤ × ℤ)
moments_of xs = pairs (windows_of xs) (times_in xs)

window_told : (place : ℕ) (key : List ℕ) (xs : List Sample) (w : ℤ) → fold_of no_rise merge_risings (λ t. rise_at place key xs (w, t)) (times_in xs) ≡ rise_in_order place (of_window key w xs)
window_told place key xs w =
    let zs = of_window key w xs in
    fold_same no_rise merge_risings (λ t. rise_at place key xs (w, t)) (λ t. total_over no_rise merge_risings (rising_in place) (at_time t (rows_in zs))) (times_in xs)
    (Each-all (λ t. rise_at place key xs (w, t) ≡ total_over no_rise merge_risings (rising_in place) (at_time t (rows_in zs))) (λ t. ap (total_over no_rise merge_risings (rising_in place)) (rows_filter (λ row. int_eq row.time t) zs)) (times_in xs))
    ∙ times_of_window place key (rows_in zs) (times_in xs) (times_up xs)
    (each_row (λ row. row.key ≡ key) zs (Each-weaker (IsOf key w) (λ s. s.row.key ≡ key) (λ s is. is.0) zs (window_each key w xs)))
    (each_row (λ row. Among row.time (times_in xs)) zs (Each-filter (λ s. Among s.row.time (times_in xs)) (λ s. bytes_eq s.row.key key && int_eq s.start w) xs (all_timed xs)))

fold_pairs : (f : ℤ × ℤ → Rising) (ws ts : List ℤ) → fold_of no_rise merge_risings f (pairs ws ts) ≡ fold_of no_rise merge_risings (λ w. fold_of no_rise merge_risings (λ t. f (w, t)) ts) ws
fold_pairs f [] ts = refl
fold_pairs f (w ∷ ws) ts =
    fold_append rising_laws f (map (λ t. (w, t)) ts) (pairs ws ts)
    ∙ (ap (λ a. merge_risings a (fold_of no_rise merge_risings f (pairs ws ts))) (fold_map no_rise merge_risings f (λ t. (w, t)) ts)
    ∙ ap (merge_risings (fold_of no_rise merge_risings (λ t. f (w, t)) ts)) (fold_pairs f ws ts))

-- a series' rise is that of its moments
by_moments : (place : ℕ) (key : List ℕ) (xs : List Sample) → fold_of no_rise merge_risings (rise_at place key xs) (moments_of xs) ≡ rise_of_series place xs key
by_moments place key xs =
    fold_pairs (rise_at place key xs) (windows_of xs) (times_in xs)
    ∙ fold_same no_rise merge_risings (λ w. fold_of no_rise merge_risings (λ t. rise_at place key xs (w, t)) (times_in xs)) (λ w. rise_in_order place (of_window key w xs)) (windows_of xs)
    (Each-all (λ w. fold_of no_rise merge_risings (λ t. rise_at place key xs (w, t)) (times_in xs) ≡ rise_in_order place (of_window key w xs)) (λ w. window_told place key xs w) (windows_of xs))

-- where no sample has the moment there is no rise
nothing_at : (place : ℕ) (key : List ℕ) (xs : List Sample) (at : ℤ × ℤ) → (Among at (moments_of xs) → ⊥) → rise_at place key xs at ≡ no_rise
nothing_at place key xs at out =
    ap (λ zs. total_over no_rise merge_risings (rising_in place) (rows_in zs))
    (filter_none (λ s. int_eq s.row.time at.1) (of_window key at.0 xs)
    (Each-both (IsOf key at.0) (λ s. Among s.start (windows_of xs) × Among s.row.time (times_in xs)) (λ s. int_eq s.row.time at.1 ≡ false)
    (λ s is among. int_eq_apart s.row.time at.1 (λ same. out (among_pairs at.0 at.1 (windows_of xs) (times_in xs) (subst (λ w. Among w (windows_of xs)) is.1 among.0) (subst (λ t. Among t (times_in xs)) same among.1))))
    (of_window key at.0 xs) (window_each key at.0 xs)
    (Each-filter (λ s. Among s.start (windows_of xs) × Among s.row.time (times_in xs)) (λ s. bytes_eq s.row.key key && int_eq s.start at.0) xs
    (Each-both (λ s. Among s.start (windows_of xs)) (λ s. Among s.row.time (times_in xs)) (λ s. Among s.start (windows_of xs) × Among s.row.time (times_in xs)) (λ s one other. (one, other)) xs (all_windowed xs) (all_timed xs)))))

rising_of : Option Rise → Rising
rising_of r = record { 0 = r }

void_of : (a : Rising) → None ≡ a.0 → a ≡ no_rise
unfolding rising_of
void_of a is = ap rising_of (sym is)

some_of : (a : Rising) (r : Rise) (o : Option Rise) → o ≡ Some r → o ≡ a.0 → record { 0 = Some r } ≡ a
unfolding rising_of
some_of a r o found is = ap rising_of (sym found ∙ is)

fold_keys : (f : ℤ × ℤ → Rising) (es : List ((ℤ × ℤ) × Rise)) → Each (λ e. record { 0 = Some e.1 } ≡ f e.0) es → rise_over es ≡ fold_of no_rise merge_risings f (keys_of es)
fold_keys f [] each = refl
fold_keys f (e ∷ es) each = ap (λ a. merge_risings a (rise_over es)) each.0 ∙ ap (merge_risings (f e.0)) (fold_keys f es each.1)

-- what is kept of a series tells its rise
pub series_told : (place : ℕ) (key : List ℕ) (m : BTreeMap (ℤ × ℤ) Rise) (xs : List Sample) → IsOrdered moment_cmp m → SeriesStands place key (get moment_cmp m) xs → rise_over m.entries ≡ rise_of_series place xs key
series_told place key m xs ordered stands =
    fold_keys (rise_at place key xs) m.entries
    (Each-weaker (λ (e : (ℤ × ℤ) × Rise). lookup (is_at (moment_cmp e.0)) m.entries ≡ Some e.1) (λ (e : (ℤ × ℤ) × Rise). record { 0 = Some e.1 } ≡ rise_at place key xs e.0)
    (λ e found. some_of (rise_at place key xs e.0) e.1 (get moment_cmp m e.0) found (stands e.0)) m.entries (entries_found moment_cmp moment_total moment_tied m.entries ordered))
    ∙ (same_folds moment_cmp moment_total moment_tied no_rise merge_risings rising_laws.none_left (rise_at place key xs) (keys_of m.entries) (moments_of xs)
    (ascends_from moment_cmp moment_total moment_tied (keys_of m.entries) ordered) (pairs_ascend (windows_of xs) (times_in xs) (windows_up xs) (times_up xs))
    (λ at out. absent at out (get moment_cmp m at) refl (stands at)) (nothing_at place key xs)
    ∙ by_moments place key xs)
  where
    absent : (at : ℤ × ℤ) → (Among at (keys_of m.entries) → ⊥) → (o : Option Rise) → get moment_cmp m at ≡ o → o ≡ (rise_at place key xs at).0 → rise_at place key xs at ≡ no_rise
    absent at out None is rise = void_of (rise_at place key xs at) rise
    absent at out (Some r) is rise = absurd (out (found_among moment_cmp moment_total moment_tied m.entries at r is))

-- ---- all series

pub list_tied : (x y : List ℕ) → slice_cmp nat_cmp x y ≡ Equal → x ≡ y
list_tied x y tied = (bytes_eq-Decides x y).0 (sym (is_eq-slice_cmp x y) ∙ ap is_eq tied)

total_fold : {K : Type 0} (f : K → ℤ) (ks : List K) → total_of (map f ks) ≡ fold_of (pos 0) ◌+ℤ◌ f ks
total_fold f [] = refl
total_fold f (k ∷ ks) = ap (λ t. f k +ℤ t) (total_fold f ks)

none_empty : {A : Type 0} (xs : List A) → Each (λ x. ⊥) xs → xs ≡ []
none_empty [] each = refl
none_empty (x ∷ xs) each = absurd each.0

-- the increases of the series that are kept are those of all
pub increase_told : (place : ℕ) (m : BTreeMap (List ℕ) (BTreeMap (ℤ × ℤ) Rise)) (xs : List Sample) → IsOrdered (slice_cmp nat_cmp) m → RisesStand place m xs →
    total_of (map (λ key. increase_in (rise_of_series place xs key).0) (keys m)) ≡ increase_of place xs
increase_told place m xs ordered stands =
    total_fold (λ key. increase_in (rise_of_series place xs key).0) (keys_of m.entries)
    ∙ (same_folds (slice_cmp nat_cmp) nat_list_cmp_total list_tied (pos 0) ◌+ℤ◌ (λ a. omega (arith, ints)) (λ key. increase_in (rise_of_series place xs key).0) (keys_of m.entries) (series_in xs)
    (ascends_from (slice_cmp nat_cmp) nat_list_cmp_total list_tied (keys_of m.entries) ordered) (ascending-ascends (slice_cmp nat_cmp) nat_list_cmp_total list_tied (map (λ s. s.row.key) xs))
    (λ key out. unrisen key (λ at. absent key out (get (slice_cmp nat_cmp) m key) refl at (stands key at)))
    (λ key out. unrisen key (λ at. ap (λ zs. total_over no_rise merge_risings (rising_in place) (rows_in (filter (λ s. int_eq s.row.time at.1) zs))) (unseen key out at.0)))
    ∙ sym (total_fold (λ key. increase_in (rise_of_series place xs key).0) (series_in xs)))
  where
    unrisen : (key : List ℕ) → ((at : ℤ × ℤ) → rise_at place key xs at ≡ no_rise) → increase_in (rise_of_series place xs key).0 ≡ pos 0
    unrisen key void = ap (λ (r : Rising). increase_in r.0) (sym (by_moments place key xs) ∙ all_none moment_cmp moment_total moment_tied no_rise merge_risings rising_laws.none_left (rise_at place key xs) (moments_of xs) (λ at among. void at))

    absent : (key : List ℕ) → (Among key (keys_of m.entries) → ⊥) → (o : Option (BTreeMap (ℤ × ℤ) Rise)) → get (slice_cmp nat_cmp) m key ≡ o → (at : ℤ × ℤ) → rise_held o at ≡ (rise_at place key xs at).0 → rise_at place key xs at ≡ no_rise
    absent key out None is at rise = void_of (rise_at place key xs at) rise
    absent key out (Some series) is at rise = absurd (out (found_among (slice_cmp nat_cmp) nat_list_cmp_total list_tied m.entries key series is))

    keyed : Each (λ s. Among s.row.key (series_in xs)) xs
    keyed = Each-weaker (λ s. Among s.row.key (map (λ u. u.row.key) xs)) (λ s. Among s.row.key (series_in xs)) (λ s among. ascending-among (slice_cmp nat_cmp) nat_list_cmp_total list_tied s.row.key (map (λ u. u.row.key) xs) among) xs (among_all (λ s. s.row.key) xs)

    unseen : (key : List ℕ) → (Among key (series_in xs) → ⊥) → (w : ℤ) → of_window key w xs ≡ []
    unseen key out w =
        none_empty (of_window key w xs)
        (Each-both (IsOf key w) (λ s. Among s.row.key (series_in xs)) (λ s. ⊥) (λ s is among. out (subst (λ k. Among k (series_in xs)) is.0 among)) (of_window key w xs) (window_each key w xs)
        (Each-filter (λ s. Among s.row.key (series_in xs)) (λ s. bytes_eq s.row.key key && int_eq s.start w) xs keyed))
