-- One rise more in what is kept of a counter, and what is kept of two lists of samples.
use Rattle.std.proofs.Common.{◌≡◌, ℕ, ℤ, Bool, true, false, List, [], ◌∷◌, ◌++◌, filter, Option, Some, None, refl, ap, ◌∙◌, sym, subst, cond, arith}
use Rattle.std.specs.Prelude.{pos, ◌+ℤ◌, ◌&&◌, map, if◌then◌else◌}
use Rattle.std.specs.BTreeMap.{BTreeMap, IsOrdered, get, is_at}
use Rattle.std.specs.Map.{keys_of, lookup}
use Rattle.std.specs.Cmp.Lexicographic.{nat_list_cmp_total, slice_cmp}
use Rattle.std.specs.Ordering.{int_cmp, int_eq, is_eq, nat_cmp, ordering_then}
use Rattle.std.specs.Str.{bytes_eq}
use Rattle.std.specs.declared.cmp.Ordering.{Ordering}
use Rattle.std.specs.declared.cmp.Ordering.TheVariants.{Less, Equal, Greater}
use Rattle.std.proofs.lemmas.Int.{ints}
use Rattle.std.proofs.lemmas.List.{map-append}
use Rattle.std.proofs.lemmas.List.Elements.{filter-append}
use Rattle.std.proofs.lemmas.Map.Text.{is_eq-slice_cmp}
use Rattle.fold_law.specs.declared.counters.Rise.{Rise}
use Rattle.fold_law.specs.declared.counters.Rising.{Rising}
use Rattle.fold_law.specs.Rises.{join_present_rises, no_rise, merge_risings}
use Rattle.fold_law.specs.RiseLaws.{rising_laws}
use Rattle.row_cells.specs.Each.{Each}
use Rattle.downsample_fold.specs.Columns.{total_of}
use Rattle.downsample_fold.specs.Measures.{rising_in}
use Rattle.downsample_fold.specs.Totals.{total_over}
use Rattle.histogram_aggs.specs.JoinLaws.{total-append}
use Rattle.histogram_aggs.specs.Metrics.{increase_in, increase_of, of_window, rise_of_series}
use Rattle.histogram_aggs.specs.Rises.{RisesStand, SeriesStands, at_moment, moment_cmp, rise_at, rise_held, rise_in, rise_where}
use Rattle.histogram_aggs.specs.Samples.{Sample, rows_in}
use Rattle.histogram_aggs.proofs.KeySteps.{entries_found}
use Rattle.histogram_aggs.proofs.RiseTotals.{increase_told, list_tied, moment_tied, rise_over}

-- ---- of lists of samples

moment-append : (key : List ℕ) (at : ℤ × ℤ) (xs ys : List Sample) → at_moment key at (xs ++ ys) ≡ at_moment key at xs ++ at_moment key at ys
moment-append key at xs ys =
    ap (λ zs. filter (λ s. int_eq s.row.time at.1) zs) (filter-append (λ s. bytes_eq s.row.key key && int_eq s.start at.0) xs ys)
    ∙ filter-append (λ s. int_eq s.row.time at.1) (of_window key at.0 xs) (of_window key at.0 ys)

-- of lists one behind the other the second is what comes first, as in row order
rise_at-append : (place : ℕ) (key : List ℕ) (xs ys : List Sample) (at : ℤ × ℤ) → rise_at place key (xs ++ ys) at ≡ merge_risings (rise_at place key ys at) (rise_at place key xs at)
rise_at-append place key xs ys at =
    ap (λ zs. total_over no_rise merge_risings (rising_in place) (rows_in zs)) (moment-append key at xs ys)
    ∙ (ap (total_over no_rise merge_risings (rising_in place)) (map-append (λ s. s.row) (at_moment key at xs) (at_moment key at ys))
    ∙ total-append rising_laws (rising_in place) (rows_in (at_moment key at xs)) (rows_in (at_moment key at ys)))

-- what stands for two lists
abbrev Held : Type 0
Held = List ℕ → ℤ × ℤ → Option Rise

abbrev pub Joins : Held → Held → Held → Type 0
Joins old more new = (k : List ℕ) (p : ℤ × ℤ) → new k p ≡ join_present_rises (more k p) (old k p)

abbrev pub HeldStand : ℕ → Held → List Sample → Type 0
HeldStand place held xs = (k : List ℕ) (p : ℤ × ℤ) → held k p ≡ (rise_at place k xs p).0

pub rises_joined : (place : ℕ) (old more new : Held) (xs ys : List Sample) → Joins old more new → HeldStand place old xs → HeldStand place more ys → HeldStand place new (xs ++ ys)
rises_joined place old more new xs ys joins first second k p =
    joins k p ∙ (both_eq (second k p) (first k p) ∙ ap (λ (r : Rising). r.0) (sym (rise_at-append place k xs ys p)))
  where
    both_eq : {a b c d : Option Rise} → a ≡ b → c ≡ d → join_present_rises a c ≡ join_present_rises b d
    both_eq e f = cc

-- the rise of one sample
single_rise : (place : ℕ) (s : Sample) (k : List ℕ) (p : ℤ × ℤ) → (rise_at place k (s ∷ []) p).0 ≡ (if bytes_eq s.row.key k then (if is_eq (moment_cmp (s.start, s.row.time) p) then (rising_in place s.row).0 else None) else None)
single_rise place s k p = by_tests (bytes_eq s.row.key k) (int_cmp s.start p.0) (int_eq s.row.time p.1) refl
  where
    by_tests : (a : Bool) (o : Ordering) (b : Bool) → int_eq s.row.time p.1 ≡ b →
        (total_over no_rise merge_risings (rising_in place) (rows_in (filter (λ u. int_eq u.row.time p.1) (cond (a && is_eq o) (s ∷ []) [])))).0 ≡ (if a then (if is_eq (ordering_then o (int_cmp s.row.time p.1)) then (rising_in place s.row).0 else None) else None)
    by_tests false o b is = refl
    by_tests true Less b is = refl
    by_tests true Greater b is = refl
    by_tests true Equal b is = rw is (by_time b)
      where
        by_time : (c : Bool) → (total_over no_rise merge_risings (rising_in place) (rows_in (cond c (s ∷ []) []))).0 ≡ (if c then (rising_in place s.row).0 else None)
        by_time true = refl
        by_time false = refl

pub one_stands : (place : ℕ) (s : Sample) (rise : Rise) → Some rise ≡ (rising_in place s.row).0 → HeldStand place (rise_in s.row.key (s.start, s.row.time) rise) (s ∷ [])
one_stands place s rise is k p =
    ap (λ b. if b then rise_where (s.start, s.row.time) rise p else None) (is_eq-slice_cmp s.row.key k)
    ∙ (ap (λ o. if bytes_eq s.row.key k then (if is_eq (moment_cmp (s.start, s.row.time) p) then o else None) else None) is ∙ sym (single_rise place s k p))

pub none_stands : (place : ℕ) (s : Sample) → None ≡ (rising_in place s.row).0 → HeldStand place (λ k p. None) (s ∷ [])
none_stands place s is k p =
    void (bytes_eq s.row.key k) (is_eq (moment_cmp (s.start, s.row.time) p))
    ∙ (ap (λ o. if bytes_eq s.row.key k then (if is_eq (moment_cmp (s.start, s.row.time) p) then o else None) else None) is ∙ sym (single_rise place s k p))
  where
    nothing : Option Rise
    nothing = None

    void : (a b : Bool) → nothing ≡ (if a then (if b then nothing else nothing) else nothing)
    void true true = refl
    void true false = refl
    void false b = refl

pub none_joins : (held : Held) → Joins held (λ k p. None) held
none_joins held k p = refl

-- ---- in maps

pub join_none : (a : Option Rise) → join_present_rises a None ≡ a
join_none None = refl
join_none (Some r) = refl

-- one rise put in front at its moment
pub rise_put : (old new : ℤ × ℤ → Option Rise) (at : ℤ × ℤ) (rise both : Rise) → Some both ≡ join_present_rises (Some rise) (old at) → ((p : ℤ × ℤ) → new p ≡ cond (is_eq (moment_cmp at p)) (Some both) (old p)) →
    (p : ℤ × ℤ) → new p ≡ join_present_rises (rise_where at rise p) (old p)
rise_put old new at rise both both_is update p = update p ∙ by_case (moment_cmp at p) refl
  where
    by_case : (o : Ordering) → moment_cmp at p ≡ o → cond (is_eq o) (Some both) (old p) ≡ join_present_rises (if is_eq o then Some rise else None) (old p)
    by_case Less is = refl
    by_case Greater is = refl
    by_case Equal is = both_is ∙ ap (λ q. join_present_rises (Some rise) (old q)) (moment_tied at p is)

-- one series more, or another one at its key
pub series_put : (old new : List ℕ → Option (BTreeMap (ℤ × ℤ) Rise)) (more : ℤ × ℤ → Option Rise) (key : List ℕ) (series : BTreeMap (ℤ × ℤ) Rise) →
    ((p : ℤ × ℤ) → get moment_cmp series p ≡ join_present_rises (more p) (rise_held (old key) p)) → ((k : List ℕ) → new k ≡ cond (is_eq (slice_cmp nat_cmp key k)) (Some series) (old k)) →
    (k : List ℕ) (p : ℤ × ℤ) → rise_held (new k) p ≡ join_present_rises (if is_eq (slice_cmp nat_cmp key k) then more p else None) (rise_held (old k) p)
series_put old new more key series told update k p = ap (λ o. rise_held o p) (update k) ∙ by_case (slice_cmp nat_cmp key k) refl
  where
    by_case : (o : Ordering) → slice_cmp nat_cmp key k ≡ o → rise_held (cond (is_eq o) (Some series) (old k)) p ≡ join_present_rises (if is_eq o then more p else None) (rise_held (old k) p)
    by_case Less is = refl
    by_case Greater is = refl
    by_case Equal is = told p ∙ ap (λ j. join_present_rises (more p) (rise_held (old j) p)) (list_tied key k is)

pub first_told : (before : Option (BTreeMap (ℤ × ℤ) Rise)) (series : BTreeMap (ℤ × ℤ) Rise) (more : ℤ × ℤ → Option Rise) → before ≡ None → ((p : ℤ × ℤ) → get moment_cmp series p ≡ more p) →
    (p : ℤ × ℤ) → get moment_cmp series p ≡ join_present_rises (more p) (rise_held before p)
first_told before series more none told p = told p ∙ (sym (join_none (more p)) ∙ ap (λ o. join_present_rises (more p) (rise_held o p)) (sym none))

-- one series more is put to what is kept of it
pub rises_step : (left later old removed new : List ℕ → Option (BTreeMap (ℤ × ℤ) Rise)) (key : List ℕ) (other series : BTreeMap (ℤ × ℤ) Rise) → left key ≡ Some other → ((k : List ℕ) → later k ≡ cond (is_eq (slice_cmp nat_cmp key k)) None (left k)) →
    ((k : List ℕ) → removed k ≡ cond (is_eq (slice_cmp nat_cmp key k)) None (old k)) → ((k : List ℕ) → new k ≡ cond (is_eq (slice_cmp nat_cmp key k)) (Some series) (removed k)) →
    ((p : ℤ × ℤ) → get moment_cmp series p ≡ join_present_rises (rise_held (Some other) p) (rise_held (old key) p)) →
    (k : List ℕ) (p : ℤ × ℤ) → join_present_rises (rise_held (later k) p) (rise_held (new k) p) ≡ join_present_rises (rise_held (left k) p) (rise_held (old k) p)
rises_step left later old removed new key other series here less without more told k p =
    ap (λ o. join_present_rises (rise_held o p) (rise_held (new k) p)) (less k)
    ∙ (ap (λ o. join_present_rises (rise_held (cond (is_eq (slice_cmp nat_cmp key k)) None (left k)) p) (rise_held o p)) (more k ∙ ap (λ o. cond (is_eq (slice_cmp nat_cmp key k)) (Some series) o) (without k))
    ∙ by_case (slice_cmp nat_cmp key k) refl)
  where
    by_case : (o : Ordering) → slice_cmp nat_cmp key k ≡ o →
        join_present_rises (rise_held (cond (is_eq o) None (left k)) p) (rise_held (cond (is_eq o) (Some series) (cond (is_eq o) None (old k))) p) ≡ join_present_rises (rise_held (left k) p) (rise_held (old k) p)
    by_case Less is = refl
    by_case Greater is = refl
    by_case Equal is = told p ∙ (ap (λ o. join_present_rises (rise_held o p) (rise_held (old key) p)) (sym here) ∙ ap (λ j. join_present_rises (rise_held (left j) p) (rise_held (old j) p)) (list_tied key k is))

-- where nothing is left, what is kept is that of both
pub rises_left : (others rises : BTreeMap (List ℕ) (BTreeMap (ℤ × ℤ) Rise)) (more old : Held) → others.entries ≡ [] →
    ((k : List ℕ) (p : ℤ × ℤ) → join_present_rises (rise_held (get (slice_cmp nat_cmp) others k) p) (rise_held (get (slice_cmp nat_cmp) rises k) p) ≡ join_present_rises (more k p) (old k p)) →
    Joins old more (λ k p. rise_held (get (slice_cmp nat_cmp) rises k) p)
rises_left others rises more old none same k p =
    ap (λ (es : List (List ℕ × BTreeMap (ℤ × ℤ) Rise)). join_present_rises (rise_held (lookup (is_at (slice_cmp nat_cmp k)) es) p) (rise_held (get (slice_cmp nat_cmp) rises k) p)) (sym none) ∙ same k p

-- ---- their sums

rising_of : Option Rise → Rising
rising_of r = record { 0 = r }

-- one rise more of a series
pub rise_step : (all : Option Rise) (at : ℤ × ℤ) (rise both : Rise) (rest : List ((ℤ × ℤ) × Rise)) → Some both ≡ join_present_rises all (Some rise) →
    merge_risings (record { 0 = Some both }) (rise_over rest) ≡ merge_risings (record { 0 = all }) (rise_over ((at, rise) ∷ rest))
unfolding rising_of
rise_step all at rise both rest is = ap rising_of (ap (λ o. join_present_rises o (rise_over rest).0) is) ∙ rising_laws.assoc (rising_of all) (rising_of (Some rise)) (rise_over rest)

pub rise_last : (all : Option Rise) (over : Rising) → merge_risings (record { 0 = all }) no_rise ≡ over → all ≡ over.0
rise_last all over is = sym (join_none all) ∙ ap (λ (r : Rising). r.0) is

-- ---- the sum of all series

abbrev pub Series : Type 0
Series = BTreeMap (ℤ × ℤ) Rise

-- each series that is left is found by its key
abbrev pub AreFoundIn : BTreeMap (List ℕ) Series → List (List ℕ × Series) → Type 0
AreFoundIn m es = Each (λ e. get (slice_cmp nat_cmp) m e.0 ≡ Some e.1) es

pub all_found : (m : BTreeMap (List ℕ) Series) → IsOrdered (slice_cmp nat_cmp) m → AreFoundIn m m.entries
all_found m ordered = entries_found (slice_cmp nat_cmp) nat_list_cmp_total list_tied m.entries ordered

-- the increases of series by their keys
abbrev pub sum_over : ℕ → List Sample → List (List ℕ × Series) → ℤ
sum_over place xs es = total_of (map (λ key. increase_in (rise_of_series place xs key).0) (keys_of es))

-- one series more is added
pub sum_step : (place : ℕ) (xs : List Sample) (m : BTreeMap (List ℕ) Series) (es rest : List (List ℕ × Series)) (key : List ℕ) (series : Series) (rise : Option Rise) (sum more all : ℤ) → es ≡ (key, series) ∷ rest → AreFoundIn m es → RisesStand place m xs →
    (SeriesStands place key (get moment_cmp series) xs → rise ≡ (rise_of_series place xs key).0) → more ≡ sum +ℤ increase_in rise → sum +ℤ sum_over place xs es ≡ all → more +ℤ sum_over place xs rest ≡ all
sum_step place xs m es rest key series rise sum more all is found stands told grown before =
    let each = subst (AreFoundIn m) is found in
    let its : increase_in rise ≡ increase_in (rise_of_series place xs key).0 = ap increase_in (told (λ at. ap (λ o. rise_held o at) (sym each.0) ∙ stands key at)) in
    let opened : sum +ℤ sum_over place xs ((key, series) ∷ rest) ≡ all = subst (λ fs. sum +ℤ sum_over place xs fs ≡ all) is before in
    let here = increase_in (rise_of_series place xs key).0 in
    let others = sum_over place xs rest in
    closing more sum (increase_in rise) here others all grown its opened
  where
    closing : (a b c d e f : ℤ) → a ≡ b +ℤ c → c ≡ d → b +ℤ (d +ℤ e) ≡ f → a +ℤ e ≡ f
    closing a b c d e f p q r = omega (arith, ints, p, q, r)

pub sum_last : (place : ℕ) (xs : List Sample) (m : BTreeMap (List ℕ) Series) (es : List (List ℕ × Series)) (sum : ℤ) → IsOrdered (slice_cmp nat_cmp) m → RisesStand place m xs → es ≡ [] → sum +ℤ sum_over place xs es ≡ sum_over place xs m.entries →
    sum ≡ increase_of place xs
sum_last place xs m es sum ordered stands none all =
    closing sum (sum_over place xs m.entries) (subst (λ fs. sum +ℤ sum_over place xs fs ≡ sum_over place xs m.entries) none all) ∙ increase_told place m xs ordered stands
  where
    closing : (a b : ℤ) → a +ℤ pos 0 ≡ b → a ≡ b
    closing a b p = omega (arith, ints, p)
