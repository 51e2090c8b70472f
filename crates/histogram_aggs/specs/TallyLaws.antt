-- Metrics of lists one behind the other.
use Rattle.std.specs.Prelude.{◌≡◌, ℕ, ℤ, ◌+ℤ◌, ◌+◌, List, [], ◌∷◌, ◌++◌, length, map, take, get_or, ◌<◌, suc, Option, Some, None}
use Rattle.std.specs.Cmp.{int_cmp_total}
use Rattle.std.specs.Int.{int_min}
use Rattle.std.specs.Ordering.{int_cmp}
use Rattle.std.specs.declared.cmp.Ordering.{Ordering}
use Rattle.std.specs.declared.cmp.Ordering.TheVariants.{Less, Equal, Greater}
use Rattle.std.proofs.Common.{refl, ap, ◌∙◌, sym, arith, append-nil}
use Rattle.std.proofs.Math.Seq.{take-suc}
use Rattle.std.proofs.lemmas.List.{map-append}
use Rattle.std.proofs.lemmas.Grind.{flat_map-append}
use Rattle.std.proofs.lemmas.Int.{ints, clamps}
use Rattle.std.proofs.lemmas.Cmp.{int_ranked}
use Rattle.downsample_fold.specs.Columns.{total_of}
use Rattle.fold_law.specs.GaugeLaws.{gauge_laws}
use Rattle.row_cells.specs.declared.scalars.Scalar.{Scalar}
use Rattle.row_cells.specs.declared.schemas.Role.{Role}
use Rattle.row_cells.specs.declared.schemas.Role.TheVariants.{Time, Dimension, Gauge as GaugeRole, Counter, Label}
use Rattle.downsample_fold.specs.Columns.{cell_of}
use Rattle.downsample_fold.specs.Measures.{gauge_in}
use Rattle.search_filter.specs.Values.{number_of}
use Rattle.search_filter.specs.ValueLaws.{whole_tied}
use Rattle.histogram_aggs.specs.declared.aggs.AggKind.{AggKind}
use Rattle.histogram_aggs.specs.declared.aggs.AggKind.TheVariants.{Min, Max, Sum, ValueCount, Increase, Terms, DateHistogram}
use Rattle.histogram_aggs.specs.declared.tallies.Tally.TheVariants.{Measured, Least, Greatest, Total, Number}
use Rattle.histogram_aggs.specs.DownLaws.{gauges-either}
use Rattle.histogram_aggs.specs.JoinLaws.{gauge_all-append}
use Rattle.histogram_aggs.specs.Metrics.{first_of, last_of, gauge_all, numbers_at}
use Rattle.histogram_aggs.specs.Samples.{Sample, values_at}
use Rattle.histogram_aggs.specs.Sets.{by_order, insert_once, ascending}
use Rattle.histogram_aggs.specs.SetLaws.{Ascends, ascending-ascends}
use Rattle.histogram_aggs.specs.Tallies.{of_numbers, tally_over, tally_by, both_tallies, either_least, either_greatest}

-- ---- least

abbrev least_all : List ℤ → Option ℤ
least_all [] = None
least_all (v ∷ vs) = either_least (Some v) (least_all vs)

first-insert : (v : ℤ) (ws : List ℤ) → first_of (insert_once int_cmp v ws) ≡ either_least (Some v) (first_of ws)
first-insert v [] = refl
first-insert v (w ∷ ws) = by_case (int_cmp v w) refl
  where
    by_case : (o : Ordering) → int_cmp v w ≡ o → first_of (by_order o (v ∷ w ∷ ws) (w ∷ ws) (w ∷ insert_once int_cmp v ws)) ≡ Some (int_min v w)
    by_case Less is = ap Some (let r = int_ranked v w Less (sym is) in omega (arith, ints, clamps, r))
    by_case Equal is = ap Some (let r = int_ranked v w Equal (sym is) in omega (arith, ints, clamps, r))
    by_case Greater is = ap Some (let r = int_ranked v w Greater (sym is) in omega (arith, ints, clamps, r))

first-least : (vs : List ℤ) → first_of (ascending int_cmp vs) ≡ least_all vs
first-least [] = refl
first-least (v ∷ vs) = first-insert v (ascending int_cmp vs) ∙ ap (either_least (Some v)) (first-least vs)

least-assoc : (a b c : Option ℤ) → either_least (either_least a b) c ≡ either_least a (either_least b c)
least-assoc None b c = refl
least-assoc (Some a) None c = refl
least-assoc (Some a) (Some b) None = refl
least-assoc (Some a) (Some b) (Some c) = ap Some (omega (arith, ints, clamps))

least-append : (vs ws : List ℤ) → least_all (vs ++ ws) ≡ either_least (least_all vs) (least_all ws)
least-append [] ws = refl
least-append (v ∷ vs) ws = ap (either_least (Some v)) (least-append vs ws) ∙ sym (least-assoc (Some v) (least_all vs) (least_all ws))

-- ---- greatest

abbrev greatest_all : List ℤ → Option ℤ
greatest_all [] = None
greatest_all (v ∷ vs) = either_greatest (Some v) (greatest_all vs)

-- behind a greater first element the last one is greater too
last-above : (v w : ℤ) (ws : List ℤ) → int_cmp v w ≡ Less → Ascends int_cmp int_cmp_total whole_tied (w ∷ ws) → either_greatest (Some v) (last_of (w ∷ ws)) ≡ last_of (w ∷ ws)
last-above v w [] below up = ap Some (let r = int_ranked v w Less (sym below) in omega (arith, ints, clamps, r))
last-above v w (x ∷ ws) below up = last-above v x ws (int_cmp_total.trans v w x below up.0.0) up.1

last-insert : (v : ℤ) (ws : List ℤ) → Ascends int_cmp int_cmp_total whole_tied ws → last_of (insert_once int_cmp v ws) ≡ either_greatest (Some v) (last_of ws)
last-insert v [] up = refl
last-insert v (w ∷ ws) up = by_case (int_cmp v w) refl (last-insert v ws up.1)
  where
    last-behind : (us : List ℤ) → last_of (w ∷ insert_once int_cmp v us) ≡ last_of (insert_once int_cmp v us)
    last-behind [] = refl
    last-behind (u ∷ us) = by_first (int_cmp v u)
      where
        by_first : (o : Ordering) → last_of (w ∷ by_order o (v ∷ u ∷ us) (u ∷ us) (u ∷ insert_once int_cmp v us)) ≡ last_of (by_order o (v ∷ u ∷ us) (u ∷ us) (u ∷ insert_once int_cmp v us))
        by_first Less = refl
        by_first Equal = refl
        by_first Greater = refl

    with_first : (us : List ℤ) → int_cmp v w ≡ Greater → either_greatest (Some v) (last_of us) ≡ either_greatest (Some v) (last_of (w ∷ us))
    with_first [] is = ap Some (let r = int_ranked v w Greater (sym is) in omega (arith, ints, clamps, r))
    with_first (u ∷ us) is = refl

    equal_first : (us : List ℤ) → v ≡ w → Ascends int_cmp int_cmp_total whole_tied (w ∷ us) → either_greatest (Some v) (last_of (w ∷ us)) ≡ last_of (w ∷ us)
    equal_first [] is up = ap Some (omega (arith, ints, clamps, is))
    equal_first (u ∷ us) is up = last-above v u us (ap (λ x. int_cmp x u) is ∙ up.0.0) up.1

    by_case : (o : Ordering) → int_cmp v w ≡ o → last_of (insert_once int_cmp v ws) ≡ either_greatest (Some v) (last_of ws)
        → last_of (by_order o (v ∷ w ∷ ws) (w ∷ ws) (w ∷ insert_once int_cmp v ws)) ≡ either_greatest (Some v) (last_of (w ∷ ws))
    by_case Less is later = sym (last-above v w ws is up)
    by_case Equal is later = sym (equal_first ws (whole_tied v w is) up)
    by_case Greater is later = last-behind ws ∙ (later ∙ with_first ws is)

last-greatest : (vs : List ℤ) → last_of (ascending int_cmp vs) ≡ greatest_all vs
last-greatest [] = refl
last-greatest (v ∷ vs) = last-insert v (ascending int_cmp vs) (ascending-ascends int_cmp int_cmp_total whole_tied vs) ∙ ap (either_greatest (Some v)) (last-greatest vs)

greatest-assoc : (a b c : Option ℤ) → either_greatest (either_greatest a b) c ≡ either_greatest a (either_greatest b c)
greatest-assoc None b c = refl
greatest-assoc (Some a) None c = refl
greatest-assoc (Some a) (Some b) None = refl
greatest-assoc (Some a) (Some b) (Some c) = ap Some (omega (arith, ints, clamps))

greatest-append : (vs ws : List ℤ) → greatest_all (vs ++ ws) ≡ either_greatest (greatest_all vs) (greatest_all ws)
greatest-append [] ws = refl
greatest-append (v ∷ vs) ws = ap (either_greatest (Some v)) (greatest-append vs ws) ∙ sym (greatest-assoc (Some v) (greatest_all vs) (greatest_all ws))

-- ---- sums and numbers

total-append : (vs ws : List ℤ) → total_of (vs ++ ws) ≡ total_of vs +ℤ total_of ws
total-append [] ws = omega (arith, ints)
total-append (v ∷ vs) ws = omega (arith, ints, total-append vs ws)

number-append : (vs ws : List ℤ) → length (vs ++ ws) ≡ length vs + length ws
number-append [] ws = omega arith
number-append (v ∷ vs) ws = omega (arith, number-append vs ws)

-- ---- of all kinds

pub numbers_joined : (kind : AggKind) (vs ws : List ℤ) → of_numbers kind (vs ++ ws) ≡ both_tallies (of_numbers kind vs) (of_numbers kind ws)
numbers_joined Min vs ws = ap Least (first-least (vs ++ ws) ∙ (least-append vs ws ∙ both_eq (sym (first-least vs)) (sym (first-least ws))))
  where
    both_eq : {a b c d : Option ℤ} → a ≡ b → c ≡ d → either_least a c ≡ either_least b d
    both_eq p q = cc
numbers_joined Max vs ws = ap Greatest (last-greatest (vs ++ ws) ∙ (greatest-append vs ws ∙ both_eq (sym (last-greatest vs)) (sym (last-greatest ws))))
  where
    both_eq : {a b c d : Option ℤ} → a ≡ b → c ≡ d → either_greatest a c ≡ either_greatest b d
    both_eq p q = cc
numbers_joined Sum vs ws = ap Total (total-append vs ws)
numbers_joined ValueCount vs ws = ap Number (number-append vs ws)
numbers_joined Increase vs ws = ap Number (number-append vs ws)
numbers_joined (Terms size by_key) vs ws = ap Number (number-append vs ws)
numbers_joined (DateHistogram interval least) vs ws = ap Number (number-append vs ws)

-- one number more
pub numbers_pushed : (kind : AggKind) (vs : List ℤ) (w : ℤ) → of_numbers kind (vs ++ w ∷ []) ≡ both_tallies (of_numbers kind vs) (of_numbers kind (w ∷ []))
numbers_pushed kind vs w = numbers_joined kind vs (w ∷ [])

-- one value more of a list
pub values_step : (kind : AggKind) (values : List Scalar) (at : ℕ) (value : Scalar) → at < length values → value ≡ get_or values at value →
    of_numbers kind (map number_of (take (at + 1) values)) ≡ both_tallies (of_numbers kind (map number_of (take at values))) (of_numbers kind (number_of value ∷ []))
values_step kind values at value lt is =
    let more : at + 1 ≡ suc at = omega arith in
    ap (λ n. of_numbers kind (map number_of (take n values))) more
    ∙ (ap (λ vs. of_numbers kind (map number_of vs)) (take-suc values at value lt ∙ ap (λ v. take at values ++ v ∷ []) (sym is))
    ∙ (ap (of_numbers kind) (map-append number_of (take at values) (value ∷ [])) ∙ numbers_joined kind (map number_of (take at values)) (number_of value ∷ [])))

-- ---- of samples

pub tallies_joined : (kind : AggKind) (role : Role) (place : ℕ) (xs ys : List Sample) → tally_over kind role place (xs ++ ys) ≡ both_tallies (tally_over kind role place xs) (tally_over kind role place ys)
tallies_joined kind GaugeRole place xs ys = ap Measured (gauge_all-append place xs ys ∙ gauges-either (gauge_all place ys) (gauge_all place xs))
tallies_joined kind Time place xs ys = ap (of_numbers kind) (flat_map-append (λ s. map number_of (values_at Time place s)) xs ys) ∙ numbers_joined kind (numbers_at Time place xs) (numbers_at Time place ys)
tallies_joined kind Dimension place xs ys = ap (of_numbers kind) (flat_map-append (λ s. map number_of (values_at Dimension place s)) xs ys) ∙ numbers_joined kind (numbers_at Dimension place xs) (numbers_at Dimension place ys)
tallies_joined kind Counter place xs ys = ap (of_numbers kind) (flat_map-append (λ s. map number_of (values_at Counter place s)) xs ys) ∙ numbers_joined kind (numbers_at Counter place xs) (numbers_at Counter place ys)
tallies_joined kind Label place xs ys = ap (of_numbers kind) (flat_map-append (λ s. map number_of (values_at Label place s)) xs ys) ∙ numbers_joined kind (numbers_at Label place xs) (numbers_at Label place ys)

-- of one sample
pub tally_single : (kind : AggKind) (role : Role) (place : ℕ) (s : Sample) → tally_over kind role place (s ∷ []) ≡ tally_by kind role s.row.time (cell_of place s.row)
tally_single kind GaugeRole place s = ap Measured (gauge_laws.none_left (gauge_in place s.row))
tally_single kind Time place s = refl
tally_single kind Dimension place s = ap (of_numbers kind) (append-nil (map number_of (values_at Dimension place s)))
tally_single kind Counter place s = ap (of_numbers kind) (append-nil (map number_of (values_at Counter place s)))
tally_single kind Label place s = ap (of_numbers kind) (append-nil (map number_of (values_at Label place s)))
