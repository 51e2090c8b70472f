-- Buckets inside wider ones, and raw rows under another mark.
use Rattle.std.specs.Prelude.{◌≡◌, ℕ, suc, ℤ, pos, negsuc, ◌<◌, ◌≤◌, ◌+◌, ◌*◌, ◌/◌, ◌%◌, Bool, List, Option, Some, None, true, false}
use Rattle.std.proofs.Common.{sym, subst, arith, inl, inr}
use Rattle.std.proofs.Math.Nat.{mul-le-mul_left, dvd_iff_mod-eq-zero}
use Rattle.std.proofs.lemmas.Bool.{cases_lt}
use Rattle.std.proofs.lemmas.Int.{ints}
use Rattle.std.proofs.lemmas.Nat.Gcd.{dvd_trans}
use Rattle.row_cells.specs.declared.schemas.Schema.{Schema}
use Rattle.row_cells.specs.declared.rows.Row.{Row}
use Rattle.row_cells.specs.Each.{Each}
use Rattle.row_cells.specs.EachLaws.{Each-weaker, Each-both}
use Rattle.row_cells.specs.Fitting.{folded_form}
use Rattle.row_cells.specs.FormLaws.{raw_fits}
use Rattle.time_text.specs.declared.intervals.Interval.{Interval}
use Rattle.time_text.specs.Bucket.{bucket_start}
use Rattle.time_text.specs.Instant.{IsInstant}
use Rattle.time_text.specs.Interval.{ms_of}
use Rattle.time_text.specs.BucketLaws.{bucket_start-pos}
use Rattle.stream_catalog.specs.Indices.{folded_index}
use Rattle.stream_catalog.specs.Plain.{PlainIndex}
use Rattle.stream_catalog.specs.Sound.{raw_form, AreRaw, Meets, AreRows, IsIndexSound}
use Rattle.row_cells.specs.KeyedRows.{IsRowOf}
use Rattle.stream_catalog.specs.Ways.{plain_way}
use Rattle.stream_catalog.proofs.FoldedLemmas.{MayFold}
use Rattle.stream_catalog.proofs.SeenLemmas.{some_ms}

-- ---- a bucket lies in the wider bucket of its instants

less_by : (n q m : ℕ) → n * q < n * m → suc q ≤ m
less_by n q m less = elim (cases_lt q m) [ inl below ↦ below | inr above ↦ absurd (let up = mul-le-mul_left n above in omega (arith, less, up)) ]

-- for a width that is k times as great
wider_end : (n k a : ℕ) → 0 < n → 0 < n * k → n * suc (a / n) ≤ n * (k * suc (a / (n * k)))
wider_end n k a some wide =
    let q = a / n in
    let r = a / (n * k) in
    let low : n * q ≤ a = omega arith in
    let high : a < n * k * suc r = omega arith in
    let same : n * k * suc r ≡ n * (k * suc r) = omega arith in
    mul-le-mul_left n (less_by n q (k * suc r) (omega (arith, low, high, same)))

wider_start : (n k a : ℕ) → 0 < n → 0 < n * k → n * k * (a / (n * k)) ≤ n * (a / n)
wider_start n k a some wide =
    let q = a / n in
    let r = a / (n * k) in
    let low : n * k * r ≤ a = omega arith in
    let high : a < n * suc q = omega arith in
    let same : n * k * r ≡ n * (k * r) = omega arith in
    let within : n * (k * r) < n * suc q = omega (arith, low, high, same) in
    let small : k * r ≤ q = let up = less_by n (k * r) (suc q) within in omega (arith, up) in
    let more = mul-le-mul_left n small in
    omega (arith, more, same)

meets_by : (n k : ℕ) (start end : ℤ) (t : ℤ) → 0 < n → 0 < n * k → IsInstant t → Meets n start end (bucket_start n t) → Meets (n * k) start end (bucket_start (n * k) t)
meets_by n k start end (pos a) some wide instant meets =
    let narrow : Meets n start end (pos (n * (a / n))) = subst (Meets n start end) (bucket_start-pos n a) meets in
    let first = wider_start n k a some wide in
    let last = wider_end n k a some wide in
    let one : n * suc (a / n) ≡ n * (a / n) + n = omega arith in
    let two : n * (k * suc (a / (n * k))) ≡ n * k * (a / (n * k)) + n * k = omega arith in
    subst (Meets (n * k) start end) (sym (bucket_start-pos (n * k) a))
    (omega (arith, ints, narrow.0, first), omega (arith, ints, narrow.1, last, one, two))
meets_by n k start end (negsuc a) some wide instant meets = absurd (omega (arith, ints, instant.0))

pub meets_wider : (m n : ℕ) (start end : ℤ) (t : ℤ) → 0 < m → 0 < n → n % m ≡ 0 → IsInstant t → Meets m start end (bucket_start m t) → Meets n start end (bucket_start n t)
meets_wider m n start end t narrow wide multiple instant meets =
    let e : m * (n / m) ≡ n = omega arith in
    let P : ℕ → Type 0 = λ x. 0 < x → Meets x start end (bucket_start x t) in
    subst P e (λ some. meets_by m (n / m) start end t narrow some instant meets) wide

pub divides_on : (d m n : ℕ) → 0 < d → m % d ≡ 0 → n % m ≡ 0 → n % d ≡ 0
divides_on d m n some low high = (dvd_iff_mod-eq-zero d).0 (dvd_trans d ((dvd_iff_mod-eq-zero d).1 low) ((dvd_iff_mod-eq-zero m).1 high))

-- ---- a raw row fits whatever mark its schema has

raw_row : (s : Schema) (b : Bool) (row : Row) → IsRowOf (raw_form s) row → IsRowOf (record s { folded = false; rises = b }) row
raw_row s b row r = record {
  fits = raw_fits s s.rises b row r.fits;
  keyed = record { routed = r.keyed.routed; short = r.keyed.short };
  short = r.short;
}

raw_rows : (s : Schema) (b : Bool) (start end : ℤ) (rows : List Row) → AreRaw s start end rows → AreRaw (record s { folded = true; rises = b }) start end rows
raw_rows s b start end rows raw = record {
  each = Each-weaker (IsRowOf (raw_form s)) (IsRowOf (record s { folded = false; rises = b })) (λ row r. raw_row s b row r) rows raw.each;
  within = raw.within;
}

-- ---- the rows of a fold in a plain machine: those of its source

folded_rows : (interval : Option Interval) (schema : Schema) (rises : Bool) (start end : ℤ) (rows : List Row) (by : Interval) → MayFold interval schema.rises rises by → AreRows interval schema start end rows →
    AreRows (Some by) (record schema { folded = true; rises = rises }) start end rows
folded_rows None schema rises start end rows by may are = inl (raw_rows schema rises start end rows are)
folded_rows (Some before) schema rises start end rows by may are =
    elim are [
      | inl raw ↦ inl (raw_rows schema rises start end rows raw)
      | inr folds ↦ inr (record {
        by = folds.by;
        some = folds.some;
        divides = divides_on folds.by (ms_of before) (ms_of by) folds.some folds.divides may.1;
        each = subst (λ b. Each (IsRowOf (record schema { folded = true; rises = b })) rows) (sym may.0) folds.each;
        starts = folds.starts;
        meet = Each-both (IsRowOf (folded_form schema)) (λ row. Meets (ms_of before) start end (bucket_start (ms_of before) row.time)) (λ row. Meets (ms_of by) start end (bucket_start (ms_of by) row.time))
            (λ row r meets. meets_wider (ms_of before) (ms_of by) start end row.time (some_ms before) (some_ms by) may.1 r.fits.instant meets) rows folds.each folds.meet;
      })
    ]

pub folded_index-sound : (target : List ℕ) (rises : Bool) (by : Interval) (i : PlainIndex) → IsIndexSound i → MayFold i.facts.interval i.facts.mapping.schema.rises rises by → IsIndexSound (folded_index plain_way target rises by i)
folded_index-sound target rises by i sound may = record {
  rows = folded_rows i.facts.interval i.facts.mapping.schema rises i.facts.start i.facts.end i.rows by may sound.rows;
  distinct = sound.distinct;
  few = sound.few;
}
