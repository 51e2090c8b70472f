-- What is printed of an interval is read again, and what is read is printed as it was.
use Rattle.std.proofs.Common.{subst, ◌≡◌, ℕ, zero, suc, ◌*◌, ◌^◌, ◌<◌, ◌≤◌, Bool, true, false, ◌&&◌, cond, not, List, [], ◌∷◌, ◌++◌, length, take, drop, get_or, Option, Some, None, refl, sym, ap, ◌∙◌, arith, ◌⊎◌, inl, inr}
use Rattle.std.specs.Prelude.{option_map, codes, slice_index, decimal, nat_le, ◌==◌}
use Rattle.std.specs.Char.{is_ascii_digit}
use Rattle.std.specs.Int.{IsInRange}
use Rattle.std.specs.List.{prefix_len}
use Rattle.std.specs.Str.{all_ascii_digits}
use Rattle.std.specs.Str.Parse.{digits_value}
use Rattle.std.proofs.lemmas.Bool.{both_ways, le-leb, leb-true}
use Rattle.std.proofs.lemmas.Bool.Decides.{nat_tests}
use Rattle.std.proofs.lemmas.Fmt.{digits_decimal, digits_value-decimal, decimal-digits_value, length-decimal-le, decimal_nonempty, first_decimal}
use Rattle.std.proofs.lemmas.List.{take-append-drop}
use Rattle.std.proofs.lemmas.Option.{cond_some, option_and_then_some, same_Some, some_pair_parts}
use Rattle.std.proofs.lemmas.Str.Parse.{digits_value_short}
use Rattle.std.proofs.Math.Bridge.{le_prop}
use Rattle.std.proofs.Math.Seq.{take-append_seam, drop-append_seam}
use Rattle.time_text.specs.declared.units.Unit.{Unit as IntervalUnit}
use Rattle.time_text.specs.declared.units.Unit.TheVariants.{Ms, S, M, H, D}
use Rattle.time_text.specs.declared.intervals.Interval.{Interval}
use Rattle.time_text.specs.Shape.{◌>>=◌, has_shape}
use Rattle.time_text.specs.Count.{is_count, longest}
use Rattle.time_text.specs.Unit.{unit_ms, unit_text, unit_of}
use Rattle.time_text.specs.Interval.{interval_of, interval_in, interval_if, interval_with, is_length, with_value_in_range}
use Rattle.time_text.specs.Laws.{IntervalReadsBack, IntervalPrintsAsWritten}
use Rattle.time_text.specs.ShapeLaws.{own, first_true, second_true, digits_in_front, exact_shape, no_marks}

-- no unit begins with a digit
unit_stops : (unit : IntervalUnit) → prefix_len is_ascii_digit (unit_text unit) ≡ 0
unit_stops Ms = refl
unit_stops S = refl
unit_stops M = refl
unit_stops H = refl
unit_stops D = refl

unit_reads : (unit : IntervalUnit) → unit_of (unit_text unit) ≡ Some unit
unfolding unit_of
unit_reads Ms = refl
unit_reads S = refl
unit_reads M = refl
unit_reads H = refl
unit_reads D = refl

unit_ms-pos : (unit : IntervalUnit) → 1 ≤ unit_ms unit
unit_ms-pos Ms = omega arith
unit_ms-pos S = omega arith
unit_ms-pos M = omega arith
unit_ms-pos H = omega arith
unit_ms-pos D = omega arith

-- digits before a text that begins with none
digits_before : (ds rest : List ℕ) → all_ascii_digits ds ≡ true → prefix_len is_ascii_digit rest ≡ 0 → prefix_len is_ascii_digit (ds ++ rest) ≡ length ds
digits_before [] rest h stop = stop
digits_before (d ∷ ds) rest h stop =
    let here = first_true (is_ascii_digit d) (all_ascii_digits ds) h in
    let more = digits_before ds rest (second_true (is_ascii_digit d) (all_ascii_digits ds) h) stop in
    rw (here, more) (omega arith)

factor_below : (number unit : ℕ) → 1 ≤ unit → number ≤ number * unit
factor_below number unit h = grind arith

-- a number is written as a count
first_is_other : (first : ℕ) → 48 < first → (first == 48) ≡ false
first_is_other first h = grind (arith, nat_tests)

decimal_count : (number : ℕ) → 0 < number → number < 10 ^ 15 → is_count (decimal number) ≡ true
decimal_count number some few =
    let wide : number < 2 ^ 64 = omega arith in
    let one = decimal_nonempty number wide in
    let first = first_decimal number some wide in
    rw (le-leb 1 (length (decimal number)) one, le-leb (length (decimal number)) 15 (length-decimal-le 15 number (omega arith) few wide), first_is_other (get_or (decimal number) 0 0) first) refl

pub reads_back : IntervalReadsBack
unfolding interval_of
reads_back number unit h =
    let factor = factor_below number (unit_ms unit) (unit_ms-pos unit) in
    let few : number < 10 ^ 15 = omega arith in
    let wide : number < 2 ^ 64 = omega arith in
    let some : 0 < number = positive number (unit_ms unit) h.0 in
    let place = digits_before (decimal number) (unit_text unit) (digits_decimal own number wide) (unit_stops unit) in
    rw (place, take-append_seam (decimal number) (unit_text unit), drop-append_seam (decimal number) (unit_text unit), decimal_count number some few, unit_reads unit, digits_value-decimal own number wide, le-leb 1 (number * unit_ms unit) h.0, le-leb (number * unit_ms unit) longest h.1) refl
  where
    positive : (a b : ℕ) → 1 ≤ a * b → 0 < a
    positive zero b h = absurd (omega arith)
    positive (suc a) b h = omega arith

-- the unit that is read is written so
chosen : {A : Type 0} (b : Bool) (x y z : A) → cond b x y ≡ z → ((b ≡ true) × (x ≡ z)) ⊎ ((b ≡ false) × (y ≡ z))
chosen true x y z h = inl (refl, h)
chosen false x y z h = inr (refl, h)

exact_unit : (name rest : List ℕ) (v u : IntervalUnit) → has_shape name rest ≡ true → no_marks name ≡ true → name ≡ unit_text v → Some v ≡ Some u → rest ≡ unit_text u
exact_unit name rest v u h m e same = exact_shape name rest h m ∙ e ∙ ap unit_text (same_Some v u same)

unit_is : (rest : List ℕ) (u : IntervalUnit) → unit_of rest ≡ Some u → rest ≡ unit_text u
unfolding unit_of
unit_is rest u h = elim (chosen (has_shape (codes "ms") rest) (Some Ms) _ (Some u) h) [
  | inl a ↦ exact_unit (codes "ms") rest Ms u a.0 refl refl a.1
  | inr b ↦ elim (chosen (has_shape (codes "s") rest) (Some S) _ (Some u) b.1) [
    | inl a ↦ exact_unit (codes "s") rest S u a.0 refl refl a.1
    | inr b ↦ elim (chosen (has_shape (codes "m") rest) (Some M) _ (Some u) b.1) [
      | inl a ↦ exact_unit (codes "m") rest M u a.0 refl refl a.1
      | inr b ↦ elim (chosen (has_shape (codes "h") rest) (Some H) _ (Some u) b.1) [
        | inl a ↦ exact_unit (codes "h") rest H u a.0 refl refl a.1
        | inr b ↦ elim (chosen (has_shape (codes "d") rest) (Some D) None (Some u) b.1) [
          | inl a ↦ exact_unit (codes "d") rest D u a.0 refl refl a.1
          | inr b ↦ absurd (let no = b.1 in cc)
        ]
      ]
    ]
  ]
]

taken : {A : Type 0} (b : Bool) (x : Option A) (y : A) → cond b x None ≡ Some y → (b ≡ true) × (x ≡ Some y)
taken true x y h = (refl, h)
taken false x y h = cc

-- the digits that are read are written so
count_is : (ds : List ℕ) → all_ascii_digits ds ≡ true → is_count ds ≡ true → decimal (digits_value 10 ds) ≡ ds
count_is ds digits count =
    let sizes = first_true (nat_le 1 (length ds) && nat_le (length ds) 15) (not (slice_index ds 0 == 48)) count in
    let some = leb-true 1 (length ds) (first_true (nat_le 1 (length ds)) (nat_le (length ds) 15) sizes) in
    let few = leb-true (length ds) 15 (second_true (nat_le 1 (length ds)) (nat_le (length ds) 15) sizes) in
    let first = second_true (nat_le 1 (length ds) && nat_le (length ds) 15) (not (slice_index ds 0 == 48)) count in
    decimal-digits_value own ds digits some (λ e. absurd (leads (get_or ds 0 0) first e)) (omega (arith, digits_value_short own ds 15 digits few))
  where
    leads : (first : ℕ) → not (first == 48) ≡ true → first ≡ 48 → ⊥
    leads first h e = grind (arith, nat_tests)

written : (text rest : List ℕ) (number value : ℕ) (unit u : IntervalUnit) → text ≡ decimal value ++ rest → rest ≡ unit_text u → ◌≡◌ {A = Option (ℕ × IntervalUnit)} (Some (value, u)) (Some (number, unit)) → text ≡ decimal number ++ unit_text unit
written text rest number value unit u whole name same =
    let parts = some_pair_parts value number u unit same in
    whole ∙ ap (λ r. decimal value ++ r) name ∙ ap (λ n. decimal n ++ unit_text u) parts.0 ∙ ap (λ v. decimal number ++ unit_text v) parts.1

pub prints_as_written : IntervalPrintsAsWritten
unfolding interval_of
prints_as_written text number unit h =
    let place = prefix_len is_ascii_digit text in
    let ds = take place text in
    let rest = drop place text in
    let whole : text ≡ ds ++ rest = sym (take-append-drop place text) in
    let count = taken (is_count ds) (unit_of rest >>= with_value_in_range (digits_value 10 ds)) (number, unit) h in
    let spelled = count_is ds (digits_in_front text) count.0 in
    option_and_then_some (with_value_in_range (digits_value 10 ds)) (unit_of rest) (number, unit) count.1
    (λ u name value. written text rest number (digits_value 10 ds) unit u (whole ∙ ap (λ x. x ++ rest) (sym spelled)) (unit_is rest u name)
    (ap Some (cond_some _ (digits_value 10 ds, u) (number, unit) value).1))

abbrev HasRange : ℕ → IntervalUnit → Type 0
HasRange number unit = IsInRange 1 longest (number * unit_ms unit)

range_prop : (number : ℕ) (unit : IntervalUnit) → IsProp (HasRange number unit)
range_prop number unit = hlevel (le_prop)

abbrev made : (number : ℕ) (unit : IntervalUnit) → HasRange number unit → Interval
made number unit p = record { number = number; unit = unit; in_range = p }

same_made : (m n : ℕ) (u v : IntervalUnit) (p : HasRange m u) (q : HasRange n v) → m ≡ n → u ≡ v → made m u p ≡ made n v q
same_made m n u v p q e f =
    let P : ℕ → Type 0 = λ x. (r : HasRange x u) → made m u p ≡ made x u r in
    let at_number : (r : HasRange n u) → made m u p ≡ made n u r = subst P e (λ r. ap (made m u) (range_prop m u p r)) in
    let Q : IntervalUnit → Type 0 = λ y. (r : HasRange n y) → made m u p ≡ made n y r in
    subst Q f at_number q

-- intervals of one number and one unit are one
pub same_interval : (a b : Interval) → a.number ≡ b.number → a.unit ≡ b.unit → a ≡ b
same_interval a b n u = same_made a.number b.number a.unit b.unit a.in_range b.in_range n u

-- what an interval is made of makes it
pub interval_with-is : (i : Interval) → interval_with i.number i.unit ≡ Some i
interval_with-is i = by_test (is_length i.number i.unit) refl
  where
    by_test : (b : Bool) (is : is_length i.number i.unit ≡ b) → interval_if i.number i.unit b is ≡ Some i
    by_test true is = ap Some (same_interval (made i.number i.unit _) i refl refl)
    by_test false is = absurd (both_ways (is_length i.number i.unit) is (rw (le-leb 1 (i.number * unit_ms i.unit) i.in_range.0, le-leb (i.number * unit_ms i.unit) longest i.in_range.1) refl))

-- a text that is read as a number and a unit is read as the interval of them
pub interval_in-is : (s : List ℕ) (i : Interval) → interval_of s ≡ Some (i.number, i.unit) → interval_in s ≡ Some i
unfolding interval_in
interval_in-is s i read = rw read (interval_with-is i)

pub interval_in-none : (s : List ℕ) → interval_of s ≡ None → interval_in s ≡ None
unfolding interval_in
interval_in-none s none = rw none refl

-- what is read has an allowed length
read_length : (text : List ℕ) (number : ℕ) (unit : IntervalUnit) → interval_of text ≡ Some (number, unit) → is_length number unit ≡ true
unfolding interval_of
read_length text number unit h =
    let place = prefix_len is_ascii_digit text in
    let ds = take place text in
    let rest = drop place text in
    let count = taken (is_count ds) (unit_of rest >>= with_value_in_range (digits_value 10 ds)) (number, unit) h in
    option_and_then_some (with_value_in_range (digits_value 10 ds)) (unit_of rest) (number, unit) count.1
    (λ u name value. let read = cond_some (is_length (digits_value 10 ds) u) (digits_value 10 ds, u) (number, unit) value in ap (λ p. is_length p.0 p.1) (sym read.1) ∙ read.0)

abbrev pub parts_of : Interval → ℕ × IntervalUnit
parts_of i = (i.number, i.unit)

parts_of_with : (number : ℕ) (unit : IntervalUnit) → is_length number unit ≡ true → option_map parts_of (interval_with number unit) ≡ Some (number, unit)
parts_of_with number unit allowed = by_test (is_length number unit) refl
  where
    by_test : (b : Bool) (is : is_length number unit ≡ b) → option_map parts_of (interval_if number unit b is) ≡ Some (number, unit)
    by_test true is = refl
    by_test false is = absurd (both_ways (is_length number unit) is allowed)

-- what is read of a text with the proof is what is read without it
pub interval_in-parts : (s : List ℕ) → option_map parts_of (interval_in s) ≡ interval_of s
unfolding interval_in
interval_in-parts s = by_case (interval_of s) refl
  where
    by_case : (o : Option (ℕ × IntervalUnit)) → interval_of s ≡ o → option_map parts_of (o >>= λ read. interval_with read.0 read.1) ≡ o
    by_case None is = refl
    by_case (Some (number, unit)) is = parts_of_with number unit (read_length s number unit is)
