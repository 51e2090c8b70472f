-- The names of backing indices and of what they are folded to are names of indices.
use Rattle.std.specs.Prelude.{◌≡◌, ℕ, zero, suc, ℤ, ◌+◌, ◌*◌, ◌/◌, ◌%◌, ◌^◌, ◌<◌, ◌≤◌, ◌&&◌, ◌||◌, ◌==◌, Bool, true, false, nat_le, List, [], ◌∷◌, ◌++◌, length, codes, if◌then◌else◌, unsigned_abs}
use Rattle.std.specs.Char.{is_ascii_digit, is_ascii_lowercase}
use Rattle.std.specs.Fmt.{decimal}
use Rattle.std.specs.List.{list_all}
use Rattle.std.specs.Str.{all_ascii_digits}
use Rattle.std.specs.Str.Parse.{digits_value}
use Rattle.std.proofs.Common.{refl, ap, sym, subst, arith}
use Rattle.std.proofs.lemmas.Bool.{and_parts, leb-true, le-leb, lt-ltb}
use Rattle.std.proofs.lemmas.Fmt.{digits_decimal, length-decimal-le}
use Rattle.std.proofs.lemmas.List.{length-append}
use Rattle.std.proofs.lemmas.Str.Parse.{IsNumeralModel, numerals_by_value, tells_all_ascii_digits}
use Rattle.index_names.specs.Backing.{six_digits, behind_stream, backing_name, downsample_name}
use Rattle.index_names.specs.BackingLaws.{behind_long}
use Rattle.index_names.specs.Names.{is_letter_or_digit, is_name_byte, are_name_bytes, is_plain_name, is_hidden_name, is_stream_name, is_target_name, is_index_name}
use Rattle.index_names.specs.Reading.{IsBackingName}
use Rattle.stream_catalog.specs.Limits.{longest_fold_name}
use Rattle.time_text.specs.Count.{longest}
use Rattle.time_text.specs.Day.{last_where, year_of, month_of, day_of_month}
use Rattle.time_text.specs.Interval.{interval_text}
use Rattle.time_text.specs.Printed.{day_text, two_digits, four_digits}
use Rattle.time_text.specs.Unit.{unit_ms, unit_text}
use Rattle.time_text.specs.declared.intervals.Interval.{Interval}
use Rattle.time_text.specs.declared.units.Unit.{Unit as IntervalUnit}
use Rattle.time_text.specs.declared.units.Unit.TheVariants.{Ms, S, M, H, D}

-- ---- bytes of names

abbrev AreBytes : List ℕ → Type 0
AreBytes bytes = list_all is_name_byte bytes ≡ true

both : {a b : Bool} → a ≡ true → b ≡ true → (a && b) ≡ true
both {a} {b} p q = rw (p, q) refl

joined : (xs ys : List ℕ) → AreBytes xs → AreBytes ys → AreBytes (xs ++ ys)
joined [] ys first second = second
joined (x ∷ xs) ys first second = let parts = and_parts (is_name_byte x) (list_all is_name_byte xs) first in both parts.0 (joined xs ys parts.1 second)

digit : (d : ℕ) → d < 10 → is_name_byte (48 + d) ≡ true
digit zero less = refl
digit (suc zero) less = refl
digit (suc (suc zero)) less = refl
digit (suc (suc (suc zero))) less = refl
digit (suc (suc (suc (suc zero)))) less = refl
digit (suc (suc (suc (suc (suc zero))))) less = refl
digit (suc (suc (suc (suc (suc (suc zero)))))) less = refl
digit (suc (suc (suc (suc (suc (suc (suc zero))))))) less = refl
digit (suc (suc (suc (suc (suc (suc (suc (suc zero)))))))) less = refl
digit (suc (suc (suc (suc (suc (suc (suc (suc (suc zero))))))))) less = refl
digit (suc (suc (suc (suc (suc (suc (suc (suc (suc (suc n)))))))))) less = absurd (omega (arith, less))

two : (n : ℕ) → n < 100 → AreBytes (two_digits n)
two n small = both (digit (n / 10) (omega (arith, small))) (both (digit (n % 10) (omega arith)) refl)

four : (n : ℕ) → n < 10_000 → AreBytes (four_digits n)
four n small = joined (two_digits (n / 100)) (two_digits (n % 100)) (two (n / 100) (omega (arith, small))) (two (n % 100) (omega arith))

six : (n : ℕ) → n ≤ 999_999 → AreBytes (six_digits n)
six n small =
    joined (two_digits (n / 10_000)) (two_digits (n / 100 % 100) ++ two_digits (n % 100)) (two (n / 10_000) (omega (arith, small)))
    (joined (two_digits (n / 100 % 100)) (two_digits (n % 100)) (two (n / 100 % 100) (omega arith)) (two (n % 100) (omega arith)))

-- ---- days

last_within : (p : ℕ → Bool) (n : ℕ) → last_where p n ≤ n
unfolding last_where
last_within p zero = omega arith
last_within p (suc n) = by_test (p n) (last_within p n)
  where
    by_test : (b : Bool) → last_where p n ≤ n → (if b then n else last_where p n) ≤ suc n
    by_test true later = omega arith
    by_test false later = omega (arith, later)

last_below : (p : ℕ → Bool) (n : ℕ) → last_where p (suc n) ≤ n
unfolding last_where
last_below p n = by_test (p n)
  where
    by_test : (b : Bool) → (if b then n else last_where p n) ≤ n
    by_test true = omega arith
    by_test false = last_within p n

year_small : (day : ℕ) → year_of day ≤ 9_999
unfolding year_of
year_small day = last_below _ 9_999

month_small : (day : ℕ) → month_of day ≤ 12
unfolding month_of
month_small day = last_below _ 12

day_small : (day : ℕ) → day_of_month day ≤ 31
unfolding day_of_month
day_small day = last_below _ 31

date_bytes : (y m d : ℕ) → y ≤ 9_999 → m ≤ 12 → d ≤ 31 → AreBytes (four_digits y ++ codes "." ++ two_digits m ++ codes "." ++ two_digits d)
date_bytes y m d year month day =
    joined (four_digits y) (codes "." ++ two_digits m ++ codes "." ++ two_digits d) (four y (omega (arith, year)))
    (joined (codes ".") (two_digits m ++ codes "." ++ two_digits d) refl
    (joined (two_digits m) (codes "." ++ two_digits d) (two m (omega (arith, month))) (joined (codes ".") (two_digits d) refl (two d (omega (arith, day))))))

day_bytes : (now : ℤ) → AreBytes (day_text now)
unfolding day_text
day_bytes now =
    let day = unsigned_abs now / 86_400_000 in
    date_bytes (year_of day) (month_of day) (day_of_month day) (year_small day) (month_small day) (day_small day)

-- ---- names of streams

letter : (b : ℕ) → is_letter_or_digit b ≡ true → is_name_byte b ≡ true
letter b is = ap (λ v. v || b == 45 || b == 95 || b == 46) is

or_digit : (a b : Bool) → b ≡ true → (a || b) ≡ true
or_digit true b is = refl
or_digit false b is = is

plain_bytes : (name : List ℕ) → is_plain_name name ≡ true → AreBytes name
unfolding are_name_bytes
plain_bytes [] is = cc
plain_bytes (b ∷ name) is =
    let parts = and_parts (is_letter_or_digit b) (list_all is_name_byte name) is in
    both (letter b parts.0) parts.1

pub record IsStreamText (name : List ℕ) : Type 0 where
  pub short : length name ≤ 100
  pub bytes : AreBytes name

stream_text : (name : List ℕ) → is_stream_name name ≡ true → IsStreamText name
unfolding is_stream_name
stream_text name is = let parts = and_parts (nat_le (length name) 100) (is_plain_name name) is in record { short = leb-true (length name) 100 parts.0; bytes = plain_bytes name parts.1 }

-- ---- names of backing indices

behind_bytes : (now : ℤ) (g : ℕ) → g ≤ 999_999 → AreBytes (behind_stream now g)
unfolding day_text
behind_bytes now g small =
    joined (codes "-") (day_text now ++ codes "-" ++ six_digits g) refl
    (joined (day_text now) (codes "-" ++ six_digits g) (day_bytes now) (joined (codes "-") (six_digits g) refl (six g small)))

backing_rest : (s : List ℕ) (now : ℤ) (g : ℕ) → is_stream_name s ≡ true → g ≤ 999_999 →
    AreBytes (s ++ behind_stream now g) × (length (s ++ behind_stream now g) ≤ 118) × (0 < length (s ++ behind_stream now g))
backing_rest s now g is small =
    let text = stream_text s is in
    let short = text.short in
    let long = length-append s (behind_stream now g) in
    (joined s (behind_stream now g) text.bytes (behind_bytes now g small), omega (arith, long, short, behind_long now g), omega (arith, long, behind_long now g))

-- `.ds-` and bytes of names behind it
hidden : (rest : List ℕ) → AreBytes rest → length rest ≤ 118 → 0 < length rest → is_index_name (codes ".ds-" ++ rest) ≡ true
unfolding is_index_name are_name_bytes
hidden rest bytes short some =
    both (le-leb (length (codes ".ds-" ++ rest)) 160 (omega (arith, short)))
    (both (lt-ltb 4 (length (codes ".ds-" ++ rest)) (omega (arith, some))) (both refl bytes))

pub backing_named : (s : List ℕ) (now : ℤ) (g : ℕ) → is_stream_name s ≡ true → g ≤ 999_999 → is_index_name (backing_name s now g) ≡ true
unfolding backing_name
backing_named s now g is small = let rest = backing_rest s now g is small in hidden (s ++ behind_stream now g) rest.0 rest.1 rest.2

-- what is known of a name that an index was made with
origin_text : (name : List ℕ) → IsBackingName name → AreBytes name × (length name ≤ 122)
unfolding backing_name
origin_text name is =
    let rest = backing_rest is.0 is.1 is.2 is.3.of_stream is.3.within.1 in
    subst (λ n. AreBytes n × (length n ≤ 122)) (sym is.3.printed) (joined (codes ".ds-") (is.0 ++ behind_stream is.1 is.2) refl rest.0, omega (arith, rest.1))

-- ---- names of folds

digits_bytes : (ds : List ℕ) → all_ascii_digits ds ≡ true → AreBytes ds
digits_bytes [] are = refl
digits_bytes (d ∷ ds) are =
    let parts = and_parts (is_ascii_digit d) (all_ascii_digits ds) are in
    both (letter d (or_digit (is_ascii_lowercase d) (is_ascii_digit d) parts.0)) (digits_bytes ds parts.1)

own : IsNumeralModel (λ ds. all_ascii_digits ds ≡ true) (digits_value 10)
own = numerals_by_value _ tells_all_ascii_digits

unit_bytes : (unit : IntervalUnit) → AreBytes (unit_text unit) × (length (unit_text unit) ≤ 2)
unit_bytes Ms = (refl, omega arith)
unit_bytes S = (refl, omega arith)
unit_bytes M = (refl, omega arith)
unit_bytes H = (refl, omega arith)
unit_bytes D = (refl, omega arith)

number_small : (n : ℕ) (unit : IntervalUnit) → n * unit_ms unit ≤ longest → n < 10 ^ 15
number_small n Ms le = omega (arith, le)
number_small n S le = omega (arith, le)
number_small n M le = omega (arith, le)
number_small n H le = omega (arith, le)
number_small n D le = omega (arith, le)

interval_bytes : (by : Interval) → AreBytes (interval_text by.number by.unit) × (length (interval_text by.number by.unit) ≤ 17)
interval_bytes by =
    let small = number_small by.number by.unit by.in_range.1 in
    let wide : by.number < 2 ^ 64 = omega (arith, small) in
    let unit = unit_bytes by.unit in
    let long = length-append (decimal by.number) (unit_text by.unit) in
    let digits = length-decimal-le 15 by.number (omega arith) small wide in
    (joined (decimal by.number) (unit_text by.unit) (digits_bytes (decimal by.number) (digits_decimal own by.number wide)) unit.0, omega (arith, long, digits, unit.1))

plain : (rest : List ℕ) → AreBytes rest → length rest ≤ 140 → is_target_name (codes "downsample-" ++ rest) ≡ true
unfolding is_target_name are_name_bytes
plain rest bytes short = both (le-leb (length (codes "downsample-" ++ rest)) 160 (omega (arith, short))) bytes

pub fold_named : (by : Interval) (origin : List ℕ) → IsBackingName origin → is_target_name (downsample_name by origin) ≡ true
fold_named by origin is =
    let text = origin_text origin is in
    let interval = interval_bytes by in
    let middle = interval_text by.number by.unit in
    let long = length-append middle (codes "-" ++ origin) in
    plain (middle ++ (codes "-" ++ origin)) (joined middle (codes "-" ++ origin) interval.0 (joined (codes "-") origin refl text.0)) (omega (arith, long, interval.1, text.1))

pub fold_long : (by : Interval) (origin : List ℕ) → IsBackingName origin → length (downsample_name by origin) ≤ longest_fold_name
fold_long by origin is =
    let text = origin_text origin is in
    let interval = interval_bytes by in
    let long = length-append (interval_text by.number by.unit) (codes "-" ++ origin) in
    omega (arith, long, interval.1, text.1)

-- the name of a target is one of an index
pub target_named : (name : List ℕ) → is_target_name name ≡ true → is_index_name name ≡ true
unfolding is_target_name is_index_name
target_named name is = let parts = and_parts (nat_le (length name) 160) (is_plain_name name) is in both parts.0 (first (is_plain_name name) parts.1)
  where
    first : (v : Bool) → v ≡ true → (v || is_hidden_name name) ≡ true
    first true is = refl
    first false is = cc
