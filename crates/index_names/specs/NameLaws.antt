-- Which names are also names of another kind.
use Rattle.std.proofs.Common.{◌≡◌, ◌≤◌, ◌<◌, ◌+◌, ◌*◌, ◌/◌, ◌%◌, ◌^◌, ◌==◌, ◌||◌, ◌&&◌, ℕ, zero, suc, ℤ, Bool, true, false, cond, List, [], ◌∷◌, ◌++◌, length, nat_le, refl, sym, ap, ap₂, ◌∙◌, arith, length-append}
use Rattle.std.specs.Prelude.{codes, nat_lt, decimal, drop, take, bytes_eq}
use Rattle.std.specs.Char.{is_ascii_digit, is_ascii_lowercase}
use Rattle.std.specs.List.{list_all}
use Rattle.std.specs.Str.{all_ascii_digits}
use Rattle.std.proofs.lemmas.Bool.{le-leb, leb-true, lt-ltb}
use Rattle.std.proofs.lemmas.Fmt.{digits_decimal, length-decimal-le}
use Rattle.std.proofs.lemmas.List.{take-append-drop}
use Rattle.std.proofs.lemmas.List.Folds.{list_all-append}
use Rattle.std.proofs.lemmas.Slice.Eq.{bytes_eq-Decides}
use Rattle.time_text.specs.Day.{last_where, year_of, month_of, day_of_month}
use Rattle.time_text.specs.DayLaws.{civil_of_day}
use Rattle.time_text.specs.Instant.{IsInstant}
use Rattle.time_text.specs.Interval.{interval_text}
use Rattle.time_text.specs.Printed.{day_text, two_digits, four_digits}
use Rattle.time_text.specs.ShapeLaws.{both_true, first_true, own, second_true}
use Rattle.time_text.specs.Unit.{unit_ms, unit_text}
use Rattle.time_text.specs.declared.intervals.Interval.{Interval}
use Rattle.time_text.specs.declared.units.Unit.{Unit as IntervalUnit}
use Rattle.time_text.specs.declared.units.Unit.TheVariants.{Ms, S, M, H, D}
use Rattle.index_names.specs.Backing.{IsBackingOf, backing_name, behind_stream, downsample_name, six_digits}
use Rattle.index_names.specs.BackingLaws.{behind_long, day_of, day_small}
use Rattle.index_names.specs.Names.{are_name_bytes, index_limit, is_hidden_name, is_index_name, is_letter_or_digit, is_name_byte, is_plain_name, is_stream_name, is_target_name, stream_limit}

-- ---- statements

-- a stream's name is one that a target may have
abbrev pub StreamsNameTargets : Type 0
StreamsNameTargets = (name : List ℕ) → is_stream_name name ≡ true → is_target_name name ≡ true

-- a target's name is one that an index may have
abbrev pub TargetsNameIndices : Type 0
TargetsNameIndices = (name : List ℕ) → is_target_name name ≡ true → is_index_name name ≡ true

-- and so is that of a backing index
abbrev pub BackingNamesNameIndices : Type 0
BackingNamesNameIndices = (name stream : List ℕ) (now : ℤ) (generation : ℕ) → IsBackingOf name stream now generation → is_index_name name ≡ true

-- the name of what an index is downsampled to is one of a target, where it isn't too long
abbrev pub FoldsNameTargets : Type 0
FoldsNameTargets = (by : Interval) (origin : List ℕ) → is_index_name origin ≡ true → length (downsample_name by origin) ≤ index_limit → is_target_name (downsample_name by origin) ≡ true

-- which that of a backing index's never is
abbrev pub FoldsOfBackingNameTargets : Type 0
FoldsOfBackingNameTargets =
    (by : Interval) (name stream : List ℕ) (now : ℤ) (generation : ℕ) → IsBackingOf name stream now generation → is_target_name (downsample_name by name) ≡ true

-- ---- tests

second_or : (a b : Bool) → b ≡ true → (a || b) ≡ true
second_or true b is = refl
second_or false b is = is

first_or : (a b : Bool) → a ≡ true → (a || b) ≡ true
first_or true b is = refl
first_or false b is = cc

-- ---- names of bytes of names

letter_byte : (b : ℕ) → is_letter_or_digit b ≡ true → is_name_byte b ≡ true
letter_byte b is =
    let letter = is_letter_or_digit b in
    first_or (letter || b == 45 || b == 95) (b == 46) (first_or (letter || b == 45) (b == 95) (first_or letter (b == 45) is))

plain_bytes : (name : List ℕ) → is_plain_name name ≡ true → list_all is_name_byte name ≡ true
unfolding are_name_bytes
plain_bytes [] is = cc
plain_bytes (b ∷ name) is =
    both_true (is_name_byte b) (list_all is_name_byte name) (letter_byte b (first_true (is_letter_or_digit b) (list_all is_name_byte name) is))
    (second_true (is_letter_or_digit b) (list_all is_name_byte name) is)

joined : (xs ys : List ℕ) → list_all is_name_byte xs ≡ true → list_all is_name_byte ys ≡ true → list_all is_name_byte (xs ++ ys) ≡ true
joined xs ys first second = list_all-append is_name_byte xs ys ∙ both_true (list_all is_name_byte xs) (list_all is_name_byte ys) first second

digit_byte : (n : ℕ) → n < 10 → is_name_byte (48 + n) ≡ true
digit_byte n small = letter_byte (48 + n) (second_or (is_ascii_lowercase (48 + n)) (is_ascii_digit (48 + n)) (both_true (nat_le 48 (48 + n)) (nat_le (48 + n) 57) (le-leb 48 (48 + n) (omega arith)) (le-leb (48 + n) 57 (omega (arith, small)))))

two_bytes : (n : ℕ) → n < 100 → list_all is_name_byte (two_digits n) ≡ true
two_bytes n small =
    both_true (is_name_byte (48 + n / 10)) (is_name_byte (48 + n % 10) && true) (digit_byte (n / 10) (omega (arith, small)))
    (both_true (is_name_byte (48 + n % 10)) true (digit_byte (n % 10) (omega arith)) refl)

four_bytes : (n : ℕ) → n < 10_000 → list_all is_name_byte (four_digits n) ≡ true
four_bytes n small = joined (two_digits (n / 100)) (two_digits (n % 100)) (two_bytes (n / 100) (omega (arith, small))) (two_bytes (n % 100) (omega arith))

six_bytes : (n : ℕ) → n ≤ 999_999 → list_all is_name_byte (six_digits n) ≡ true
six_bytes n small =
    joined (two_digits (n / 10_000)) (two_digits (n / 100 % 100) ++ two_digits (n % 100)) (two_bytes (n / 10_000) (omega (arith, small)))
    (joined (two_digits (n / 100 % 100)) (two_digits (n % 100)) (two_bytes (n / 100 % 100) (omega arith)) (two_bytes (n % 100) (omega arith)))

dotted : (xs : List ℕ) → list_all is_name_byte xs ≡ true → list_all is_name_byte (codes "." ++ xs) ≡ true
dotted xs is = is

hyphened : (xs : List ℕ) → list_all is_name_byte xs ≡ true → list_all is_name_byte (codes "-" ++ xs) ≡ true
hyphened xs is = is

date_bytes : (y m d : ℕ) → y < 10_000 → m < 100 → d < 100 → list_all is_name_byte (four_digits y ++ (codes "." ++ (two_digits m ++ (codes "." ++ two_digits d)))) ≡ true
date_bytes y m d year month day =
    joined (four_digits y) (codes "." ++ (two_digits m ++ (codes "." ++ two_digits d))) (four_bytes y year)
    (dotted (two_digits m ++ (codes "." ++ two_digits d)) (joined (two_digits m) (codes "." ++ two_digits d) (two_bytes m month) (dotted (two_digits d) (two_bytes d day))))

last_small : (p : ℕ → Bool) (n : ℕ) → last_where p n ≤ n
unfolding last_where
last_small p zero = omega arith
last_small p (suc n) = go (p n) (last_small p n)
  where
    go : (v : Bool) → last_where p n ≤ n → cond v n (last_where p n) ≤ suc n
    go true later = omega arith
    go false later = omega (arith, later)

month_short : (day : ℕ) → month_of day ≤ 13
unfolding month_of
month_short day = last_small _ 13

day_short : (day : ℕ) → day_of_month day ≤ 32
unfolding day_of_month
day_short day = last_small _ 32

day_bytes : (t : ℤ) → IsInstant t → list_all is_name_byte (day_text t) ≡ true
unfolding day_text
day_bytes t is =
    let day = day_of t in
    let civil = civil_of_day day (day_small t is) in
    date_bytes (year_of day) (month_of day) (day_of_month day) civil.to (omega (arith, month_short day)) (omega (arith, day_short day))

behind_bytes : (t : ℤ) (n : ℕ) → IsInstant t → n ≤ 999_999 → list_all is_name_byte (behind_stream t n) ≡ true
unfolding day_text
behind_bytes t n is small = hyphened (day_text t ++ (codes "-" ++ six_digits n)) (joined (day_text t) (codes "-" ++ six_digits n) (day_bytes t is) (hyphened (six_digits n) (six_bytes n small)))

-- ---- streams and targets

pub stream_is_target : StreamsNameTargets
unfolding is_stream_name is_target_name
stream_is_target name is =
    let short = leb-true (length name) stream_limit (first_true (nat_le (length name) stream_limit) (is_plain_name name) is) in
    both_true (nat_le (length name) index_limit) (is_plain_name name) (le-leb (length name) index_limit (omega (arith, short))) (second_true (nat_le (length name) stream_limit) (is_plain_name name) is)

pub target_is_index : TargetsNameIndices
unfolding is_target_name is_index_name
target_is_index name is =
    both_true (nat_le (length name) index_limit) (is_plain_name name || is_hidden_name name) (first_true (nat_le (length name) index_limit) (is_plain_name name) is)
    (first_or (is_plain_name name) (is_hidden_name name) (second_true (nat_le (length name) index_limit) (is_plain_name name) is))

-- ---- backing indices

record IsOfStream (name : List ℕ) : Type 0 where
  short : length name ≤ stream_limit
  bytes : list_all is_name_byte name ≡ true

of_stream : (name : List ℕ) → is_stream_name name ≡ true → IsOfStream name
unfolding is_stream_name
of_stream name is = record {
  short = leb-true (length name) stream_limit (first_true (nat_le (length name) stream_limit) (is_plain_name name) is);
  bytes = plain_bytes name (second_true (nat_le (length name) stream_limit) (is_plain_name name) is);
}

-- a name behind the mark of backing indices
hidden : (rest : List ℕ) → 1 ≤ length rest → length rest ≤ 156 → list_all is_name_byte rest ≡ true → is_index_name (codes ".ds-" ++ rest) ≡ true
unfolding is_index_name are_name_bytes
hidden rest some few bytes =
    both_true (nat_le (length (codes ".ds-" ++ rest)) index_limit) (is_plain_name (codes ".ds-" ++ rest) || is_hidden_name (codes ".ds-" ++ rest))
    (le-leb (length (codes ".ds-" ++ rest)) index_limit (omega (arith, few)))
    (second_or (is_plain_name (codes ".ds-" ++ rest)) (is_hidden_name (codes ".ds-" ++ rest))
    (both_true (nat_lt 4 (length (codes ".ds-" ++ rest))) (list_all is_name_byte rest) (lt-ltb 4 (length (codes ".ds-" ++ rest)) (omega (arith, some))) bytes))

record IsBehindMark (name : List ℕ) : Type 0 where
  rest : List ℕ
  is : name ≡ codes ".ds-" ++ rest
  some : 1 ≤ length rest
  few : length rest ≤ 118
  bytes : list_all is_name_byte rest ≡ true

behind_mark : (name stream : List ℕ) (now : ℤ) (generation : ℕ) → IsBackingOf name stream now generation → IsBehindMark name
unfolding backing_name
behind_mark name stream now generation is =
    let known = of_stream stream is.of_stream in
    let tail = behind_stream now generation in
    let long = length-append stream tail in
    record {
      rest = stream ++ tail;
      is = is.printed;
      some = omega (arith, long, behind_long now generation);
      few = omega (arith, long, behind_long now generation, known.short);
      bytes = joined stream tail known.bytes (behind_bytes now generation is.at_instant is.within.1);
    }

pub backing_is_index : BackingNamesNameIndices
backing_is_index name stream now generation is =
    let known = behind_mark name stream now generation is in
    ap is_index_name known.is ∙ hidden known.rest known.some (omega (arith, known.few)) known.bytes

-- ---- what indices are downsampled to

unit_bytes : (unit : IntervalUnit) → list_all is_name_byte (unit_text unit) ≡ true
unit_bytes Ms = refl
unit_bytes S = refl
unit_bytes M = refl
unit_bytes H = refl
unit_bytes D = refl

unit_long : (unit : IntervalUnit) → length (unit_text unit) ≤ 2
unit_long Ms = omega arith
unit_long S = omega arith
unit_long M = omega arith
unit_long H = omega arith
unit_long D = omega arith

unit_more : (unit : IntervalUnit) → 1 ≤ unit_ms unit
unit_more Ms = omega arith
unit_more S = omega arith
unit_more M = omega arith
unit_more H = omega arith
unit_more D = omega arith

digits_bytes : (ds : List ℕ) → all_ascii_digits ds ≡ true → list_all is_name_byte ds ≡ true
digits_bytes [] is = refl
digits_bytes (b ∷ ds) is =
    both_true (is_name_byte b) (list_all is_name_byte ds) (letter_byte b (second_or (is_ascii_lowercase b) (is_ascii_digit b) (first_true (is_ascii_digit b) (all_ascii_digits ds) is)))
    (digits_bytes ds (second_true (is_ascii_digit b) (all_ascii_digits ds) is))

factor_below : (number unit : ℕ) → 1 ≤ unit → number ≤ number * unit
factor_below number unit h = grind arith

few_units : (by : Interval) → by.number < 10 ^ 15
few_units by = omega (arith, by.in_range.1, factor_below by.number (unit_ms by.unit) (unit_more by.unit))

interval_bytes : (by : Interval) → list_all is_name_byte (interval_text by.number by.unit) ≡ true
interval_bytes by =
    let few = few_units by in
    joined (decimal by.number) (unit_text by.unit) (digits_bytes (decimal by.number) (digits_decimal own by.number (omega (arith, few)))) (unit_bytes by.unit)

interval_long : (by : Interval) → length (interval_text by.number by.unit) ≤ 17
interval_long by =
    let few = few_units by in
    omega (arith, length-append (decimal by.number) (unit_text by.unit), length-decimal-le 15 by.number (omega arith) few (omega (arith, few)), unit_long by.unit)

hidden_bytes : (name : List ℕ) → is_hidden_name name ≡ true → list_all is_name_byte name ≡ true
unfolding are_name_bytes
hidden_bytes name is =
    let mark = bytes_eq (take 4 name) (codes ".ds-") in
    let rest = second_true (nat_lt 4 (length name)) (mark && list_all is_name_byte (drop 4 name)) is in
    let same : take 4 name ≡ codes ".ds-" = (bytes_eq-Decides (take 4 name) (codes ".ds-")).0 (first_true mark (list_all is_name_byte (drop 4 name)) rest) in
    sym (ap (list_all is_name_byte) (take-append-drop 4 name))
    ∙ joined (take 4 name) (drop 4 name) (ap (list_all is_name_byte) same) (second_true mark (list_all is_name_byte (drop 4 name)) rest)

index_bytes : (name : List ℕ) → is_index_name name ≡ true → list_all is_name_byte name ≡ true
unfolding is_index_name are_name_bytes
index_bytes name is = go (is_plain_name name) refl (second_true (nat_le (length name) index_limit) (is_plain_name name || is_hidden_name name) is)
  where
    go : (v : Bool) → is_plain_name name ≡ v → (v || is_hidden_name name) ≡ true → list_all is_name_byte name ≡ true
    go true plain is = plain_bytes name plain
    go false plain is = hidden_bytes name is

behind_reserved : (rest : List ℕ) → list_all is_name_byte rest ≡ true → length (codes "downsample-" ++ rest) ≤ index_limit → is_target_name (codes "downsample-" ++ rest) ≡ true
unfolding is_target_name are_name_bytes
behind_reserved rest bytes few =
    both_true (nat_le (length (codes "downsample-" ++ rest)) index_limit) (list_all is_name_byte rest) (le-leb (length (codes "downsample-" ++ rest)) index_limit few) bytes

fold_of : (by : Interval) (origin : List ℕ) → list_all is_name_byte origin ≡ true → length (downsample_name by origin) ≤ index_limit → is_target_name (downsample_name by origin) ≡ true
fold_of by origin bytes few =
    behind_reserved (interval_text by.number by.unit ++ (codes "-" ++ origin))
    (joined (interval_text by.number by.unit) (codes "-" ++ origin) (interval_bytes by) (hyphened origin bytes)) few

pub fold_is_target : FoldsNameTargets
fold_is_target by origin is few = fold_of by origin (index_bytes origin is) few

pub fold_of_backing_is_target : FoldsOfBackingNameTargets
fold_of_backing_is_target by name stream now generation is =
    let known = behind_mark name stream now generation is in
    let long : length name ≤ 122 = omega (arith, ap length known.is, known.few) in
    fold_of by name (index_bytes name (backing_is_index name stream now generation is))
    (omega (arith, long, interval_long by, length-append (interval_text by.number by.unit) (codes "-" ++ name)))
