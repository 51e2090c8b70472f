-- What a value shows is read as the value.
use Rattle.std.proofs.Common.{◌≡◌, ◌≤ℤ◌, ℤ, pos, negsuc, ◌^◌, int_le, Bool, true, false, cond, ◌&&◌, Some, None, option_map, option_and_then, refl, ap, ap₂, ◌∙◌, arith, lt-ltb, FitsSigned}
use Rattle.std.proofs.lemmas.Int.{ints}
use Rattle.std.specs.Int.{w64}
use Rattle.fold_law.specs.declared.measures.Parts.{Parts}
use Rattle.serde_json.specs.Data.{string}
use Rattle.serde_json.specs.Find.{as_i64, of_integer}
use Rattle.time_text.specs.Instant.{IsInstant}
use Rattle.time_text.specs.Printed.{instant_text}
use Rattle.time_text.specs.PrintedLaws.{print_reads}
use Rattle.row_cells.specs.declared.scalars.Scalar.{Scalar}
use Rattle.row_cells.specs.declared.scalars.Scalar.TheVariants.{Whole, Flag, Word}
use Rattle.row_cells.specs.declared.schemas.FieldType.{FieldType}
use Rattle.row_cells.specs.declared.schemas.FieldType.TheVariants.{Date, Keyword, Long, Integer, Short, Byte, Boolean, Aggregate}
use Rattle.row_cells.specs.Fitting.{IsAggregate, IsValueOf}
use Rattle.ts_mapping.specs.ReadingLaws.{in_long, own_word}
use Rattle.ts_mapping.specs.Readings.{aggregate_of, in_type, is_number_of, reading_of}
use Rattle.synthetic_source.specs.Normal.{parts_data, scalar_data}

le_true : (a b : ℤ) → a ≤ℤ b → int_le a b ≡ true
le_true a b le = go (int_le a b) refl
  where
    go : (v : Bool) → int_le a b ≡ v → v ≡ true
    go true is = refl
    go false is = absurd (omega (arith, ints, le, is))

number_back : (v : ℤ) → FitsSigned w64 v → as_i64 (of_integer v) ≡ Some v
number_back (pos n) is = ap (λ b. cond b (Some (pos n)) None) (lt-ltb n (2 ^ 63) (omega (arith, ints, is)))
number_back (negsuc n) is = refl

part_back : (v : ℤ) → FitsSigned w64 v → option_and_then (in_type Long) (as_i64 (of_integer v)) ≡ Some v
part_back v is = ap (option_and_then (in_type Long)) (number_back v is) ∙ in_long v is

within : (lo hi v : ℤ) → lo ≤ℤ v → v ≤ℤ hi → (int_le lo v && int_le v hi) ≡ true
within lo hi v above below = ap₂ (λ x y. x && y) (le_true lo v above) (le_true v hi below)

whole_back : (kind : FieldType) (v : ℤ) → FitsSigned w64 v → is_number_of kind v ≡ true → option_map Whole (option_and_then (in_type kind) (as_i64 (of_integer v))) ≡ Some (Whole v)
whole_back kind v is fits =
    ap (λ o. option_map Whole (option_and_then (in_type kind) o)) (number_back v is)
    ∙ ap (λ b. option_map Whole (cond b (Some v) None)) fits

pub date_back : (t : ℤ) → IsInstant t → reading_of Date (string (instant_text t)) ≡ Some (Whole t)
date_back t is = ap (option_map Whole) (print_reads t is)

pub reads_back : (kind : FieldType) (v : Scalar) → IsValueOf kind v → reading_of kind (scalar_data kind v) ≡ Some v
reads_back Date (Whole v) is = date_back v is
reads_back Date (Flag b) is = absurd is
reads_back Date (Word t) is = absurd is
reads_back Keyword (Whole v) is = absurd is
reads_back Keyword (Flag b) is = absurd is
reads_back Keyword (Word t) is = ap (option_map Word) (own_word t is)
reads_back Long (Whole v) is = whole_back Long v is (within (negsuc 9223372036854775807) (pos 9223372036854775807) v (omega (arith, ints, is)) (omega (arith, ints, is)))
reads_back Long (Flag b) is = absurd is
reads_back Long (Word t) is = absurd is
reads_back Integer (Whole v) is = whole_back Integer v (omega (arith, ints, is)) (within (negsuc 2147483647) (pos 2147483647) v (omega (arith, ints, is)) (omega (arith, ints, is)))
reads_back Integer (Flag b) is = absurd is
reads_back Integer (Word t) is = absurd is
reads_back Short (Whole v) is = whole_back Short v (omega (arith, ints, is)) (within (negsuc 32767) (pos 32767) v (omega (arith, ints, is)) (omega (arith, ints, is)))
reads_back Short (Flag b) is = absurd is
reads_back Short (Word t) is = absurd is
reads_back Byte (Whole v) is = whole_back Byte v (omega (arith, ints, is)) (within (negsuc 127) (pos 127) v (omega (arith, ints, is)) (omega (arith, ints, is)))
reads_back Byte (Flag b) is = absurd is
reads_back Byte (Word t) is = absurd is
reads_back Boolean (Whole v) is = absurd is
reads_back Boolean (Flag b) is = refl
reads_back Boolean (Word t) is = absurd is
reads_back Aggregate v is = absurd is

pub parts_back : (p : Parts) → IsAggregate p → aggregate_of (parts_data p) ≡ Some p
parts_back p is =
    let min = part_back p.min is.least in
    let max = part_back p.max is.greatest in
    let sum = part_back p.sum is.sum_fits in
    let count = part_back p.count is.count_fits in
    rw (min, max, sum, count, le_true (pos 1) p.count is.counted) refl
