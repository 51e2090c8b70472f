-- What a leaf is read as is a value of its field's type.
use Rattle.std.proofs.Common.{◌≡◌, ◌≤◌, ◌≤ℤ◌, ◌^◌, ◌<◌, ℕ, ℤ, pos, negsuc, List, length, int_le, Bool, true, false, cond, ◌&&◌, nat_le, Option, Some, None, option_map, option_and_then, refl, sym, ap, ap₂, subst, ◌∙◌, arith, FitsSigned}
use Rattle.std.specs.Prelude.{codes}
use lib.Utf8.{encode}
use Rattle.std.specs.Fmt.{decimal, signed_decimal}
use Rattle.std.specs.Int.{w8, w16, w32, w64}
use Rattle.std.specs.Str.{IsUtf8, is_utf8}
use Rattle.std.proofs.lemmas.Bool.{le-leb, leb-true}
use Rattle.std.proofs.lemmas.Fmt.{IsAscii-decimal, IsAscii-signed, length-decimal-le, length_signed_le}
use Rattle.std.proofs.lemmas.Int.{ints}
use Rattle.std.proofs.lemmas.Str.{IsUtf8-from_ascii, IsUtf8-from_is_utf8, is_utf8-from_IsUtf8}
use Rattle.serde_json.specs.Data.{Data, null, boolean, number, string, array, object}
use Rattle.serde_json.specs.Find.{as_i64, as_integer, as_number, get}
use Rattle.fold_law.specs.declared.measures.Parts.{Parts}
use Rattle.json_walk.specs.Names.{has_names}
use Rattle.row_cells.specs.declared.scalars.Scalar.{Scalar}
use Rattle.row_cells.specs.declared.scalars.Scalar.TheVariants.{Whole, Flag, Word}
use Rattle.row_cells.specs.declared.schemas.FieldType.{FieldType}
use Rattle.row_cells.specs.declared.schemas.FieldType.TheVariants.{Date, Keyword, Long, Integer, Short, Byte, Boolean, Aggregate}
use Rattle.row_cells.specs.Fitting.{IsAggregate, IsValueOf}
use Rattle.row_cells.specs.Limits.{longest_word}
use Rattle.edge_face.specs.Limits.{last_instant}
use Rattle.time_text.specs.Instant.{IsInstant, in_range, instant_of, written_of}
use Rattle.time_text.specs.Shape.{◌>>=◌}
use Rattle.time_text.specs.ShapeLaws.{first_true, second_true}
use Rattle.ts_mapping.specs.Laws.{PartsOfLeavesFit, ReadingsFit}
use Rattle.ts_mapping.specs.Readings.{counted_parts, date_of, flag_of, flag_text, has_64_bits, in_type, is_number_of, keyword_of, number_of, number_word, parts_names, text_word, whole_at, whole_of}

-- ---- tests of whole numbers

pub le_true : (a b : ℤ) → a ≤ℤ b → int_le a b ≡ true
le_true a b le = go (int_le a b) refl
  where
    go : (v : Bool) → int_le a b ≡ v → v ≡ true
    go true is = refl
    go false is = absurd (omega (arith, ints, le, is))

pub true_le : (a b : ℤ) → int_le a b ≡ true → a ≤ℤ b
true_le a b is = omega (arith, ints, is)

pub within : (lo hi v : ℤ) → lo ≤ℤ v → v ≤ℤ hi → (int_le lo v && int_le v hi) ≡ true
within lo hi v above below = ap₂ (λ x y. x && y) (le_true lo v above) (le_true v hi below)

-- a number of 64 bits is in the type of those, and one of a type fits it
pub in_long : (v : ℤ) → FitsSigned w64 v → in_type Long v ≡ Some v
in_long v is = ap (λ b. cond b (Some v) None) (within (negsuc 9223372036854775807) (pos 9223372036854775807) v (omega (arith, ints, is)) (omega (arith, ints, is)))

record IsWithin (lo hi v : ℤ) : Type 0 where
  above : lo ≤ℤ v
  below : v ≤ℤ hi

both_within : (lo hi v : ℤ) → (int_le lo v && int_le v hi) ≡ true → IsWithin lo hi v
both_within lo hi v is = record { above = true_le lo v (first_true (int_le lo v) (int_le v hi) is); below = true_le v hi (second_true (int_le lo v) (int_le v hi) is) }

fits_64 : (v : ℤ) → IsWithin (negsuc 9223372036854775807) (pos 9223372036854775807) v → FitsSigned w64 v
fits_64 (pos n) is = let small : n < 2 ^ 63 = omega (arith, ints, is.above, is.below) in record { sfits = small }
fits_64 (negsuc n) is = let small : n < 2 ^ 63 = omega (arith, ints, is.above, is.below) in record { sfits = small }

fits_32 : (v : ℤ) → IsWithin (negsuc 2147483647) (pos 2147483647) v → FitsSigned w32 v
fits_32 (pos n) is = let small : n < 2 ^ 31 = omega (arith, ints, is.above, is.below) in record { sfits = small }
fits_32 (negsuc n) is = let small : n < 2 ^ 31 = omega (arith, ints, is.above, is.below) in record { sfits = small }

fits_16 : (v : ℤ) → IsWithin (negsuc 32767) (pos 32767) v → FitsSigned w16 v
fits_16 (pos n) is = let small : n < 2 ^ 15 = omega (arith, ints, is.above, is.below) in record { sfits = small }
fits_16 (negsuc n) is = let small : n < 2 ^ 15 = omega (arith, ints, is.above, is.below) in record { sfits = small }

fits_8 : (v : ℤ) → IsWithin (negsuc 127) (pos 127) v → FitsSigned w8 v
fits_8 (pos n) is = let small : n < 2 ^ 7 = omega (arith, ints, is.above, is.below) in record { sfits = small }
fits_8 (negsuc n) is = let small : n < 2 ^ 7 = omega (arith, ints, is.above, is.below) in record { sfits = small }

number_is : (kind : FieldType) (v : ℤ) → is_number_of kind v ≡ true → IsValueOf kind (Whole v)
number_is Long v is = fits_64 v (both_within _ _ v is)
number_is Integer v is = fits_32 v (both_within _ _ v is)
number_is Short v is = fits_16 v (both_within _ _ v is)
number_is Byte v is = fits_8 v (both_within _ _ v is)
number_is Date v is = cc
number_is Keyword v is = cc
number_is Boolean v is = cc
number_is Aggregate v is = cc

-- ---- what is some where a test holds

-- a value that a test lets through
record IsLet (A : Type 0) (b : Bool) (x y : A) : Type 0 where
  test : b ≡ true
  same : x ≡ y

let_through : {A : Type 0} (b : Bool) (x y : A) → cond b (Some x) None ≡ Some y → IsLet A b x y
let_through true x y is = record { test = refl; same = cc }
let_through false x y is = cc

-- what a step makes of something
record IsStep (A B : Type 0) (f : A → Option B) (o : Option A) (y : B) : Type 0 where
  from : A
  was : o ≡ Some from
  gives : f from ≡ Some y

step_of : {A B : Type 0} (f : A → Option B) (o : Option A) (y : B) → option_and_then f o ≡ Some y → IsStep A B f o y
step_of f None y is = cc
step_of f (Some x) y is = record { from = x; was = refl; gives = is }

bound_of : {A B : Type 0} (f : A → Option B) (o : Option A) (y : B) → (o >>= f) ≡ Some y → IsStep A B f o y
bound_of f None y is = cc
bound_of f (Some x) y is = record { from = x; was = refl; gives = is }

record IsMade (A B : Type 0) (f : A → B) (o : Option A) (y : B) : Type 0 where
  from : A
  was : o ≡ Some from
  made : f from ≡ y

made_of : {A B : Type 0} (f : A → B) (o : Option A) (y : B) → option_map f o ≡ Some y → IsMade A B f o y
made_of f None y is = cc
made_of f (Some x) y is = record { from = x; was = refl; made = cc }

-- ---- numbers and dates

number_fits : (kind : FieldType) (leaf : Data) (v : Scalar) → option_map Whole (number_of kind leaf) ≡ Some v → IsValueOf kind v
number_fits kind leaf v is =
    let made = made_of Whole (number_of kind leaf) v is in
    let step = step_of (in_type kind) (whole_of leaf) made.from made.was in
    let through = let_through (is_number_of kind step.from) step.from made.from step.gives in
    subst (IsValueOf kind) (ap Whole through.same ∙ made.made) (number_is kind step.from through.test)

ranged : (t u : ℤ) → in_range t ≡ Some u → IsInstant u
ranged t u is =
    let through = let_through (int_le (pos 0) t && int_le t last_instant) t u is in
    subst IsInstant through.same (let known = both_within (pos 0) last_instant t through.test in (known.above, known.below))

instant_fits : (s : List ℕ) (t : ℤ) → instant_of s ≡ Some t → IsInstant t
unfolding instant_of
instant_fits s t is = let step = bound_of in_range (written_of s) t is in ranged step.from t step.gives

pub date_fits : (leaf : Data) (t : ℤ) → date_of leaf ≡ Some t → IsInstant t
date_fits null t is = cc
date_fits (boolean b) t is = cc
date_fits (number n) t is = let step = step_of in_range (as_i64 n) t is in ranged step.from t step.gives
date_fits (string s) t is = instant_fits s t is
date_fits (array ds) t is = cc
date_fits (object ms) t is = cc

-- ---- keywords

-- a text that a keyword may be
abbrev pub IsWord : List ℕ → Type 0
IsWord t = IsUtf8 t × (length t ≤ longest_word)

-- which is its own keyword
pub own_word : (t : List ℕ) → IsWord t → text_word t ≡ Some t
own_word t is = ap₂ (λ a b. cond (a && b) (Some t) None) (is_utf8-from_IsUtf8 t is.0) (le-leb (length t) longest_word is.1)

flag_fits : (b : Bool) → IsWord (flag_text b)
unfolding encode
flag_fits true = ((codes "true", (refl, refl)), omega arith)
flag_fits false = ((codes "false", (refl, refl)), omega arith)

pub word_taken : (s : List ℕ) → IsUtf8 s → length s ≤ longest_word → Some s ≡ text_word s
word_taken s text short = sym (own_word s (text, short))

pub word_refused : (s : List ℕ) → longest_word < length s → None ≡ text_word s
word_refused s long = go (is_utf8 s) (nat_le (length s) longest_word) refl
  where
    go : (a b : Bool) → nat_le (length s) longest_word ≡ b → None ≡ cond (a && b) (Some s) None
    go false b is = refl
    go true false is = refl
    go true true is = let short = leb-true (length s) longest_word is in absurd (omega (arith, short, long))

text_fits : (s t : List ℕ) → text_word s ≡ Some t → IsWord t
text_fits s t is =
    let through = let_through (is_utf8 s && nat_le (length s) longest_word) s t is in
    subst IsWord through.same (IsUtf8-from_is_utf8 s (first_true (is_utf8 s) (nat_le (length s) longest_word) through.test), leb-true (length s) longest_word (second_true (is_utf8 s) (nat_le (length s) longest_word) through.test))

natural_fits : (n : ℕ) → n < 2 ^ 64 → IsWord (decimal n)
natural_fits n small = (IsUtf8-from_ascii (decimal n) (IsAscii-decimal n small), omega (arith, length-decimal-le 20 n (omega arith) (omega arith) small))

decimal_fits : (v : ℤ) → has_64_bits v ≡ true → IsWord (signed_decimal v)
decimal_fits (pos n) is =
    let known = both_within (negsuc 9223372036854775807) (pos 18446744073709551615) (pos n) is in
    natural_fits n (omega (arith, ints, known.below))
decimal_fits (negsuc n) is =
    let known = both_within (negsuc 9223372036854775807) (pos 18446744073709551615) (negsuc n) is in
    let small : n < 2 ^ 63 = omega (arith, ints, known.above) in (
      IsUtf8-from_ascii (signed_decimal (negsuc n)) (IsAscii-signed (negsuc n) small),
      omega (arith, length_signed_le 19 (negsuc n) (omega (arith, small)) small),
    )

-- numbers of 64 bits have keywords
pub natural_told : (n : ℕ) → n < 2 ^ 64 → Some (decimal n) ≡ number_word (pos n)
natural_told n small =
    sym (ap (λ b. cond b (Some (decimal n)) None) (within (negsuc 9223372036854775807) (pos 18446744073709551615) (pos n) (omega (arith, ints)) (omega (arith, ints, small))))

pub signed_told : (v : ℤ) → FitsSigned w64 v → Some (signed_decimal v) ≡ number_word v
signed_told v is =
    sym (ap (λ b. cond b (Some (signed_decimal v)) None) (within (negsuc 9223372036854775807) (pos 18446744073709551615) v (omega (arith, ints, is)) (omega (arith, ints, is))))

number_word_fits : (v : ℤ) (t : List ℕ) → number_word v ≡ Some t → IsWord t
number_word_fits v t is = let through = let_through (has_64_bits v) (signed_decimal v) t is in subst IsWord through.same (decimal_fits v through.test)

pub keyword_fits : (leaf : Data) (t : List ℕ) → keyword_of leaf ≡ Some t → IsWord t
keyword_fits null t is = cc
keyword_fits (boolean b) t is = let same : flag_text b ≡ t = cc in subst IsWord same (flag_fits b)
keyword_fits (number n) t is = let step = step_of number_word (as_integer n) t is in number_word_fits step.from t step.gives
keyword_fits (string s) t is = text_fits s t is
keyword_fits (array ds) t is = cc
keyword_fits (object ms) t is = cc

-- ---- readings

pub reading_fits : ReadingsFit
reading_fits Date leaf v is = let made = made_of Whole (date_of leaf) v is in subst (IsValueOf Date) made.made (date_fits leaf made.from made.was)
reading_fits Keyword leaf v is = let made = made_of Word (keyword_of leaf) v is in subst (IsValueOf Keyword) made.made (keyword_fits leaf made.from made.was)
reading_fits Long leaf v is = number_fits Long leaf v is
reading_fits Integer leaf v is = number_fits Integer leaf v is
reading_fits Short leaf v is = number_fits Short leaf v is
reading_fits Byte leaf v is = number_fits Byte leaf v is
reading_fits Boolean leaf v is = let made = made_of Flag (flag_of leaf) v is in subst (IsValueOf Boolean) made.made tt
reading_fits Aggregate leaf v is = cc

-- ---- aggregates

whole_fits : (name : List ℕ) (leaf : Data) (v : ℤ) → whole_at name leaf ≡ Some v → FitsSigned w64 v
whole_fits name leaf v is =
    let step = step_of (in_type Long) (option_and_then as_i64 (option_and_then as_number (get name leaf))) v is in
    let through = let_through (is_number_of Long step.from) step.from v step.gives in
    subst (FitsSigned w64) through.same (fits_64 step.from (both_within _ _ step.from through.test))

counted_fits : (min max sum count : ℤ) (p : Parts) → FitsSigned w64 min → FitsSigned w64 max → FitsSigned w64 sum → FitsSigned w64 count → counted_parts min max sum count ≡ Some p → IsAggregate p
counted_fits min max sum count p a b c d is =
    let through = let_through (int_le (pos 1) count) (record { min = min; max = max; sum = sum; count = count }) p is in
    subst IsAggregate through.same (record { least = a; greatest = b; sum_fits = c; counted = true_le (pos 1) count through.test; count_fits = d })

pub parts_fit : PartsOfLeavesFit
parts_fit leaf p is = go (has_names parts_names leaf) is
  where
    named : (whole_at (codes "min") leaf >>= λ min. whole_at (codes "max") leaf >>= λ max. whole_at (codes "sum") leaf >>= λ sum. whole_at (codes "value_count") leaf >>= λ count. counted_parts min max sum count) ≡ Some p → IsAggregate p
    named is =
        let one = bound_of _ (whole_at (codes "min") leaf) p is in
        let two = bound_of _ (whole_at (codes "max") leaf) p one.gives in
        let three = bound_of _ (whole_at (codes "sum") leaf) p two.gives in
        let four = bound_of _ (whole_at (codes "value_count") leaf) p three.gives in
        counted_fits one.from two.from three.from four.from p (whole_fits (codes "min") leaf one.from one.was) (whole_fits (codes "max") leaf two.from two.was)
        (whole_fits (codes "sum") leaf three.from three.was) (whole_fits (codes "value_count") leaf four.from four.was) four.gives

    go : (b : Bool) → cond b (whole_at (codes "min") leaf >>= λ min. whole_at (codes "max") leaf >>= λ max. whole_at (codes "sum") leaf >>= λ sum. whole_at (codes "value_count") leaf >>= λ count. counted_parts min max sum count) None ≡ Some p → IsAggregate p
    go true is = named is
    go false is = cc
