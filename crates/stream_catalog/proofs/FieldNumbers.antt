-- Types and roles of one number are the same.
use Rattle.std.specs.Prelude.{◌≡◌, ℕ, ◌==◌, if◌then◌else◌}
use Rattle.std.proofs.Common.{refl, ap, ◌∙◌, sym}
use Rattle.row_cells.specs.declared.schemas.FieldType.{FieldType}
use Rattle.row_cells.specs.declared.schemas.FieldType.TheVariants.{Date, Keyword, Long, Integer, Short, Byte, Boolean, Aggregate}
use Rattle.row_cells.specs.declared.schemas.Role.{Role}
use Rattle.row_cells.specs.declared.schemas.Role.TheVariants.{Time, Dimension, Gauge, Counter, Label}
use Rattle.ts_mapping.specs.Agreeing.{kind_number, role_number}

abbrev kind_of : ℕ → FieldType
kind_of n =
    if n == 0 then Date
    else (if n == 1 then Keyword
    else (if n == 2 then Long
    else (if n == 3 then Integer
    else (if n == 4 then Short
    else (if n == 5 then Byte
    else (if n == 6 then Boolean
    else Aggregate))))))

kind_back : (k : FieldType) → kind_of (kind_number k) ≡ k
kind_back Date = refl
kind_back Keyword = refl
kind_back Long = refl
kind_back Integer = refl
kind_back Short = refl
kind_back Byte = refl
kind_back Boolean = refl
kind_back Aggregate = refl

pub kind_by_number : (a b : FieldType) → kind_number a ≡ kind_number b → a ≡ b
kind_by_number a b same = sym (kind_back a) ∙ (ap kind_of same ∙ kind_back b)

abbrev role_of : ℕ → Role
role_of n =
    if n == 0 then Time
    else (if n == 1 then Dimension
    else (if n == 2 then Gauge
    else (if n == 3 then Counter
    else Label)))

role_back : (r : Role) → role_of (role_number r) ≡ r
role_back Time = refl
role_back Dimension = refl
role_back Gauge = refl
role_back Counter = refl
role_back Label = refl

pub role_by_number : (a b : Role) → role_number a ≡ role_number b → a ≡ b
role_by_number a b same = sym (role_back a) ∙ (ap role_of same ∙ role_back b)
