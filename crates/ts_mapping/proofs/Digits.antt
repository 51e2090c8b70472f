-- Numbers of up to 19 digits.
use Rattle.std.proofs.Common.{◌≡◌, ℕ, ◌+◌, ◌-◌, ◌*◌, ◌^◌, ◌<◌, ◌≤◌, true, List, length, take, get_or, arith}
use Rattle.std.specs.Str.{all_ascii_digits}
use Rattle.std.specs.Str.Parse.{digits_value}
use Rattle.std.proofs.lemmas.Str.Parse.{digits_value_short, digits_value-take-le}
use Rattle.time_text.specs.ShapeLaws.{number_more, own}

-- the number so far stays small
pub number_fits : (ds : List ℕ) (i : ℕ) → all_ascii_digits ds ≡ true → length ds ≤ 19 → i < length ds → digits_value 10 (take i ds) * 10 + (get_or ds i 0 - 48) < 10 ^ 19
number_fits ds i h few lt =
    omega (arith, number_more ds i h lt, digits_value-take-le 10 ds (i + 1) (omega arith), digits_value_short own ds 19 h few)
