-- A backing index's name tells its stream, its day and its generation.
use Rattle.std.proofs.Common.{◌≡◌, ℕ, ◌+◌, ◌/◌, ◌%◌, ◌≤◌, List, [], ◌∷◌, ◌++◌, length, Some, refl, sym, ap, ap₂, ◌∙◌, arith, ℤ, pos, negsuc, unsigned_abs, length-append}
use Rattle.std.specs.Prelude.{codes}
use Rattle.std.proofs.lemmas.Int.{ints}
use Rattle.std.proofs.lemmas.List.{append_cancel_left}
use Rattle.time_text.specs.Day.{year_of, month_of, day_of_month}
use Rattle.time_text.specs.Instant.{IsInstant}
use Rattle.time_text.specs.Printed.{day_text, two_digits, four_digits}
use Rattle.time_text.specs.DayLaws.{civil_of_day}
use Rattle.index_names.specs.Backing.{six_digits, behind_stream, backing_name, IsBackingOf}

-- two joined lists with rests of one length have the same fronts and the same rests
pub same_parts : (xs ys us vs : List ℕ) → length us ≡ length vs → xs ++ us ≡ ys ++ vs → (xs ≡ ys) × (us ≡ vs)
same_parts [] [] us vs long same = (refl, same)
same_parts [] (y ∷ ys) us vs long same = absurd (omega (arith, ap length same, length-append ys vs))
same_parts (x ∷ xs) [] us vs long same = absurd (omega (arith, ap length same, length-append xs us))
same_parts (x ∷ xs) (y ∷ ys) us vs long same =
    let heads : x ≡ y = cc in
    let rests : xs ++ us ≡ ys ++ vs = cc in
    let parts = same_parts xs ys us vs long rests in (ap₂ (λ z zs. z ∷ zs) heads parts.0, parts.1)

-- the day of an instant, counted from the first of 1970
abbrev pub day_of : ℤ → ℕ
day_of t = unsigned_abs t / 86_400_000

pub day_small : (t : ℤ) → IsInstant t → day_of t ≤ 2_932_896
day_small (pos n) is = omega (arith, ints, is)
day_small (negsuc n) is = omega (arith, ints, is)

pub ten_long : (t : ℤ) → length (day_text t) ≡ 10
unfolding day_text
ten_long t = refl

-- a number of four digits, or of two, is told by them
four_told : (m n : ℕ) → four_digits m ≡ four_digits n → m ≡ n
four_told m n same =
    let a : 48 + m / 100 / 10 ≡ 48 + n / 100 / 10 = cc in
    let b : 48 + m / 100 % 10 ≡ 48 + n / 100 % 10 = cc in
    let c : 48 + m % 100 / 10 ≡ 48 + n % 100 / 10 = cc in
    let d : 48 + m % 100 % 10 ≡ 48 + n % 100 % 10 = cc in
    omega (arith, a, b, c, d)

two_told : (m n : ℕ) → two_digits m ≡ two_digits n → m ≡ n
two_told m n same =
    let a : 48 + m / 10 ≡ 48 + n / 10 = cc in
    let b : 48 + m % 10 ≡ 48 + n % 10 = cc in
    omega (arith, a, b)

same_some : (m n : ℕ) → Some (pos m) ≡ Some (pos n) → m ≡ n
same_some m n same = let both : pos m ≡ pos n = cc in cc

date_told : (y m d v n e : ℕ) → four_digits y ++ (46 ∷ []) ++ two_digits m ++ (46 ∷ []) ++ two_digits d ≡ four_digits v ++ (46 ∷ []) ++ two_digits n ++ (46 ∷ []) ++ two_digits e → (y ≡ v) × (m ≡ n) × (d ≡ e)
date_told y m d v n e same =
    let years = same_parts (four_digits y) (four_digits v) _ _ refl same in
    let rest : two_digits m ++ (46 ∷ []) ++ two_digits d ≡ two_digits n ++ (46 ∷ []) ++ two_digits e = append_cancel_left (46 ∷ []) _ _ years.1 in
    let months = same_parts (two_digits m) (two_digits n) _ _ refl rest in
    (four_told y v years.0, two_told m n months.0, two_told d e (append_cancel_left (46 ∷ []) _ _ months.1))

-- texts of days are those of one day
pub same_day : (s t : ℤ) → IsInstant s → IsInstant t → day_text s ≡ day_text t → day_of s ≡ day_of t
unfolding day_text
same_day s t is it same =
    let a = civil_of_day (day_of s) (day_small s is) in
    let b = civil_of_day (day_of t) (day_small t it) in
    let parts = date_told (year_of (day_of s)) (month_of (day_of s)) (day_of_month (day_of s)) (year_of (day_of t)) (month_of (day_of t)) (day_of_month (day_of t)) same in
    same_number (sym a.number ∙ rw (parts.0, parts.1, parts.2) b.number)
  where
    same_number : {m n : ℕ} → pos m ≡ pos n → m ≡ n
    same_number same = cc

six_told : (m n : ℕ) → six_digits m ≡ six_digits n → m ≡ n
six_told m n same =
    let a : 48 + m / 10_000 / 10 ≡ 48 + n / 10_000 / 10 = cc in
    let b : 48 + m / 10_000 % 10 ≡ 48 + n / 10_000 % 10 = cc in
    let c : 48 + m / 100 % 100 / 10 ≡ 48 + n / 100 % 100 / 10 = cc in
    let d : 48 + m / 100 % 100 % 10 ≡ 48 + n / 100 % 100 % 10 = cc in
    let e : 48 + m % 100 / 10 ≡ 48 + n % 100 / 10 = cc in
    let f : 48 + m % 100 % 10 ≡ 48 + n % 100 % 10 = cc in
    omega (arith, a, b, c, d, e, f)

pub behind_long : (t : ℤ) (n : ℕ) → length (behind_stream t n) ≡ 18
unfolding day_text
behind_long t n = refl

-- one name is that of one stream, of one day and of one generation
abbrev pub BackingNamesTell : Type 0
BackingNamesTell = (name s u : List ℕ) (t v : ℤ) (m n : ℕ) → IsBackingOf name s t m → IsBackingOf name u v n → (s ≡ u) × (day_of t ≡ day_of v) × (m ≡ n)

pub one_backing_name : BackingNamesTell
unfolding backing_name day_text
one_backing_name name s u t v m n first second =
    let all : codes ".ds-" ++ (s ++ behind_stream t m) ≡ codes ".ds-" ++ (u ++ behind_stream v n) = sym first.printed ∙ second.printed in
    let parts = same_parts s u (behind_stream t m) (behind_stream v n) (behind_long t m ∙ sym (behind_long v n)) (append_cancel_left (codes ".ds-") _ _ all) in
    let tail : day_text t ++ (codes "-" ++ six_digits m) ≡ day_text v ++ (codes "-" ++ six_digits n) = append_cancel_left (codes "-") _ _ parts.1 in
    let days = same_parts (day_text t) (day_text v) _ _ refl tail in
    (parts.0, same_day t v first.at_instant second.at_instant days.0, six_told m n (append_cancel_left (codes "-") _ _ days.1))
