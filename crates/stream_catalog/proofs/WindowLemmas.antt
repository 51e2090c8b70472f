-- New windows are windows, and begin where the last one ends.
use Rattle.std.specs.Prelude.{◌≡◌, ℕ, ℤ, pos, negsuc, ◌+ℤ◌, ◌-ℤ◌, ◌<ℤ◌, ◌≤ℤ◌, ◌≤◌, false}
use Rattle.std.specs.Int.{int_max}
use Rattle.std.specs.Ordering.{int_eq}
use Rattle.std.proofs.Common.{ap, sym, subst, arith}
use Rattle.std.proofs.lemmas.Bool.{both_ways}
use Rattle.std.proofs.lemmas.Bool.Decides.{Decides-int_eq}
use Rattle.std.proofs.lemmas.Int.{ints, clamps, by_lt_z}
use Rattle.edge_face.specs.Limits.{last_instant}
use Rattle.time_text.specs.Instant.{IsInstant}
use Rattle.time_text.specs.Moment.{cut}
use Rattle.ts_mapping.specs.Ranges.{IsLook}

cut_is : (t : ℤ) → IsInstant (cut t)
cut_is t = (omega (arith, ints, clamps), omega (arith, ints, clamps))

start_is : (now : ℤ) (ms : ℕ) → IsInstant now → IsInstant (int_max (pos 0) (now -ℤ pos ms))
start_is now ms is = (omega (arith, ints, clamps, is), omega (arith, ints, clamps, is))

opens : (now : ℤ) (back ahead : ℕ) → IsInstant now → 60_000 ≤ back → 60_000 ≤ ahead → int_max (pos 0) (now -ℤ pos back) <ℤ cut (now +ℤ pos ahead)
opens now back ahead is some more = omega (arith, ints, clamps, is, some, more)

-- a first window
pub first_begins : (now look : ℤ) → IsInstant now → IsLook look → IsInstant (int_max (pos 0) (now -ℤ look))
first_begins now look is range = subst (λ l. IsInstant (int_max (pos 0) (now -ℤ l))) (sym range.same) (start_is now range.ms is)

pub first_opens : (now back ahead : ℤ) → IsInstant now → IsLook back → IsLook ahead → int_max (pos 0) (now -ℤ back) <ℤ cut (now +ℤ ahead)
first_opens now back ahead is behind before =
    subst (λ b. int_max (pos 0) (now -ℤ b) <ℤ cut (now +ℤ ahead)) (sym behind.same)
    (subst (λ a. int_max (pos 0) (now -ℤ pos behind.ms) <ℤ cut (now +ℤ a)) (sym before.same) (opens now behind.ms before.ms is behind.least before.least))

pub ends_is : (t : ℤ) → IsInstant (cut t)
ends_is = cut_is

-- ---- the next window

before_last : (end : ℤ) → IsInstant end → int_eq end last_instant ≡ false → end <ℤ last_instant
before_last end is other = by_lt_z end last_instant (λ less. less) (λ above. absurd (both_ways (int_eq end last_instant) other ((Decides-int_eq end last_instant).1 (same end is above))))
  where
    same : (e : ℤ) → IsInstant e → last_instant ≤ℤ e → e ≡ last_instant
    same (pos n) is above = ap pos (omega (arith, ints, is, above))
    same (negsuc n) is above = absurd (omega (arith, ints, is))

goes_behind : (end now : ℤ) (ahead : ℕ) → IsInstant end → IsInstant now → end <ℤ last_instant → 60_000 ≤ ahead → end <ℤ cut (int_max end now +ℤ pos ahead)
goes_behind end now ahead is_end is_now less some = omega (arith, ints, clamps, is_end, is_now, less, some)

pub next_opens : (end now look : ℤ) → IsInstant end → IsInstant now → int_eq end last_instant ≡ false → IsLook look → end <ℤ cut (int_max end now +ℤ look)
next_opens end now look is_end is_now other range =
    subst (λ l. end <ℤ cut (int_max end now +ℤ l)) (sym range.same) (goes_behind end now range.ms is_end is_now (before_last end is_end other) range.least)
