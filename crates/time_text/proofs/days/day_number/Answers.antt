use Rattle.std.proofs.Common.{arith, refl, ◌≡◌, ◌∙◌, pos, Some, ap, w8, w64, to_z, of_z}
use Rattle.std.specs.Int.{w16}
use Rattle.std.proofs.lemmas.Int.{ints, to_z_pos}
use Rattle.jiff_core.specs.Calendar.{days_from_civil}
use Rattle.time_text.specs.DayLaws.{day_number-date}
use Rattle.time_text.proofs.days.day_number.Goals as goal

pub returns-in-Ok-clause-value : goal.returns-in-Ok-clause-value
returns-in-Ok-clause-value c =
    let y : to_z w16 c.args.year ≡ pos c.args.year = to_z_pos w16 c.args.year (omega arith) in
    let m : to_z w8 c.args.month ≡ pos c.args.month = to_z_pos w8 c.args.month (omega arith) in
    let d : to_z w8 c.args.day ≡ pos c.args.day = to_z_pos w8 c.args.day (omega arith) in
    let new = rw (y, m, d) at c.in-Ok.ensures in
    let same : to_z w64 (of_z w64 c.from.result) ≡ days_from_civil c.in-Ok.date.year c.in-Ok.date.month c.in-Ok.date.day = omega (arith, ints) in
    ap Some same ∙ day_number-date c.args.year c.args.month c.args.day c.in-Ok.date (new.succeeds.0 refl) new.value
