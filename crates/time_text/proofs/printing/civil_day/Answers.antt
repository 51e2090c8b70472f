use Rattle.std.proofs.Common.{arith, refl, ◌≡◌, ◌∙◌, pos, w64, to_z, of_z}
use Rattle.std.specs.Int.{w16}
use Rattle.std.proofs.lemmas.Int.{ints, to_z_pos}
use Rattle.time_text.specs.Day.{year_of}
use Rattle.time_text.specs.DayLaws.{civil_of_day, parts_of_date}
use Rattle.time_text.proofs.printing.civil_day.Goals as goal

pub overflow_cast-result : goal.overflow_cast-result
overflow_cast-result c =
    let day : to_z w64 c.args.day ≡ pos c.args.day = to_z_pos w64 c.args.day (omega arith) in
    let number = (rw c.unwrap-date.ensures at c.from_unix_epoch_day.ensures.value) ∙ day in
    let parts = parts_of_date c.unwrap-date.result c.args.day c.requires number in
    let below = (civil_of_day c.args.day c.requires).to in
    let back : to_z w16 (of_z w16 c.unwrap-date.result.year) ≡ pos (year_of c.args.day) = omega (arith, ints) in
    rw back (tt, omega arith)

pub returns-clause-year : goal.returns-clause-year
returns-clause-year c =
    let day : to_z w64 c.args.day ≡ pos c.args.day = to_z_pos w64 c.args.day (omega arith) in
    let number = (rw c.unwrap-date.ensures at c.from_unix_epoch_day.ensures.value) ∙ day in
    let parts = parts_of_date c.unwrap-date.result c.args.day c.requires number in
    let below = (civil_of_day c.args.day c.requires).to in
    let back : to_z w16 (of_z w16 c.unwrap-date.result.year) ≡ pos (year_of c.args.day) = omega (arith, ints) in
    rw back refl

pub returns-clause-month : goal.returns-clause-month
returns-clause-month c =
    let day : to_z w64 c.args.day ≡ pos c.args.day = to_z_pos w64 c.args.day (omega arith) in
    let number = (rw c.unwrap-date.ensures at c.from_unix_epoch_day.ensures.value) ∙ day in
    c.from.ensures ∙ (parts_of_date c.unwrap-date.result c.args.day c.requires number).1

pub returns-clause-day : goal.returns-clause-day
returns-clause-day c =
    let day : to_z w64 c.args.day ≡ pos c.args.day = to_z_pos w64 c.args.day (omega arith) in
    let number = (rw c.unwrap-date.ensures at c.from_unix_epoch_day.ensures.value) ∙ day in
    c.from-2.ensures ∙ (parts_of_date c.unwrap-date.result c.args.day c.requires number).2
