use Rattle.std.proofs.Common.{arith, rules, ◌<◌, length}
use Rattle.std.proofs.lemmas.Str.Parse.{digits_value_short, digits_value-take-le}
use Rattle.time_text.specs.ShapeLaws.{own, digit_in, number_more}
use Rattle.ts_mapping.proofs.Digits.{number_fits}
use Rattle.ts_mapping.proofs.numbers.digits_value.Goals as goal

pub overflow_mul-number : goal.overflow_mul-number
overflow_mul-number c =
    let i = c.loop-digit.digit-index in
    let lt : i < length c.args.digits.now = search rules in
    omega (arith, number_fits c.args.digits.now i c.requires.spelled c.requires.few lt, c.loop-digit.invariant)

pub overflow_sub-digit : goal.overflow_sub-digit
overflow_sub-digit c =
    let i = c.loop-digit.digit-index in
    let lt : i < length c.args.digits.now = search rules in
    (digit_in c.args.digits.now i c.requires.spelled lt).0

pub overflow_add-number : goal.overflow_add-number
overflow_add-number c =
    let i = c.loop-digit.digit-index in
    let lt : i < length c.args.digits.now = search rules in
    omega (arith, number_fits c.args.digits.now i c.requires.spelled c.requires.few lt, c.loop-digit.invariant)

pub loop-digit-preserved : goal.loop-digit-preserved
loop-digit-preserved c =
    let i = c.loop-digit.digit-index in
    let lt : i < length c.args.digits.now = search rules in
    let more = number_more c.args.digits.now i c.requires.spelled lt in
    omega (arith, more, c.loop-digit.invariant)

pub returns-clause-small : goal.returns-clause-small
returns-clause-small c =
    let ds = c.args.digits.now in
    omega (arith, c.loop-digit.invariant, digits_value-take-le 10 ds c.loop-digit.digit-index (omega arith), digits_value_short own ds (length ds) c.requires.spelled (omega arith))
