use Rattle.std.proofs.Common.{refl}
use Rattle.time_text.specs.IntervalLaws.{interval_in-is, interval_in-none}
use Rattle.time_text.proofs.intervals.Interval.read.Goals as goal

pub returns-in-Some-clause-interval : goal.returns-in-Some-clause-interval
returns-in-Some-clause-interval c = interval_in-is c.args.text.now c.in-Some.interval c.in-Some.ensures.some

pub returns-in-Some-clause-none : goal.returns-in-Some-clause-none
returns-in-Some-clause-none c = (
  λ failed. absurd (let no = failed in cc),
  λ none. absurd (let some = interval_in-is c.args.text.now c.in-Some.interval c.in-Some.ensures.some in cc),
)

pub returns-in-None-clause-none : goal.returns-in-None-clause-none
returns-in-None-clause-none c = (λ failed. interval_in-none c.args.text.now c.in-None.ensures.none, λ none. refl)
