use Rattle.std.proofs.Common.{sym}
use Rattle.time_text.specs.IntervalLaws.{interval_with-is}
use Rattle.time_text.proofs.intervals.Interval.of.Goals as goal

pub returns-in-Some-clause-is : goal.returns-in-Some-clause-is
returns-in-Some-clause-is c = sym (interval_with-is _)
