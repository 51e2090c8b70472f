use Rattle.time_text.specs.PrintedLaws.{dates_are_civil}
use Rattle.time_text.proofs.laws.printed_dates_are_civil.Goals as goal

pub returns : goal.returns
returns c = dates_are_civil
