use Rattle.time_text.specs.IntervalLaws.{reads_back, prints_as_written}
use Rattle.time_text.proofs.laws.interval_reads_back.Goals as goal

pub returns-clause-reads : goal.returns-clause-reads
returns-clause-reads c = reads_back

pub returns-clause-written : goal.returns-clause-written
returns-clause-written c = prints_as_written
