use Rattle.stream_catalog.proofs.AfterLemmas.{units_go_on, units_end}
use Rattle.stream_catalog.proofs.FinishLemmas.{units_count, units_finish}
use Rattle.stream_catalog.proofs.laws.units_go_on.Goals as goal

pub returns-clause-more : goal.returns-clause-more
returns-clause-more c = units_go_on

pub returns-clause-last : goal.returns-clause-last
returns-clause-last c = units_end

pub returns-clause-counts : goal.returns-clause-counts
returns-clause-counts c = units_count

pub returns-clause-finishes : goal.returns-clause-finishes
returns-clause-finishes c = units_finish
