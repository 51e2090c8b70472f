use Rattle.histogram_aggs.specs.MetricLaws.{told_is}
use Rattle.histogram_aggs.specs.TallyLaws.{tallies_joined, tally_single}
use Rattle.histogram_aggs.proofs.laws.tallies_are_metrics.Goals as goal

pub returns-clause-joined : goal.returns-clause-joined
returns-clause-joined c = tallies_joined

pub returns-clause-single : goal.returns-clause-single
returns-clause-single c = tally_single

pub returns-clause-told : goal.returns-clause-told
returns-clause-told c = told_is
