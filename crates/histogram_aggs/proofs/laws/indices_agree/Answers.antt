use Rattle.histogram_aggs.specs.WholeLaws.{indices_agree, queried_alike}
use Rattle.histogram_aggs.proofs.laws.indices_agree.Goals as goal

pub returns-clause-queried : goal.returns-clause-queried
returns-clause-queried c = queried_alike

pub returns-clause-agree : goal.returns-clause-agree
returns-clause-agree c = indices_agree
