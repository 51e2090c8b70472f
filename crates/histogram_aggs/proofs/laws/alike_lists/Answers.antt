use Rattle.histogram_aggs.specs.DownLaws.{alike_down, alike_in_order}
use Rattle.histogram_aggs.specs.JoinLaws.{alike_append, alike_wider}
use Rattle.histogram_aggs.specs.PickLaws.{alike-pick}
use Rattle.histogram_aggs.specs.WidenLaws.{alike_widen}
use Rattle.histogram_aggs.proofs.laws.alike_lists.Goals as goal

pub returns-clause-down : goal.returns-clause-down
returns-clause-down c = alike_down

pub returns-clause-in_order : goal.returns-clause-in_order
returns-clause-in_order c = alike_in_order

pub returns-clause-chosen : goal.returns-clause-chosen
returns-clause-chosen c = alike-pick

pub returns-clause-joined : goal.returns-clause-joined
returns-clause-joined c = alike_append

pub returns-clause-wider : goal.returns-clause-wider
returns-clause-wider c = alike_wider

pub returns-clause-widened : goal.returns-clause-widened
returns-clause-widened c = alike_widen
