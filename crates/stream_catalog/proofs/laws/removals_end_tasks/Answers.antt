use Rattle.stream_catalog.proofs.AfterLemmas.{removals_end_tasks}
use Rattle.stream_catalog.proofs.laws.removals_end_tasks.Goals as goal

pub returns : goal.returns
returns c = removals_end_tasks
