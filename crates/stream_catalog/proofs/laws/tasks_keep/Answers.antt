use Rattle.stream_catalog.proofs.CatalogLemmas.{tasks_keep}
use Rattle.stream_catalog.proofs.TaskLemmas.{task_rows_stay}
use Rattle.stream_catalog.proofs.laws.tasks_keep.Goals as goal

pub returns-clause-shown : goal.returns-clause-shown
returns-clause-shown c = tasks_keep

pub returns-clause-stays : goal.returns-clause-stays
returns-clause-stays c = task_rows_stay
