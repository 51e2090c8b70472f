use Rattle.stream_catalog.proofs.ChangeLemmas.{lifecycle_run-seen}
use Rattle.stream_catalog.proofs.CatalogLemmas.{puts_keep_showing, changes_go_through, puts_go_through, downsamples_go_through, units_go_through}
use Rattle.stream_catalog.proofs.laws.changes_go_through.Goals as goal

pub returns-clause-changes : goal.returns-clause-changes
returns-clause-changes c = changes_go_through

pub returns-clause-runs : goal.returns-clause-runs
returns-clause-runs c = lifecycle_run-seen

pub returns-clause-puts : goal.returns-clause-puts
returns-clause-puts c = puts_go_through

pub returns-clause-downsamples : goal.returns-clause-downsamples
returns-clause-downsamples c = downsamples_go_through

pub returns-clause-units : goal.returns-clause-units
returns-clause-units c = units_go_through

pub returns-clause-shows : goal.returns-clause-shows
returns-clause-shows c = puts_keep_showing
