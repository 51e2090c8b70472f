use Rattle.stream_catalog.proofs.ShownLemmas.{shown_rows, seen_is_made}
use Rattle.stream_catalog.proofs.row_laws.shown_rows.Goals as goal

pub returns-clause-rows : goal.returns-clause-rows
returns-clause-rows c = shown_rows

pub returns-clause-made : goal.returns-clause-made
returns-clause-made c = seen_is_made
