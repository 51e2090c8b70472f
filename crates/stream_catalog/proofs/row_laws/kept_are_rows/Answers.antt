use Rattle.stream_catalog.proofs.KeptRowLemmas.{kept_are_rows}
use Rattle.stream_catalog.proofs.row_laws.kept_are_rows.Goals as goal

pub returns : goal.returns
returns c = kept_are_rows
