use Rattle.stream_catalog.proofs.FoundLemmas.{streams_found}
use Rattle.stream_catalog.proofs.found_laws.streams_are_found.Goals as goal

pub returns : goal.returns
returns c = streams_found
