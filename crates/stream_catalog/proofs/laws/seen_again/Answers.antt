use Rattle.stream_catalog.proofs.CatalogLemmas.{seen_again}
use Rattle.stream_catalog.proofs.laws.seen_again.Goals as goal

pub returns : goal.returns
returns c = seen_again
