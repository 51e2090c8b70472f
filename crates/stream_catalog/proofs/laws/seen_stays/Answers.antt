use Rattle.stream_catalog.proofs.CatalogLemmas.{keeps}
use Rattle.stream_catalog.proofs.laws.seen_stays.Goals as goal

pub returns : goal.returns
returns c = keeps
