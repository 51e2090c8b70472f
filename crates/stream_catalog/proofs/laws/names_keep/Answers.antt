use Rattle.stream_catalog.proofs.NamedKeptLemmas.{names_keep}
use Rattle.stream_catalog.proofs.laws.names_keep.Goals as goal

pub returns : goal.returns
returns c = names_keep
