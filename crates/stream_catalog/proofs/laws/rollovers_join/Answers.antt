use Rattle.stream_catalog.proofs.AfterLemmas.{rollovers_join}
use Rattle.stream_catalog.proofs.laws.rollovers_join.Goals as goal

pub returns : goal.returns
returns c = rollovers_join
