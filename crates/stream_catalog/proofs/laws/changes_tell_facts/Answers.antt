use Rattle.stream_catalog.proofs.FactChangeLemmas.{changes_tell_facts}
use Rattle.stream_catalog.proofs.laws.changes_tell_facts.Goals as goal

pub returns : goal.returns
returns c = changes_tell_facts
