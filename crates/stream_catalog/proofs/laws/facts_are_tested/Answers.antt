use Rattle.stream_catalog.proofs.TestLemmas.{facts_are_tested, names_are_tested}
use Rattle.stream_catalog.proofs.laws.facts_are_tested.Goals as goal

pub returns-clause-facts : goal.returns-clause-facts
returns-clause-facts c = facts_are_tested

pub returns-clause-names : goal.returns-clause-names
returns-clause-names c = names_are_tested
