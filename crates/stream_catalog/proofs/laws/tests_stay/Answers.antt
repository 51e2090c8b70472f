use Rattle.stream_catalog.proofs.ChangeLemmas.{facts_of-see}
use Rattle.stream_catalog.proofs.CatalogLemmas.{lookups_stay, row_tests_stay, series_stay}
use Rattle.stream_catalog.proofs.laws.tests_stay.Goals as goal

pub returns-clause-facts : goal.returns-clause-facts
returns-clause-facts c = facts_of-see

pub returns-clause-rows : goal.returns-clause-rows
returns-clause-rows c = row_tests_stay

pub returns-clause-series : goal.returns-clause-series
returns-clause-series c = series_stay

pub returns-clause-lookups : goal.returns-clause-lookups
returns-clause-lookups c = lookups_stay
