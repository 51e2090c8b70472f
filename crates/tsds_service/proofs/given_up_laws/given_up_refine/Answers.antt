use Rattle.tsds_service.proofs.GivenUpLemmas.{given_up_refine, given_up_stand}
use Rattle.tsds_service.proofs.given_up_laws.given_up_refine.Goals as goal

pub returns-clause-refine : goal.returns-clause-refine
returns-clause-refine c = given_up_refine (record {
  facts = c.tests_stay.ensures.facts;
  rows = c.tests_stay.ensures.rows;
  series = c.tests_stay.ensures.series;
  lookups = c.tests_stay.ensures.lookups;
  found = c.indices_are_sound.ensures.found;
  shows = c.indices_are_sound.ensures.shows;
  changes = c.changes_go_through.ensures.changes;
  runs = c.changes_go_through.ensures.runs;
  puts = c.changes_go_through.ensures.puts;
  puts_keep = c.changes_go_through.ensures.shows;
  downsamples = c.changes_go_through.ensures.downsamples;
  units = c.changes_go_through.ensures.units;
})

pub returns-clause-stand : goal.returns-clause-stand
returns-clause-stand c = given_up_stand (record {
  facts = c.tests_stay.ensures.facts;
  rows = c.tests_stay.ensures.rows;
  series = c.tests_stay.ensures.series;
  lookups = c.tests_stay.ensures.lookups;
  found = c.indices_are_sound.ensures.found;
  shows = c.indices_are_sound.ensures.shows;
  changes = c.changes_go_through.ensures.changes;
  runs = c.changes_go_through.ensures.runs;
  puts = c.changes_go_through.ensures.puts;
  puts_keep = c.changes_go_through.ensures.shows;
  downsamples = c.changes_go_through.ensures.downsamples;
  units = c.changes_go_through.ensures.units;
})
