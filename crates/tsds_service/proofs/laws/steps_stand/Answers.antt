use Rattle.tsds_service.proofs.StepLemmas.{steps_stand, units_stand}
use Rattle.tsds_service.proofs.laws.steps_stand.Goals as goal

pub returns-clause-steps : goal.returns-clause-steps
returns-clause-steps c = steps_stand (record {
  facts = c.tests_stay.ensures.facts;
  rows = c.tests_stay.ensures.rows;
  series = c.tests_stay.ensures.series;
  lookups = c.tests_stay.ensures.lookups;
  found = c.indices_are_sound.ensures.found;
  shows = c.indices_are_sound.ensures.shows;
  changes = c.changes_go_through.ensures.changes;
  runs = c.changes_go_through.ensures.runs;
  puts = c.changes_go_through.ensures.puts;
  puts_keep = c.changes_go_through.ensures.shows;
  downsamples = c.changes_go_through.ensures.downsamples;
  units = c.changes_go_through.ensures.units;
})

pub returns-clause-units : goal.returns-clause-units
returns-clause-units c = units_stand (record {
  facts = c.tests_stay.ensures.facts;
  rows = c.tests_stay.ensures.rows;
  series = c.tests_stay.ensures.series;
  lookups = c.tests_stay.ensures.lookups;
  found = c.indices_are_sound.ensures.found;
  shows = c.indices_are_sound.ensures.shows;
  changes = c.changes_go_through.ensures.changes;
  runs = c.changes_go_through.ensures.runs;
  puts = c.changes_go_through.ensures.puts;
  puts_keep = c.changes_go_through.ensures.shows;
  downsamples = c.changes_go_through.ensures.downsamples;
  units = c.changes_go_through.ensures.units;
})
