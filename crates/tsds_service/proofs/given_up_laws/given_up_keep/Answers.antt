use Rattle.tsds_service.proofs.GivenUpLemmas.{given_up_keep_sound, given_up_keep_seen}
use Rattle.tsds_service.proofs.given_up_laws.given_up_keep.Goals as goal

pub returns-clause-sound : goal.returns-clause-sound
returns-clause-sound c = given_up_keep_sound (record {
  blocks = c.changes_keep_sound.ensures.blocks;
  downsamples = c.changes_keep_sound.ensures.downsamples;
  lives = c.changes_keep_sound.ensures.lives;
  stream_deletions = c.changes_keep_sound.ensures.stream_deletions;
  deletions = c.changes_keep_sound.ensures.deletions;
  creations = c.changes_keep_sound.ensures.creations;
  rollovers = c.changes_keep_sound.ensures.rollovers;
  moves = c.changes_keep_sound.ensures.moves;
  runs = c.changes_keep_sound.ensures.runs;
  templates = c.changes_keep_sound.ensures.templates;
  puts = c.changes_keep_sound.ensures.puts;
  names = c.names_keep.ensures;
  held = c.indices_are_sound.ensures.held;
  bodies = c.bodies_are_templates.ensures;
  cells = c.cells_of_documents_fit.ensures;
})

pub returns-clause-seen : goal.returns-clause-seen
returns-clause-seen c = given_up_keep_seen (record {
  facts = c.tests_stay.ensures.facts;
  rows = c.tests_stay.ensures.rows;
  series = c.tests_stay.ensures.series;
  lookups = c.tests_stay.ensures.lookups;
  found = c.indices_are_sound.ensures.found;
  shows = c.indices_are_sound.ensures.shows;
  changes = c.changes_go_through.ensures.changes;
  runs = c.changes_go_through.ensures.runs;
  puts = c.changes_go_through.ensures.puts;
  puts_keep = c.changes_go_through.ensures.shows;
  downsamples = c.changes_go_through.ensures.downsamples;
  units = c.changes_go_through.ensures.units;
}) (record {
  blocks = c.changes_keep_sound.ensures.blocks;
  downsamples = c.changes_keep_sound.ensures.downsamples;
  lives = c.changes_keep_sound.ensures.lives;
  stream_deletions = c.changes_keep_sound.ensures.stream_deletions;
  deletions = c.changes_keep_sound.ensures.deletions;
  creations = c.changes_keep_sound.ensures.creations;
  rollovers = c.changes_keep_sound.ensures.rollovers;
  moves = c.changes_keep_sound.ensures.moves;
  runs = c.changes_keep_sound.ensures.runs;
  templates = c.changes_keep_sound.ensures.templates;
  puts = c.changes_keep_sound.ensures.puts;
  names = c.names_keep.ensures;
  held = c.indices_are_sound.ensures.held;
  bodies = c.bodies_are_templates.ensures;
  cells = c.cells_of_documents_fit.ensures;
}) c.machines_are_seen.ensures
