use Rattle.tsds_service.proofs.SoundLemmas.{steps_keep_sound, steps_keep_seen}
use Rattle.tsds_service.proofs.laws.steps_keep.Goals as goal

pub returns-clause-sound : goal.returns-clause-sound
returns-clause-sound c = steps_keep_sound (record {
  blocks = c.changes_keep_sound.ensures.blocks;
  downsamples = c.changes_keep_sound.ensures.downsamples;
  lives = c.changes_keep_sound.ensures.lives;
  stream_deletions = c.changes_keep_sound.ensures.stream_deletions;
  deletions = c.changes_keep_sound.ensures.deletions;
  creations = c.changes_keep_sound.ensures.creations;
  rollovers = c.changes_keep_sound.ensures.rollovers;
  moves = c.changes_keep_sound.ensures.moves;
  runs = c.changes_keep_sound.ensures.runs;
  templates = c.changes_keep_sound.ensures.templates;
  puts = c.changes_keep_sound.ensures.puts;
  names = c.names_keep.ensures;
  held = c.indices_are_sound.ensures.held;
  bodies = c.bodies_are_templates.ensures;
  cells = c.cells_of_documents_fit.ensures;
})

pub returns-clause-seen : goal.returns-clause-seen
returns-clause-seen c = steps_keep_seen (record {
  blocks = c.changes_keep_sound.ensures.blocks;
  downsamples = c.changes_keep_sound.ensures.downsamples;
  lives = c.changes_keep_sound.ensures.lives;
  stream_deletions = c.changes_keep_sound.ensures.stream_deletions;
  deletions = c.changes_keep_sound.ensures.deletions;
  creations = c.changes_keep_sound.ensures.creations;
  rollovers = c.changes_keep_sound.ensures.rollovers;
  moves = c.changes_keep_sound.ensures.moves;
  runs = c.changes_keep_sound.ensures.runs;
  templates = c.changes_keep_sound.ensures.templates;
  puts = c.changes_keep_sound.ensures.puts;
  names = c.names_keep.ensures;
  held = c.indices_are_sound.ensures.held;
  bodies = c.bodies_are_templates.ensures;
  cells = c.cells_of_documents_fit.ensures;
}) c.machines_are_seen.ensures c.steps_stand.ensures.steps
