-- What the members of a template may be.
use Rattle.std.specs.Prelude.{◌≡◌, ◌≤◌, ℕ, ℤ, pos, true, length}
use Rattle.std.specs.List.{list_all}
use Rattle.index_names.specs.Patterns.{is_pattern}
use Rattle.ts_mapping.specs.Limits.{greatest_priority, longest_look, most_patterns, most_shards, shortest_look}
use Rattle.ts_mapping.specs.declared.templates.Mapping.{Mapping}
use Rattle.ts_mapping.specs.declared.templates.Template.{Template}

-- a time to look back or ahead: one minute to seven days, in milliseconds
pub record IsLook (look : ℤ) : Type 0 where
  pub ms : ℕ
  pub same : look ≡ pos ms
  pub least : shortest_look ≤ ms
  pub most : ms ≤ longest_look

-- 1 to 16 patterns, a priority below 2^31, 1 to 64 shards, and times to look
pub record IsInRange (t : Template) : Type 0 where
  pub patterns : list_all is_pattern t.patterns ≡ true
  pub some : 1 ≤ length t.patterns
  pub few : length t.patterns ≤ most_patterns
  pub priority : t.priority ≤ greatest_priority
  pub shards : (1 ≤ t.shards) × (t.shards ≤ most_shards)
  pub look_back : IsLook t.look_back
  pub look_ahead : IsLook t.look_ahead

-- what an index made with a template keeps of it
abbrev pub mapping_of : Template → Mapping
mapping_of t = record { strict = t.strict; shards = t.shards; schema = t.schema }
