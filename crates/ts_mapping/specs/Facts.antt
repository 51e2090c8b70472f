-- What is known of templates and mappings in memory.
use Rattle.std.specs.Prelude.{◌≡◌, ◌≤◌, true, false}
use Rattle.ts_mapping.specs.Limits.{most_shards}
use Rattle.ts_mapping.specs.Ranges.{IsInRange}
use Rattle.ts_mapping.specs.Schemas.{IsTemplateSchema}
use Rattle.ts_mapping.specs.declared.templates.Mapping.{Mapping}
use Rattle.ts_mapping.specs.declared.templates.Template.{Template}

-- a template as bodies give it: its members are in their ranges, and its schema is one of a template, raw and rising
pub record IsTemplate (t : Template) : Type 0 where
  pub ranges : IsInRange t
  pub schema : IsTemplateSchema t.schema
  pub raw : t.schema.folded ≡ false
  pub rising : t.schema.rises ≡ true

-- a mapping that some template had, in any form, since folds change its form
pub record IsMapping (m : Mapping) : Type 0 where
  pub shards : (1 ≤ m.shards) × (m.shards ≤ most_shards)
  pub schema : IsTemplateSchema m.schema
