-- The template that a body is.
use Rattle.std.specs.Prelude.{ℕ, ◌≡◌, ℤ, pos, true, false, List, [], Option, Some, option_and_then, unwrap_or}
use Rattle.serde_json.specs.Data.{Data}
use Rattle.row_cells.specs.declared.schemas.Field.{Field}
use Rattle.row_cells.specs.declared.schemas.Schema.{Schema}
use Rattle.ts_mapping.specs.Faults.{entries_of, leaves_of, refusal_of, shards_in, strict_of}
use Rattle.ts_mapping.specs.Fields.{fields_of, routing_from}
use Rattle.ts_mapping.specs.Limits.{usual_look_ahead, usual_look_back}
use Rattle.ts_mapping.specs.Settings.{Setting, look_of, settings_of, value_of}
use Rattle.ts_mapping.specs.Shapes.{patterns_of, priority_of}
use Rattle.ts_mapping.specs.declared.settings.Key.{Key}
use Rattle.ts_mapping.specs.declared.settings.Key.TheVariants.{LookAhead, LookBack}
use Rattle.ts_mapping.specs.declared.templates.Template.{Template}
use Rattle.ts_mapping.specs.declared.templates.MapError.{MapError}
use Rattle.ts_mapping.specs.declared.templates.MapError.TheVariants.{Refused, NoMemory}

-- the time that a setting gives to look back or ahead, or the usual one
abbrev pub look_at : Key → ℤ → List Setting → ℤ
look_at key usual settings = unwrap_or (option_and_then look_of (value_of key settings)) usual

-- the schema of some fields, with the dimensions that route: it is raw and rises
abbrev pub schema_with : List Field → Option (List (List ℕ)) → Schema
schema_with fields entries = record { fields = fields; routing = routing_from entries 0 fields; folded = false; rises = true }

-- the schema of a body, whose fields ascend by path
unfoldable pub schema_of : Data → Schema
schema_of body = schema_with (fields_of (leaves_of body)) (entries_of body)

-- The template of a body that no look refuses. It looks two hours back and half an hour ahead where nothing is said.
unfoldable pub template_of : List ℕ → Data → Template
template_of name body = record {
  name = name;
  patterns = unwrap_or (patterns_of body) [];
  priority = unwrap_or (priority_of body) 0;
  strict = unwrap_or (strict_of body) true;
  shards = unwrap_or (shards_in body) 1;
  look_back = look_at LookBack (pos usual_look_back) (settings_of body);
  look_ahead = look_at LookAhead (pos usual_look_ahead) (settings_of body);
  schema = schema_of body;
}

-- what a refused body is refused for; there may be no memory at any time
abbrev pub IsRefusal : Data → MapError → Type 0
IsRefusal body (Refused kind path) = refusal_of body ≡ Some (record { kind = kind; path = path })
IsRefusal body NoMemory = Unit {0}
