-- Values in memory as the trees, settings and properties that they are.
use Rattle.std.specs.Prelude.{ℕ, List, Option, map, option_map}
use denote.Bor.{Bor}
use Rattle.serde_json.specs.Data.{Data}
use Rattle.serde_json.specs.View.{view}
use Rattle.serde_json.specs.declared.value.Value.{Value}
use Rattle.ts_mapping.specs.Settings.{Setting}
use Rattle.ts_mapping.specs.Properties.{Property}
use Rattle.ts_mapping.specs.declared.settings.SettingAt.{SettingAt}
use Rattle.ts_mapping.specs.declared.properties.PropertyAt.{PropertyAt}

-- a value that may be absent
abbrev pub seen : Option (Bor Value) → Option Data
seen value = option_map (λ v. view v.now) value

abbrev pub bytes_of : Option (Bor (List ℕ)) → Option (List ℕ)
bytes_of here = option_map (λ h. h.now) here

abbrev pub setting_of : SettingAt → Setting
setting_of s = record { path = s.path; value = view s.value.now }

abbrev pub settings_seen : List SettingAt → List Setting
settings_seen = map setting_of

abbrev pub property_of : PropertyAt → Property
property_of p = record { path = p.path; value = view p.value.now }

abbrev pub properties_seen : List PropertyAt → List Property
properties_seen = map property_of
