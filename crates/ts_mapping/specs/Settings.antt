-- The settings of a template.
use Rattle.std.specs.Prelude.{ℕ, ◌*◌, ◌==◌, ℤ, pos, Bool, true, ◌&&◌, not, nat_le, List, [], ◌∷◌, ◌++◌, length, take, drop, slice_index, codes, bytes_eq, if◌then◌else◌, Option, Some, None, option_and_then, is_some, filter}
use Rattle.std.specs.Str.{all_ascii_digits}
use Rattle.std.specs.Str.Parse.{digits_value}
use Rattle.serde_json.specs.Data.{Data, null, boolean, number, string, array, object, Members, no_members, member}
use Rattle.serde_json.specs.Find.{get, as_str, as_u64}
use Rattle.json_walk.specs.Path.{below}
use Rattle.time_text.specs.Interval.{interval_of}
use Rattle.time_text.specs.Unit.{unit_ms}
use Rattle.json_walk.specs.Shapes.{texts_of}
use Rattle.ts_mapping.specs.Least.{fault_unless, all_faults, under}
use Rattle.ts_mapping.specs.Limits.{longest_look, most_shards, shortest_look}
use Rattle.ts_mapping.specs.Paths.{is_among}
use Rattle.ts_mapping.specs.Trees.{is_text, member_of}
use Rattle.ts_mapping.specs.declared.settings.Key.{Key}
use Rattle.ts_mapping.specs.declared.settings.Key.TheVariants.{Mode, RoutingPath, Shards, LookBack, LookAhead, Replicas}

-- a setting as it was sent: its path below `settings`, and its value, which is no object
pub record Setting : Type 0 where
  pub path : List ℕ
  pub value : Data

abbrev pub setting_at : Option (List ℕ) → Data → List Setting
setting_at None d = []
setting_at (Some path) d = record { path = path; value = d } ∷ []

-- Settings flattened: the values below some place that are no objects, by their names joined by dots. An empty object has none.
abbrev mutual
  pub flat : Option (List ℕ) → Data → List Setting
  flat here null = setting_at here null
  flat here (boolean b) = setting_at here (boolean b)
  flat here (number n) = setting_at here (number n)
  flat here (string s) = setting_at here (string s)
  flat here (array ds) = setting_at here (array ds)
  flat here (object ms) = flat_members here ms

  pub flat_members : Option (List ℕ) → Members → List Setting
  flat_members here no_members = []
  flat_members here (member s d ms) = flat (Some (below here s)) d ++ flat_members here ms

abbrev pub settings_in : Option Data → List Setting
settings_in None = []
settings_in (Some d) = flat None d

-- the settings of a body
unfoldable pub settings_of : Data → List Setting
settings_of body = settings_in (member_of (codes "settings") (get (codes "template") body))

-- a path without `index.` before it
abbrev pub short_path : List ℕ → List ℕ
short_path path = if bytes_eq (take 6 path) (codes "index.") then drop 6 path else path

-- how a setting is called
abbrev pub key_name : Key → List ℕ
key_name Mode = codes "mode"
key_name RoutingPath = codes "routing_path"
key_name Shards = codes "number_of_shards"
key_name LookBack = codes "look_back_time"
key_name LookAhead = codes "look_ahead_time"
key_name Replicas = codes "number_of_replicas"

abbrev pub key_names : List (List ℕ)
key_names =
    codes "mode" ∷ codes "routing_path" ∷ codes "number_of_shards" ∷ codes "look_back_time" ∷ codes "look_ahead_time"
    ∷ codes "number_of_replicas" ∷ []

-- a path that names some setting, and one that names this setting
unfoldable pub is_known : List ℕ → Bool
is_known path = is_among (short_path path) key_names

unfoldable pub is_named : Key → List ℕ → Bool
is_named key path = bytes_eq (short_path path) (key_name key)

abbrev pub has_key : Key → Setting → Bool
has_key key setting = is_named key setting.path

-- how often a setting is given
abbrev pub times_given : Key → List Setting → ℕ
times_given key settings = length (filter (has_key key) settings)

-- the value of a setting, the first that is given
abbrev pub value_of : Key → List Setting → Option Data
value_of key [] = None
value_of key (s ∷ settings) = if has_key key s then Some s.value else value_of key settings

-- ---- values

abbrev pub in_look : ℕ → Option ℤ
in_look ms = if nat_le shortest_look ms && nat_le ms longest_look then Some (pos ms) else None

-- a time to look back or ahead: the text of an interval of one minute to seven days
abbrev pub look_of : Data → Option ℤ
look_of d = option_and_then (λ i. in_look (i.0 * unit_ms i.1)) (option_and_then interval_of (as_str d))

abbrev pub in_shards : ℕ → Option ℕ
in_shards n = if nat_le 1 n && nat_le n most_shards then Some n else None

-- one or two digits without a leading zero
abbrev pub shards_text : List ℕ → Option ℕ
shards_text s =
    if all_ascii_digits s && (nat_le 1 (length s) && (nat_le (length s) 2 && not (slice_index s 0 == 48)))
    then in_shards (digits_value 10 s) else None

-- a number of shards: a JSON whole number from 1 to 64, or its digits
abbrev pub shards_of : Data → Option ℕ
shards_of null = None
shards_of (boolean b) = None
shards_of (number n) = option_and_then in_shards (as_u64 n)
shards_of (string s) = shards_text s
shards_of (array ds) = None
shards_of (object ms) = None

-- The value of a setting has its form. A number of shards of another form is told by a later look at the body, and the number
-- of replicas is ignored.
abbrev pub is_formed : Key → Data → Bool
is_formed Mode d = is_text (codes "time_series") d
is_formed RoutingPath d = is_some (texts_of d)
is_formed Shards d = true
is_formed LookBack d = is_some (look_of d)
is_formed LookAhead d = is_some (look_of d)
is_formed Replicas d = true

-- ---- faults

abbrev pub setting_place : Setting → List ℕ
setting_place s = under (codes "template.settings") s.path

-- the place of a setting, if it is this one, and it is given more than once or its value is ill-formed
abbrev pub key_fault : Key → Bool → Setting → List (List ℕ)
key_fault key once s = if has_key key s then fault_unless (once && is_formed key s.value) (setting_place s) else []

abbrev pub faults_at_key : Key → List Setting → List (List ℕ)
faults_at_key key settings = all_faults (key_fault key (nat_le (times_given key settings) 1)) settings

abbrev pub unknown_setting : Setting → List (List ℕ)
unknown_setting s = fault_unless (is_known s.path) (setting_place s)

-- The settings at fault: unknown, given twice or ill-formed. A mode has to be there.
unfoldable pub settings_faults : List Setting → List (List ℕ)
settings_faults settings =
    all_faults unknown_setting settings ++ faults_at_key Mode settings ++ faults_at_key RoutingPath settings
    ++ faults_at_key Shards settings ++ faults_at_key LookBack settings ++ faults_at_key LookAhead settings
    ++ faults_at_key Replicas settings ++ fault_unless (is_some (value_of Mode settings)) (codes "template.settings.mode")
