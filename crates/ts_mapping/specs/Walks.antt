-- What walks over the settings and the properties of a body gather; for private clauses.
use Rattle.std.specs.Prelude.{ℕ, List, [], ◌∷◌, ◌++◌, codes, bytes_eq, filter, if◌then◌else◌, map, Option, Some, None, is_some}
use Rattle.serde_json.specs.Data.{Data, null, boolean, number, string, array, object, Members, no_members, member}
use Rattle.serde_json.specs.Find.{get}
use Rattle.json_walk.specs.Path.{below}
use Rattle.ts_mapping.specs.Least.{all_faults, fault_unless}
use Rattle.ts_mapping.specs.Properties.{Property}
use Rattle.ts_mapping.specs.Settings.{Setting, faults_at_key, is_known, unknown_setting, value_of}
use Rattle.ts_mapping.specs.declared.settings.Key.TheVariants.{Mode, RoutingPath, Shards, LookBack, LookAhead, Replicas}

-- the text of a place
abbrev pub text_at : Option (List ℕ) → List ℕ
text_at None = []
text_at (Some path) = path

-- ---- properties that are fields, by the recursion of all properties, without their places

abbrev pub field_here : List ℕ → Data → List Property
field_here path d = if is_some (get (codes "properties") d) then [] else record { path = path; value = d } ∷ []

abbrev mutual
  pub fields_at : List ℕ → Data → List Property
  fields_at path null = field_here path null
  fields_at path (boolean b) = field_here path (boolean b)
  fields_at path (number n) = field_here path (number n)
  fields_at path (string s) = field_here path (string s)
  fields_at path (array ds) = field_here path (array ds)
  fields_at path (object ms) = field_here path (object ms) ++ fields_inside path ms

  pub fields_inside : List ℕ → Members → List Property
  fields_inside path no_members = []
  fields_inside path (member s d ms) =
      (if bytes_eq s (codes "properties") then fields_listed (Some path) d else []) ++ fields_inside path ms

  pub fields_listed : Option (List ℕ) → Data → List Property
  fields_listed here null = []
  fields_listed here (boolean b) = []
  fields_listed here (number n) = []
  fields_listed here (string s) = []
  fields_listed here (array ds) = []
  fields_listed here (object ms) = fields_among here ms

  pub fields_among : Option (List ℕ) → Members → List Property
  fields_among here no_members = []
  fields_among here (member s d ms) = fields_at (below here s) d ++ fields_among here ms

-- ---- settings

-- the settings that have the name of one
abbrev pub known_settings : List Setting → List Setting
known_settings settings = filter (λ s. is_known s.path) settings

abbrev pub setting_paths : List Setting → List (List ℕ)
setting_paths = map (λ s. s.path)

-- the faults of settings, of which those that have the name of one are sent too
abbrev pub sent_faults : List Setting → List Setting → List (List ℕ)
sent_faults all sent =
    all_faults unknown_setting all ++ faults_at_key Mode sent ++ faults_at_key RoutingPath sent ++ faults_at_key Shards sent
    ++ faults_at_key LookBack sent ++ faults_at_key LookAhead sent ++ faults_at_key Replicas sent
    ++ fault_unless (is_some (value_of Mode sent)) (codes "template.settings.mode")
