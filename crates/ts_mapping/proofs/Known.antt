-- Settings that have the name of one, among all that are sent.
use Rattle.std.proofs.Common.{◌≡◌, ℕ, suc, List, [], ◌∷◌, ◌++◌, Bool, true, false, ◌||◌, ◌&&◌, filter, length, nat_le, Some, None, refl, sym, ap, ◌∙◌}
use Rattle.std.specs.Prelude.{codes, bytes_eq, if◌then◌else◌, is_some}
use Rattle.serde_json.specs.Data.{Data}
use Rattle.std.proofs.lemmas.Bool.{or_right}
use Rattle.ts_mapping.specs.Least.{all_faults, fault_unless, least}
use Rattle.ts_mapping.specs.Properties.{properties_of}
use Rattle.ts_mapping.specs.Settings.{Setting, faults_at_key, has_key, is_formed, is_known, is_named, key_fault, setting_place, settings_faults, settings_of, short_path, times_given, unknown_setting, value_of}
use Rattle.ts_mapping.specs.Shapes.{body_faults, property_faults, shape_faults, template_faults}
use Rattle.ts_mapping.specs.Walks.{known_settings, sent_faults}
use Rattle.ts_mapping.specs.declared.settings.Key.{Key}
use Rattle.ts_mapping.specs.declared.settings.Key.TheVariants.{Mode, RoutingPath, Shards, LookBack, LookAhead, Replicas}
use Rattle.ts_mapping.proofs.Nothing.{first_nothing, holds, no_paths, second_nothing}

first_or : (a b : Bool) → a ≡ true → (a || b) ≡ true
first_or true b is = refl
first_or false b is = cc

-- a path that names this setting names some setting
named_known : (key : Key) (path : List ℕ) → is_named key path ≡ true → is_known path ≡ true
unfolding is_known is_named
named_known Mode path is = first_or (bytes_eq (short_path path) (codes "mode")) _ is
named_known RoutingPath path is = or_right (bytes_eq (short_path path) (codes "mode")) _ (first_or (bytes_eq (short_path path) (codes "routing_path")) _ is)
named_known Shards path is = or_right (bytes_eq (short_path path) (codes "mode")) _ (or_right (bytes_eq (short_path path) (codes "routing_path")) _ (first_or (bytes_eq (short_path path) (codes "number_of_shards")) _ is))
named_known LookBack path is = or_right (bytes_eq (short_path path) (codes "mode")) _ (or_right (bytes_eq (short_path path) (codes "routing_path")) _ (or_right (bytes_eq (short_path path) (codes "number_of_shards")) _ (first_or (bytes_eq (short_path path) (codes "look_back_time")) _ is)))
named_known LookAhead path is = or_right (bytes_eq (short_path path) (codes "mode")) _ (or_right (bytes_eq (short_path path) (codes "routing_path")) _ (or_right (bytes_eq (short_path path) (codes "number_of_shards")) _ (or_right (bytes_eq (short_path path) (codes "look_back_time")) _ (first_or (bytes_eq (short_path path) (codes "look_ahead_time")) _ is))))
named_known Replicas path is = or_right (bytes_eq (short_path path) (codes "mode")) _ (or_right (bytes_eq (short_path path) (codes "routing_path")) _ (or_right (bytes_eq (short_path path) (codes "number_of_shards")) _ (or_right (bytes_eq (short_path path) (codes "look_back_time")) _ (or_right (bytes_eq (short_path path) (codes "look_ahead_time")) _ (first_or (bytes_eq (short_path path) (codes "number_of_replicas")) _ is)))))

unknown_unnamed : (key : Key) (s : Setting) → is_known s.path ≡ false → has_key key s ≡ false
unknown_unnamed key s is = go (has_key key s) refl
  where
    go : (v : Bool) → has_key key s ≡ v → has_key key s ≡ false
    go false e = e
    go true e = let known = named_known key s.path e in let no : true ≡ false = sym known ∙ is in cc

-- ---- what is told of a setting depends on those alone

times_known : (key : Key) (settings : List Setting) → times_given key (known_settings settings) ≡ times_given key settings
times_known key [] = refl
times_known key (s ∷ settings) = go (is_known s.path) refl (times_known key settings)
  where
    rest : List Setting
    rest = known_settings settings

    both : (w : Bool) → length (filter (has_key key) rest) ≡ length (filter (has_key key) settings)
        → length (if w then s ∷ filter (has_key key) rest else filter (has_key key) rest) ≡ length (if w then s ∷ filter (has_key key) settings else filter (has_key key) settings)
    both true later = ap suc later
    both false later = later

    go : (v : Bool) → is_known s.path ≡ v → length (filter (has_key key) rest) ≡ length (filter (has_key key) settings)
        → length (filter (has_key key) (if v then s ∷ rest else rest)) ≡ length (if has_key key s then s ∷ filter (has_key key) settings else filter (has_key key) settings)
    go true is later = both (has_key key s) later
    go false is later = later ∙ ap (λ w. length (if w then s ∷ filter (has_key key) settings else filter (has_key key) settings)) (sym (unknown_unnamed key s is))

value_known : (key : Key) (settings : List Setting) → value_of key (known_settings settings) ≡ value_of key settings
value_known key [] = refl
value_known key (s ∷ settings) = go (is_known s.path) refl (value_known key settings)
  where
    rest : List Setting
    rest = known_settings settings

    go : (v : Bool) → is_known s.path ≡ v → value_of key rest ≡ value_of key settings → value_of key (if v then s ∷ rest else rest) ≡ (if has_key key s then Some s.value else value_of key settings)
    go true is later = ap (λ o. if has_key key s then Some s.value else o) later
    go false is later = later ∙ ap (λ w. if w then Some s.value else value_of key settings) (sym (unknown_unnamed key s is))

faults_known : (key : Key) (once : Bool) (settings : List Setting) → all_faults (key_fault key once) (known_settings settings) ≡ all_faults (key_fault key once) settings
faults_known key once [] = refl
faults_known key once (s ∷ settings) = go (is_known s.path) refl (faults_known key once settings)
  where
    rest : List Setting
    rest = known_settings settings

    go : (v : Bool) → is_known s.path ≡ v → all_faults (key_fault key once) rest ≡ all_faults (key_fault key once) settings
        → all_faults (key_fault key once) (if v then s ∷ rest else rest) ≡ key_fault key once s ++ all_faults (key_fault key once) settings
    go true is later = ap (λ r. key_fault key once s ++ r) later
    go false is later =
        later
        ∙ ap (λ w. (if w then fault_unless (once && is_formed key s.value) (setting_place s) else []) ++ all_faults (key_fault key once) settings) (sym (unknown_unnamed key s is))

key_known : (key : Key) (settings : List Setting) → faults_at_key key (known_settings settings) ≡ faults_at_key key settings
key_known key settings =
    ap (λ n. all_faults (key_fault key (nat_le n 1)) (known_settings settings)) (times_known key settings)
    ∙ faults_known key (nat_le (times_given key settings) 1) settings

-- so the faults of settings are those of the settings that have the name of one, and of the others
pub faults_of_sent : (settings : List Setting) → sent_faults settings (known_settings settings) ≡ settings_faults settings
unfolding settings_faults
faults_of_sent settings =
    rw (key_known Mode settings, key_known RoutingPath settings, key_known Shards settings, key_known LookBack settings, key_known LookAhead settings, key_known Replicas settings, value_known Mode settings) refl

-- ---- where nothing is at fault all settings have the name of one

all_known : (settings : List Setting) → all_faults unknown_setting settings ≡ [] → known_settings settings ≡ settings
all_known [] none = refl
all_known (s ∷ settings) none = go (is_known s.path) (holds (is_known s.path) (setting_place s) (first_nothing (unknown_setting s) (all_faults unknown_setting settings) none)) (all_known settings (second_nothing (unknown_setting s) (all_faults unknown_setting settings) none))
  where
    go : (v : Bool) → v ≡ true → known_settings settings ≡ settings → (if v then s ∷ known_settings settings else known_settings settings) ≡ s ∷ settings
    go true is later = ap (λ r. s ∷ r) later
    go false is later = cc

unknown_nothing : (settings : List Setting) → settings_faults settings ≡ [] → all_faults unknown_setting settings ≡ []
unfolding settings_faults
unknown_nothing settings none =
    let unknown = all_faults unknown_setting settings in
    let mode = faults_at_key Mode settings in
    let routing = faults_at_key RoutingPath settings in
    let shards = faults_at_key Shards settings in
    let back = faults_at_key LookBack settings in
    let ahead = faults_at_key LookAhead settings in
    let replicas = faults_at_key Replicas settings in
    first_nothing unknown mode
    (first_nothing (unknown ++ mode) routing
    (first_nothing (unknown ++ mode ++ routing) shards
    (first_nothing (unknown ++ mode ++ routing ++ shards) back
    (first_nothing (unknown ++ mode ++ routing ++ shards ++ back) ahead
    (first_nothing (unknown ++ mode ++ routing ++ shards ++ back ++ ahead) replicas
    (first_nothing (unknown ++ mode ++ routing ++ shards ++ back ++ ahead ++ replicas) (fault_unless (is_some (value_of Mode settings)) (codes "template.settings.mode")) none))))))

pub sent_all : (body : Data) → least (shape_faults body) ≡ None → known_settings (settings_of body) ≡ settings_of body
unfolding shape_faults
sent_all body none =
    let nowhere = no_paths (shape_faults body) none in
    let outer = first_nothing (body_faults body ++ template_faults body ++ settings_faults (settings_of body)) (all_faults property_faults (properties_of body)) nowhere in
    all_known (settings_of body) (unknown_nothing (settings_of body) (second_nothing (body_faults body ++ template_faults body) (settings_faults (settings_of body)) outer))
