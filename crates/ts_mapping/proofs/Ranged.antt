-- What a template of a body that no look refuses may be.
use Rattle.std.proofs.Common.{◌≡◌, ◌≤◌, ◌*◌, ℕ, ℤ, pos, List, [], ◌++◌, length, Bool, true, false, ◌&&◌, cond, nat_le, Option, Some, None, refl, sym, subst, arith}
use Rattle.std.specs.Prelude.{◌==◌, codes, is_some, not, option_and_then, slice_index, unwrap_or}
use Rattle.std.specs.Str.{all_ascii_digits}
use Rattle.std.specs.Str.Parse.{digits_value}
use Rattle.std.specs.List.{list_all}
use Rattle.std.proofs.lemmas.Bool.{leb-true}
use Rattle.serde_json.specs.Data.{Data, null, boolean, number, string, array, object}
use Rattle.serde_json.specs.Find.{as_number, as_str, as_u64, get}
use Rattle.time_text.specs.Interval.{interval_of}
use Rattle.time_text.specs.Unit.{unit_ms}
use Rattle.time_text.specs.declared.units.Unit.{Unit as IntervalUnit}
use Rattle.json_walk.specs.Shapes.{is_object, texts_of}
use Rattle.time_text.specs.ShapeLaws.{first_true, second_true}
use Rattle.ts_mapping.specs.Faults.{given_shards, look, refusal_of, shards_in}
use Rattle.index_names.specs.Patterns.{is_pattern}
use Rattle.ts_mapping.specs.Limits.{greatest_priority, longest_look, most_patterns, most_shards, shortest_look, usual_look_ahead, usual_look_back}
use Rattle.ts_mapping.specs.Least.{all_faults, fault_unless}
use Rattle.ts_mapping.specs.Properties.{properties_of}
use Rattle.ts_mapping.specs.Ranges.{IsInRange, IsLook}
use Rattle.ts_mapping.specs.Settings.{Setting, in_look, in_shards, look_of, settings_faults, settings_of, shards_of, value_of}
use Rattle.ts_mapping.specs.Shapes.{body_faults, checked_patterns, choice_faults, given_priority, in_priority, names_faults, patterns_of, priority_of, property_faults, shape_faults, stream_faults, template_faults}
use Rattle.ts_mapping.specs.Templates.{look_at, template_of}
use Rattle.ts_mapping.specs.Trees.{has_to_be}
use Rattle.ts_mapping.specs.declared.kinds.MapKind.TheVariants.{Shape}
use Rattle.ts_mapping.specs.declared.settings.Key.{Key}
use Rattle.ts_mapping.specs.declared.settings.Key.TheVariants.{LookAhead, LookBack, Shards}
use Rattle.ts_mapping.specs.declared.templates.Template.{Template}
use Rattle.ts_mapping.proofs.Nothing.{first_look, first_nothing, holds, look_nothing, second_nothing}

-- ---- patterns

record AreGood (ps : List (List ℕ)) : Type 0 where
  patterns : list_all is_pattern ps ≡ true
  some : 1 ≤ length ps
  few : length ps ≤ most_patterns

checked_good : (ps : List (List ℕ)) → is_some (checked_patterns ps) ≡ true → (checked_patterns ps ≡ Some ps) × AreGood ps
checked_good ps some = go (nat_le 1 (length ps) && (nat_le (length ps) most_patterns && list_all is_pattern ps)) refl some
  where
    go : (v : Bool) → (nat_le 1 (length ps) && (nat_le (length ps) most_patterns && list_all is_pattern ps)) ≡ v → is_some (cond v (Some ps) None) ≡ true → (cond v (Some ps) None ≡ Some ps) × AreGood ps
    go true is some =
        let rest = second_true (nat_le 1 (length ps)) (nat_le (length ps) most_patterns && list_all is_pattern ps) is in (
          refl,
          record {
            patterns = second_true (nat_le (length ps) most_patterns) (list_all is_pattern ps) rest;
            some = leb-true 1 (length ps) (first_true (nat_le 1 (length ps)) (nat_le (length ps) most_patterns && list_all is_pattern ps) is);
            few = leb-true (length ps) most_patterns (first_true (nat_le (length ps) most_patterns) (list_all is_pattern ps) rest);
          },
        )
    go false is some = cc

given_good : (o : Option (List (List ℕ))) → is_some (option_and_then checked_patterns o) ≡ true → AreGood (unwrap_or (option_and_then checked_patterns o) [])
given_good None some = cc
given_good (Some ps) some = let good = checked_good ps some in subst (λ o. AreGood (unwrap_or o [])) (sym good.0) good.1

sent_patterns : (body : Data) → refusal_of body ≡ None → is_some (patterns_of body) ≡ true
unfolding refusal_of shape_faults stream_faults
sent_patterns body none =
    let shape = look_nothing Shape (shape_faults body) (first_look (look Shape (shape_faults body)) _ none) in
    let outer = first_nothing (body_faults body ++ template_faults body ++ settings_faults (settings_of body)) (all_faults property_faults (properties_of body)) shape in
    let members = first_nothing (body_faults body) (template_faults body) (first_nothing (body_faults body ++ template_faults body) (settings_faults (settings_of body)) outer) in
    let stream = second_nothing (names_faults body) (stream_faults body) (first_nothing (names_faults body ++ stream_faults body) (choice_faults body) members) in
    holds (is_some (patterns_of body)) (codes "index_patterns") (first_nothing (fault_unless (is_some (patterns_of body)) (codes "index_patterns")) (fault_unless (has_to_be is_object (get (codes "data_stream") body)) (codes "data_stream")) stream)

good_patterns : (body : Data) → refusal_of body ≡ None → AreGood (unwrap_or (patterns_of body) [])
unfolding patterns_of
good_patterns body none = given_good (option_and_then texts_of (get (codes "index_patterns") body)) (sent_patterns body none)

-- ---- priority

small_priority : (n : ℕ) → unwrap_or (in_priority n) 0 ≤ greatest_priority
small_priority n = go (nat_le n greatest_priority) refl
  where
    go : (v : Bool) → nat_le n greatest_priority ≡ v → unwrap_or (cond v (Some n) None) 0 ≤ greatest_priority
    go true is = leb-true n greatest_priority is
    go false is = omega arith

priority_in : (o : Option ℕ) → unwrap_or (option_and_then in_priority o) 0 ≤ greatest_priority
priority_in None = omega arith
priority_in (Some n) = small_priority n

given_small : (o : Option Data) → unwrap_or (given_priority o) 0 ≤ greatest_priority
given_small None = omega arith
given_small (Some d) = priority_in (option_and_then as_u64 (as_number d))

-- ---- shards

abbrev InShards : Option ℕ → Type 0
InShards o = (1 ≤ unwrap_or o 1) × (unwrap_or o 1 ≤ most_shards)

shards_one : InShards None
shards_one = (omega arith, omega arith)

shards_good : (n : ℕ) → InShards (in_shards n)
shards_good n = go (nat_le 1 n && nat_le n most_shards) refl
  where
    go : (v : Bool) → (nat_le 1 n && nat_le n most_shards) ≡ v → InShards (cond v (Some n) None)
    go true is = (leb-true 1 n (first_true (nat_le 1 n) (nat_le n most_shards) is), leb-true n most_shards (second_true (nat_le 1 n) (nat_le n most_shards) is))
    go false is = shards_one

number_good : (o : Option ℕ) → InShards (option_and_then in_shards o)
number_good None = shards_one
number_good (Some n) = shards_good n

text_good : (b : Bool) (n : ℕ) → InShards (cond b (in_shards n) None)
text_good true n = shards_good n
text_good false n = shards_one

value_good : (d : Data) → InShards (shards_of d)
value_good null = shards_one
value_good (boolean b) = shards_one
value_good (number n) = number_good (as_u64 n)
value_good (string s) = text_good (all_ascii_digits s && (nat_le 1 (length s) && (nat_le (length s) 2 && not (slice_index s 0 == 48)))) (digits_value 10 s)
value_good (array ds) = shards_one
value_good (object ms) = shards_one

given_in : (o : Option Data) → InShards (given_shards o)
given_in None = (omega arith, omega arith)
given_in (Some d) = value_good d

shards_are : (body : Data) → InShards (shards_in body)
unfolding shards_in
shards_are body = given_in (value_of Shards (settings_of body))

-- ---- looks

look_good : (n : ℕ) (usual : ℤ) → IsLook usual → IsLook (unwrap_or (in_look n) usual)
look_good n usual is = go (nat_le shortest_look n && nat_le n longest_look) refl
  where
    go : (v : Bool) → (nat_le shortest_look n && nat_le n longest_look) ≡ v → IsLook (unwrap_or (cond v (Some (pos n)) None) usual)
    go true within = record {
      ms = n;
      same = refl;
      least = leb-true shortest_look n (first_true (nat_le shortest_look n) (nat_le n longest_look) within);
      most = leb-true n longest_look (second_true (nat_le shortest_look n) (nat_le n longest_look) within);
    }
    go false within = is

look_read : (d : Data) (usual : ℤ) → IsLook usual → IsLook (unwrap_or (look_of d) usual)
look_read d usual is = go (option_and_then interval_of (as_str d))
  where
    go : (o : Option (ℕ × IntervalUnit)) → IsLook (unwrap_or (option_and_then (λ i. in_look (i.0 * unit_ms i.1)) o) usual)
    go None = is
    go (Some i) = look_good (i.0 * unit_ms i.1) usual is

look_given : (o : Option Data) (usual : ℤ) → IsLook usual → IsLook (unwrap_or (option_and_then look_of o) usual)
look_given None usual is = is
look_given (Some d) usual is = look_read d usual is

template_looks : (key : Key) (n : ℕ) (settings : List Setting) → shortest_look ≤ n → n ≤ longest_look → IsLook (look_at key (pos n) settings)
template_looks key n settings low high = look_given (value_of key settings) (pos n) (record { ms = n; same = refl; least = low; most = high })

of_body : (name : List ℕ) (body : Data) → refusal_of body ≡ None → IsInRange (template_of name body)
unfolding template_of priority_of
of_body name body none = let good = good_patterns body none in record {
  patterns = good.patterns;
  some = good.some;
  few = good.few;
  priority = given_small (get (codes "priority") body);
  shards = shards_are body;
  look_back = template_looks LookBack usual_look_back (settings_of body) (omega arith) (omega arith);
  look_ahead = template_looks LookAhead usual_look_ahead (settings_of body) (omega arith) (omega arith);
}

pub in_range : (name : List ℕ) (body : Data) (t : Template) → refusal_of body ≡ None → t ≡ template_of name body → IsInRange t
in_range name body t none is = subst IsInRange (sym is) (of_body name body none)
