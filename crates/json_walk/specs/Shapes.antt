-- What single values are.
use Rattle.std.specs.Prelude.{ℕ, Bool, true, false, ◌&&◌, List, [], ◌∷◌, bytes_eq, if◌then◌else◌, Option, Some, None, option_and_then, ℤ, int_le}
use Rattle.std.specs.List.{list_any}
use Rattle.std.specs.Borrow.{Bor}
use Rattle.serde_json.specs.Data.{Data, null, boolean, number, string, array, object, Items, no_items, item, Members, no_members, member}
use Rattle.serde_json.specs.Find.{as_str, as_i64, as_number}
use Rattle.serde_json.specs.View.{view}
use Rattle.serde_json.specs.declared.value.Value.{Value}

abbrev pub is_object : Data → Bool
is_object null = false
is_object (boolean b) = false
is_object (number n) = false
is_object (string s) = false
is_object (array ds) = false
is_object (object ms) = true

abbrev pub single_member : Members → Option (List ℕ × Data)
single_member no_members = None
single_member (member k d no_members) = Some (k, d)
single_member (member k d (member l e ms)) = None

-- the one member of an object that has one alone, by name and value
abbrev pub only_member : Data → Option (List ℕ × Data)
only_member null = None
only_member (boolean b) = None
only_member (number n) = None
only_member (string s) = None
only_member (array ds) = None
only_member (object ms) = single_member ms

-- a member in memory
abbrev pub seen_member : Bor (List ℕ) × Bor Value → List ℕ × Data
seen_member m = (m.0.now, view m.1.now)

abbrev pub are_among : List (List ℕ) → Members → Bool
are_among names no_members = true
are_among names (member k d ms) = list_any (λ n. bytes_eq n k) names && are_among names ms

-- an object that has no member but with these names
abbrev pub has_no_other : List (List ℕ) → Data → Bool
has_no_other names null = false
has_no_other names (boolean b) = false
has_no_other names (number n) = false
has_no_other names (string s) = false
has_no_other names (array ds) = false
has_no_other names (object ms) = are_among names ms

abbrev pub with_text : Option (List ℕ) → Option (List (List ℕ)) → Option (List (List ℕ))
with_text (Some t) (Some ts) = Some (t ∷ ts)
with_text t ts = None

-- the elements, where all of them are texts
abbrev pub texts_in : Items → Option (List (List ℕ))
texts_in no_items = Some []
texts_in (item d ds) = with_text (as_str d) (texts_in ds)

-- a text, or a list of texts
abbrev pub texts_of : Data → Option (List (List ℕ))
texts_of null = None
texts_of (boolean b) = None
texts_of (number n) = None
texts_of (string s) = Some (s ∷ [])
texts_of (array ds) = texts_in ds
texts_of (object ms) = None

-- a whole number of signed 64 bits, as serde_json tells whole numbers
abbrev pub whole_of : Data → Option ℤ
whole_of d = option_and_then as_i64 (as_number d)

abbrev pub if_between : ℤ → ℤ → ℤ → Option ℤ
if_between least greatest n = if int_le least n && int_le n greatest then Some n else None

-- a whole number from the least to the greatest
abbrev pub whole_between : ℤ → ℤ → Data → Option ℤ
whole_between least greatest d = option_and_then (if_between least greatest) (whole_of d)
