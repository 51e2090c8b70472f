-- The sort that a body is.
use Rattle.std.specs.Prelude.{◌≡◌, ℕ, suc, nat_le, Bool, true, false, List, [], ◌∷◌, codes, bytes_eq, if◌then◌else◌, Option, Some, None}
use Rattle.std.specs.declared.result.Result.{Result}
use Rattle.std.specs.declared.result.Result.TheVariants.{Ok, Err}
use Rattle.serde_json.specs.Data.{Data, null, boolean, number, string, array, object, Items, no_items, item}
use Rattle.json_walk.specs.Shapes.{only_member}
use Rattle.row_cells.specs.declared.schemas.Role.{Role}
use Rattle.row_cells.specs.declared.schemas.Role.TheVariants.{Time, Dimension, Gauge, Counter, Label}
use Rattle.row_cells.specs.declared.schemas.Field.{Field}
use Rattle.row_cells.specs.declared.schemas.Schema.{Schema}
use Rattle.search_filter.specs.Reading.{count_items}
use Rattle.hits_page.specs.Limits.{most_entries}
use Rattle.hits_page.specs.declared.entries.Entry.{Entry}
use Rattle.hits_page.specs.declared.pager.PageError.{PageError}
use Rattle.hits_page.specs.declared.pager.PageError.TheVariants.{WindowTooLarge, BadSort, Shape, NoMemory}
use Rattle.hits_page.specs.declared.sort_keys.SortKey.{SortKey}

-- ---- entries

-- whether values rise
abbrev pub direction_named : List ℕ → Option Bool
direction_named s = if bytes_eq s (codes "asc") then Some true else (if bytes_eq s (codes "desc") then Some false else None)

abbrev pub text_direction : Data → Option Bool
text_direction null = None
text_direction (boolean b) = None
text_direction (number n) = None
text_direction (string s) = direction_named s
text_direction (array ds) = None
text_direction (object ms) = None

-- a text, or an object with one as `order` alone
abbrev pub direction_in : Data → Option (List ℕ × Data) → Option Bool
direction_in d None = text_direction d
direction_in d (Some m) = if bytes_eq m.0 (codes "order") then text_direction m.1 else None

abbrev pub direction_of : Data → Option Bool
direction_of d = direction_in d (only_member d)

abbrev pub directed_entry : List ℕ → Option Bool → Option Entry
directed_entry path None = None
directed_entry path (Some rising) = Some (record { path = path; rising = rising })

abbrev pub member_entry : Option (List ℕ × Data) → Option Entry
member_entry None = None
member_entry (Some m) = directed_entry m.0 (direction_of m.1)

-- a path, by which values rise, or an object with a path alone and its direction
abbrev pub entry_of : Data → Option Entry
entry_of null = None
entry_of (boolean b) = None
entry_of (number n) = None
entry_of (string s) = Some (record { path = s; rising = true })
entry_of (array ds) = None
entry_of (object ms) = member_entry (only_member (object ms))

abbrev pub with_entry : Option Entry → Option (List Entry) → Option (List Entry)
with_entry None es = None
with_entry (Some e) None = None
with_entry (Some e) (Some es) = Some (e ∷ es)

abbrev pub entries_in : Items → Option (List Entry)
entries_in no_items = Some []
entries_in (item d ds) = with_entry (entry_of d) (entries_in ds)

-- one entry, or a short list
abbrev pub entries_of : Data → Option (List Entry)
entries_of null = None
entries_of (boolean b) = None
entries_of (number n) = None
entries_of (string s) = with_entry (entry_of (string s)) (Some [])
entries_of (array ds) = if nat_le (count_items ds) most_entries then entries_in ds else None
entries_of (object ms) = with_entry (entry_of (object ms)) (Some [])

-- ---- keys

abbrev pub is_sortable : Role → Bool
is_sortable Time = true
is_sortable Dimension = true
is_sortable Gauge = true
is_sortable Counter = true
is_sortable Label = false

-- the place of the first field of that path, where rows can be sorted by it
abbrev pub place_from : ℕ → List ℕ → List Field → Option ℕ
place_from at path [] = None
place_from at path (f ∷ fs) = if bytes_eq f.path path then (if is_sortable f.role then Some at else None) else place_from (suc at) path fs

abbrev pub key_at : Entry → Option ℕ → Result SortKey PageError
key_at e None = Err (BadSort e.path)
key_at e (Some place) = Ok (record { field = place; rising = e.rising })

abbrev pub key_of : List Field → Entry → Result SortKey PageError
key_of fields e = key_at e (place_from 0 e.path fields)

abbrev pub with_key : Result SortKey PageError → Result (List SortKey) PageError → Result (List SortKey) PageError
with_key (Err e) rest = Err e
with_key (Ok k) (Err e) = Err e
with_key (Ok k) (Ok ks) = Ok (k ∷ ks)

-- the key of each entry, or the first path that rows can't be sorted by
abbrev pub keys_of : List Field → List Entry → Result (List SortKey) PageError
keys_of fields [] = Ok []
keys_of fields (e ∷ es) = with_key (key_of fields e) (keys_of fields es)

abbrev pub keys_by : List Field → Option (List Entry) → Result (List SortKey) PageError
keys_by fields None = Err Shape
keys_by fields (Some es) = keys_of fields es

-- the sort that a body is, or its fault: first a wrong shape
abbrev pub sort_of : Schema → Data → Result (List SortKey) PageError
sort_of schema d = keys_by schema.fields (entries_of d)

-- why a call answers no sort: what the body has at fault, which is never the page, or want of memory, which is free
abbrev pub IsCause : {A : Type 0} → Result A PageError → PageError → Type 0
IsCause outcome NoMemory = Unit {0}
IsCause outcome (WindowTooLarge n) = ⊥
IsCause outcome (BadSort path) = outcome ≡ Err (BadSort path)
IsCause outcome Shape = outcome ≡ Err Shape

abbrev pub IsSortCause : Result (List SortKey) PageError → PageError → Type 0
IsSortCause = IsCause
