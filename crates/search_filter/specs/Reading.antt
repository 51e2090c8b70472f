-- The query that a body is.
use Rattle.std.specs.Prelude.{◌≡◌, ℕ, suc, ℤ, pos, ◌==◌, nat_le, unsigned_abs, Bool, true, false, ◌&&◌, ◌||◌, not, List, [], ◌∷◌, ◌++◌, length, take, drop, codes, bytes_eq, if◌then◌else◌, Option, Some, None, option_map, is_some}
use Rattle.std.specs.declared.result.Result.{Result}
use Rattle.std.specs.declared.result.Result.TheVariants.{Ok, Err}
use Rattle.serde_json.specs.Data.{Data, null, boolean, number, string, array, object, Items, no_items, item, Members, no_members, member}
use Rattle.serde_json.specs.Find.{get, as_i64}
use Rattle.json_walk.specs.Shapes.{only_member, single_member, has_no_other, whole_between}
use Rattle.time_text.specs.Moment.{moment_of}
use Rattle.row_cells.specs.declared.scalars.Scalar.{Scalar}
use Rattle.row_cells.specs.declared.scalars.Scalar.TheVariants.{Whole}
use Rattle.row_cells.specs.declared.schemas.FieldType.{FieldType}
use Rattle.row_cells.specs.declared.schemas.FieldType.TheVariants.{Date, Keyword, Long, Integer, Short, Byte, Boolean, Aggregate}
use Rattle.row_cells.specs.declared.schemas.Field.{Field}
use Rattle.row_cells.specs.declared.schemas.Schema.{Schema}
use Rattle.row_cells.specs.Sorted.{sorted}
use Rattle.ts_mapping.specs.Readings.{reading_of}
use Rattle.search_filter.specs.Faults.{worst_with}
use Rattle.search_filter.specs.Limits.{most_terms}
use Rattle.search_filter.specs.Values.{value_cmp}
use Rattle.search_filter.specs.declared.faults.Fault.{Fault}
use Rattle.search_filter.specs.declared.faults.Fault.TheVariants.{Shape, WrongValue}
use Rattle.search_filter.specs.declared.places.Placed.{Placed}
use Rattle.search_filter.specs.declared.query.Bound.{Bound}
use Rattle.search_filter.specs.declared.query.Query.{Query, All, Nothing, Has, OneOf, Between, Bool as BoolQuery}
use Rattle.search_filter.specs.declared.clauses.Clauses.{Clauses}
use Rattle.search_filter.specs.declared.reading.QueryError.{QueryError}
use Rattle.search_filter.specs.declared.reading.QueryError.TheVariants.{Shape as ShapeError, WrongValue as ValueError, NoMemory}

-- what a part of a body was read as, and what it has at fault; where it is at fault the value says nothing
pub record Read (A : Type 0) : Type 0 where
  pub faults : List Fault
  pub value : A

abbrev pub good : {A : Type 0} → A → Read A
good a = record { faults = []; value = a }

abbrev pub misshapen : {A : Type 0} → A → Read A
misshapen a = record { faults = Shape ∷ []; value = a }

abbrev pub joined : {A : Type 0} → Read (List A) → Read (List A) → Read (List A)
joined a b = record { faults = a.faults ++ b.faults; value = a.value ++ b.value }

-- ---- fields

-- the first field of that path, by its place
abbrev pub field_from : ℕ → List ℕ → List Field → Option Placed
field_from at path [] = None
field_from at path (f ∷ fs) = if bytes_eq f.path path then Some (record { field = at; kind = f.kind }) else field_from (suc at) path fs

abbrev pub field_named : List ℕ → List Field → Option Placed
field_named path fields = field_from 0 path fields

abbrev pub is_end_or_dot : List ℕ → Bool
is_end_or_dot [] = true
is_end_or_dot (c ∷ rest) = c == 46

-- a path is this one, or goes on below it
abbrev pub is_at_or_below : List ℕ → List ℕ → Bool
is_at_or_below path other = bytes_eq (take (length path) other) path && is_end_or_dot (drop (length path) other)

-- the places of the fields at a path and below it
abbrev pub places_from : ℕ → List ℕ → List Field → List ℕ
places_from at path [] = []
places_from at path (f ∷ fs) = (if is_at_or_below path f.path then at ∷ [] else []) ++ places_from (suc at) path fs

-- ---- values

-- as which type the values of a field are read: whole numbers of every width, and gauges, are read with 64 bits
abbrev pub kind_asked : FieldType → FieldType
kind_asked Date = Date
kind_asked Keyword = Keyword
kind_asked Boolean = Boolean
kind_asked Long = Long
kind_asked Integer = Long
kind_asked Short = Long
kind_asked Byte = Long
kind_asked Aggregate = Long

abbrev pub value_read : List ℕ → Option Scalar → Read (List Scalar)
value_read path (Some v) = good (v ∷ [])
value_read path None = record { faults = WrongValue path ∷ []; value = [] }

-- a value of the field of a path and a type
abbrev pub value_in : FieldType → List ℕ → Data → Read (List Scalar)
value_in kind path d = value_read path (reading_of (kind_asked kind) d)

abbrev pub values_in : FieldType → List ℕ → Items → Read (List Scalar)
values_in kind path no_items = good []
values_in kind path (item d ds) = joined (value_in kind path d) (values_in kind path ds)

-- one of these values, which are kept in order
abbrev pub one_of : ℕ → Read (List Scalar) → Read Query
one_of field r = record { faults = r.faults; value = OneOf field (sorted value_cmp r.value) }

-- ---- term: a value, or an object that has it as `value` alone

abbrev pub member_value : Option (List ℕ × Data) → Option Data
member_value None = None
member_value (Some m) = if bytes_eq m.0 (codes "value") then Some m.1 else None

abbrev pub term_value : Data → Option Data
term_value null = Some null
term_value (boolean b) = Some (boolean b)
term_value (number n) = Some (number n)
term_value (string s) = Some (string s)
term_value (array ds) = Some (array ds)
term_value (object ms) = member_value (single_member ms)

-- nothing has a value at an unmapped path, and the value isn't read there
abbrev pub term_at : List ℕ → Option Placed → Option Data → Read Query
term_at path f None = misshapen Nothing
term_at path None (Some d) = good Nothing
term_at path (Some f) (Some d) = one_of f.field (value_in f.kind path d)

abbrev pub term_of : List Field → Option (List ℕ × Data) → Read Query
term_of fields None = misshapen Nothing
term_of fields (Some m) = term_at m.0 (field_named m.0 fields) (term_value m.1)

-- ---- terms: at most so many values

abbrev pub count_items : Items → ℕ
count_items no_items = 0
count_items (item d ds) = suc (count_items ds)

abbrev pub terms_at : List ℕ → Option Placed → Items → Read Query
terms_at path None ds = good Nothing
terms_at path (Some f) ds = one_of f.field (values_in f.kind path ds)

abbrev pub terms_in : List Field → List ℕ → Data → Read Query
terms_in fields path null = misshapen Nothing
terms_in fields path (boolean b) = misshapen Nothing
terms_in fields path (number n) = misshapen Nothing
terms_in fields path (string s) = misshapen Nothing
terms_in fields path (array ds) = if nat_le (count_items ds) most_terms then terms_at path (field_named path fields) ds else misshapen Nothing
terms_in fields path (object ms) = misshapen Nothing

abbrev pub terms_of : List Field → Option (List ℕ × Data) → Read Query
terms_of fields None = misshapen Nothing
terms_of fields (Some m) = terms_in fields m.0 m.1

-- ---- range: one or two of four ends

abbrev pub end_names : List (List ℕ)
end_names = codes "gte" ∷ codes "gt" ∷ codes "lte" ∷ codes "lt" ∷ []

abbrev pub has : List ℕ → Data → Bool
has name d = is_some (get name d)

abbrev pub is_range : Data → Bool
is_range d =
    has_no_other end_names d && (not (has (codes "gte") d && has (codes "gt") d) && (not (has (codes "lte") d && has (codes "lt") d)
    && (has (codes "gte") d || (has (codes "gt") d || (has (codes "lte") d || has (codes "lt") d)))))

-- an end that is sent, and whether it is within
abbrev pub end_sent : Option Data → Option Data → Option (Data × Bool)
end_sent (Some d) other = Some (d, true)
end_sent None (Some d) = Some (d, false)
end_sent None None = None

-- a moment expression, or a whole number of milliseconds, which may lie outside the instants
abbrev pub moment_in : ℤ → Data → Option ℤ
moment_in now null = None
moment_in now (boolean b) = None
moment_in now (number n) = as_i64 n
moment_in now (string s) = moment_of now s
moment_in now (array ds) = None
moment_in now (object ms) = None

abbrev pub end_value : ℤ → FieldType → Data → Option Scalar
end_value now Date d = option_map Whole (moment_in now d)
end_value now Keyword d = reading_of Keyword d
end_value now Boolean d = reading_of Boolean d
end_value now Long d = reading_of Long d
end_value now Integer d = reading_of Long d
end_value now Short d = reading_of Long d
end_value now Byte d = reading_of Long d
end_value now Aggregate d = reading_of Long d

abbrev pub bound_read : List ℕ → Bool → Option Scalar → Read (Option Bound)
bound_read path inclusive (Some v) = good (Some (record { value = v; inclusive = inclusive }))
bound_read path inclusive None = record { faults = WrongValue path ∷ []; value = None }

abbrev pub bound_in : ℤ → FieldType → List ℕ → Option (Data × Bool) → Read (Option Bound)
bound_in now kind path None = good None
bound_in now kind path (Some e) = bound_read path e.1 (end_value now kind e.0)

abbrev pub between : ℕ → Read (Option Bound) → Read (Option Bound) → Read Query
between field low high = record { faults = low.faults ++ high.faults; value = Between field low.value high.value }

abbrev pub range_at : ℤ → List ℕ → Option Placed → Data → Read Query
range_at now path None d = good Nothing
range_at now path (Some f) d =
    between f.field (bound_in now f.kind path (end_sent (get (codes "gte") d) (get (codes "gt") d)))
    (bound_in now f.kind path (end_sent (get (codes "lte") d) (get (codes "lt") d)))

abbrev pub range_of : ℤ → List Field → Option (List ℕ × Data) → Read Query
range_of now fields None = misshapen Nothing
range_of now fields (Some m) = if is_range m.1 then range_at now m.0 (field_named m.0 fields) m.1 else misshapen Nothing

-- ---- exists

abbrev pub exists_at : List Field → Data → Read Query
exists_at fields null = misshapen Nothing
exists_at fields (boolean b) = misshapen Nothing
exists_at fields (number n) = misshapen Nothing
exists_at fields (string s) = good (Has (places_from 0 s fields))
exists_at fields (array ds) = misshapen Nothing
exists_at fields (object ms) = misshapen Nothing

abbrev pub exists_of : List Field → Option (List ℕ × Data) → Read Query
exists_of fields None = misshapen Nothing
exists_of fields (Some m) = if bytes_eq m.0 (codes "field") then exists_at fields m.1 else misshapen Nothing

-- ---- match_all

abbrev pub all_of : Data → Read Query
all_of null = misshapen Nothing
all_of (boolean b) = misshapen Nothing
all_of (number n) = misshapen Nothing
all_of (string s) = misshapen Nothing
all_of (array ds) = misshapen Nothing
all_of (object no_members) = good All
all_of (object (member k d ms)) = misshapen Nothing

-- a query of one of the names that have no query inside
abbrev pub leaf_of : ℤ → List Field → List ℕ → Data → Read Query
leaf_of now fields name d =
    if bytes_eq name (codes "match_all") then all_of d
    else (if bytes_eq name (codes "term") then term_of fields (only_member d)
    else (if bytes_eq name (codes "terms") then terms_of fields (only_member d)
    else (if bytes_eq name (codes "range") then range_of now fields (only_member d)
    else (if bytes_eq name (codes "exists") then exists_of fields (only_member d)
    else misshapen Nothing))))

-- ---- bool

abbrev pub no_clauses : Clauses
no_clauses = record { must = []; should = []; must_not = []; least = None }

abbrev pub later_of : Option ℕ → Option ℕ → Option ℕ
later_of least None = least
later_of least (Some n) = Some n

abbrev pub clauses_joined : Clauses → Clauses → Clauses
clauses_joined a b =
    record { must = a.must ++ b.must; should = a.should ++ b.should; must_not = a.must_not ++ b.must_not; least = later_of a.least b.least }

abbrev pub both_clauses : Read Clauses → Read Clauses → Read Clauses
both_clauses a b = record { faults = a.faults ++ b.faults; value = clauses_joined a.value b.value }

abbrev pub must_in : Read (List Query) → Read Clauses
must_in r = record { faults = r.faults; value = record no_clauses { must = r.value } }

abbrev pub should_in : Read (List Query) → Read Clauses
should_in r = record { faults = r.faults; value = record no_clauses { should = r.value } }

abbrev pub must_not_in : Read (List Query) → Read Clauses
must_not_in r = record { faults = r.faults; value = record no_clauses { must_not = r.value } }

abbrev pub least_read : Option ℤ → Read Clauses
least_read (Some n) = good (record no_clauses { least = Some (unsigned_abs n) })
least_read None = misshapen no_clauses

-- a whole number from 0
abbrev pub least_in : Data → Read Clauses
least_in d = least_read (whole_between (pos 0) (pos 9223372036854775807) d)

-- how many of `should` have to match: one where nothing else is asked for and nothing is said
abbrev pub least_for : Option ℕ → List Query → List Query → ℕ
least_for (Some n) must should = n
least_for None [] [] = 0
least_for None [] (q ∷ qs) = 1
least_for None (q ∷ qs) should = 0

abbrev pub finished : Read Clauses → Read Query
finished r =
    record { faults = r.faults; value = BoolQuery r.value.must r.value.should r.value.must_not (least_for r.value.least r.value.must r.value.should) }

-- a clause of that name, over what its queries were read as
abbrev pub clause_read : List ℕ → Data → Read (List Query) → Read Clauses
clause_read k d r =
    if bytes_eq k (codes "must") then must_in r
    else (if bytes_eq k (codes "filter") then must_in r
    else (if bytes_eq k (codes "should") then should_in r
    else (if bytes_eq k (codes "must_not") then must_not_in r
    else (if bytes_eq k (codes "minimum_should_match") then least_in d
    else misshapen no_clauses))))

abbrev pub single : Read Query → Read (List Query)
single r = record { faults = r.faults; value = r.value ∷ [] }

-- An object with one member, whose name says what is asked. `filter` asks what `must` does. Each of the four lists of `bool` may be
-- a query alone.
abbrev mutual
  pub query_at : ℤ → List Field → Data → Read Query
  query_at now fields null = misshapen Nothing
  query_at now fields (boolean b) = misshapen Nothing
  query_at now fields (number n) = misshapen Nothing
  query_at now fields (string s) = misshapen Nothing
  query_at now fields (array ds) = misshapen Nothing
  query_at now fields (object ms) = query_in now fields ms

  pub query_in : ℤ → List Field → Members → Read Query
  query_in now fields no_members = misshapen Nothing
  query_in now fields (member k d no_members) = if bytes_eq k (codes "bool") then bool_of now fields d else leaf_of now fields k d
  query_in now fields (member k d (member l e ms)) = misshapen Nothing

  pub bool_of : ℤ → List Field → Data → Read Query
  bool_of now fields null = misshapen Nothing
  bool_of now fields (boolean b) = misshapen Nothing
  bool_of now fields (number n) = misshapen Nothing
  bool_of now fields (string s) = misshapen Nothing
  bool_of now fields (array ds) = misshapen Nothing
  bool_of now fields (object ms) = finished (clauses_in now fields ms)

  pub clauses_in : ℤ → List Field → Members → Read Clauses
  clauses_in now fields no_members = good no_clauses
  clauses_in now fields (member k d ms) = both_clauses (clause_read k d (queries_of now fields d)) (clauses_in now fields ms)

  pub queries_of : ℤ → List Field → Data → Read (List Query)
  queries_of now fields null = misshapen []
  queries_of now fields (boolean b) = misshapen []
  queries_of now fields (number n) = misshapen []
  queries_of now fields (string s) = misshapen []
  queries_of now fields (array ds) = queries_in now fields ds
  queries_of now fields (object ms) = single (query_in now fields ms)

  pub queries_in : ℤ → List Field → Items → Read (List Query)
  queries_in now fields no_items = good []
  queries_in now fields (item d ds) = joined (single (query_at now fields d)) (queries_in now fields ds)

abbrev pub clause_of : ℤ → List Field → List ℕ → Data → Read Clauses
clause_of now fields k d = clause_read k d (queries_of now fields d)

abbrev pub error_of : Fault → QueryError
error_of Shape = ShapeError
error_of (WrongValue path) = ValueError path

abbrev pub by_fault : Option Fault → Query → Result Query QueryError
by_fault None q = Ok q
by_fault (Some f) q = Err (error_of f)

-- the query that a body is, or its fault: first a wrong shape, then the wrong value of the least path
abbrev pub query_of : ℤ → Schema → Data → Result Query QueryError
query_of now schema d = by_fault (worst_with None (query_at now schema.fields d).faults) (query_at now schema.fields d).value

-- why a call answers no query: what the body has at fault, or want of memory, which is free
abbrev pub IsQueryCause : Result Query QueryError → QueryError → Type 0
IsQueryCause outcome NoMemory = Unit {0}
IsQueryCause outcome error = outcome ≡ Err error
