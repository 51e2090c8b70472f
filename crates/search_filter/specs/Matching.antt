-- Which rows a query takes.
use Rattle.std.specs.Prelude.{ℕ, suc, nat_le, Bool, true, false, ◌&&◌, not, List, [], ◌∷◌, length, Option, Some, None}
use Rattle.std.specs.List.{list_all, list_any}
use Rattle.std.specs.Ordering.{is_eq}
use Rattle.std.specs.declared.cmp.Ordering.{Ordering}
use Rattle.std.specs.declared.cmp.Ordering.TheVariants.{Less, Equal, Greater}
use Rattle.row_cells.specs.declared.scalars.Scalar.{Scalar}
use Rattle.row_cells.specs.declared.schemas.Field.{Field}
use Rattle.row_cells.specs.declared.schemas.Schema.{Schema}
use Rattle.row_cells.specs.declared.rows.Row.{Row}
use Rattle.search_filter.specs.Values.{values_at, value_cmp}
use Rattle.search_filter.specs.declared.query.Bound.{Bound}
use Rattle.search_filter.specs.declared.query.Query.{Query, Query-F, fold-Query}

-- a value is one of these
abbrev pub is_one_of : List Scalar → Scalar → Bool
is_one_of values v = list_any (λ w. is_eq (value_cmp v w)) values

-- by how a value and a bound compare, and whether the bound itself is within
abbrev pub is_over : Ordering → Bool → Bool
is_over Less inclusive = false
is_over Equal inclusive = inclusive
is_over Greater inclusive = true

abbrev pub is_under : Ordering → Bool → Bool
is_under Less inclusive = true
is_under Equal inclusive = inclusive
is_under Greater inclusive = false

abbrev pub is_above : Option Bound → Scalar → Bool
is_above None v = true
is_above (Some b) v = is_over (value_cmp v b.value) b.inclusive

abbrev pub is_below : Option Bound → Scalar → Bool
is_below None v = true
is_below (Some b) v = is_under (value_cmp v b.value) b.inclusive

-- a value is within both ends
abbrev pub is_within : Option Bound → Option Bound → Scalar → Bool
is_within low high v = is_above low v && is_below high v

abbrev pub is_some_value : List Scalar → Bool
is_some_value vs = nat_le 1 (length vs)

-- the row has a value at the field of a place
abbrev pub has_value : List Field → Row → ℕ → Bool
has_value fields row place = is_some_value (values_at fields place row)

abbrev pub is_true : Bool → Bool
is_true b = b

-- how many are true
abbrev pub count_true : List Bool → ℕ
count_true [] = 0
count_true (true ∷ bs) = suc (count_true bs)
count_true (false ∷ bs) = count_true bs

-- one level of a query, below which it is known what takes the row
abbrev pub match_step : List Field → Row → Query-F Bool → Bool
match_step fields row Query-F.All = true
match_step fields row Query-F.Nothing = false
match_step fields row (Query-F.Has places) = list_any (has_value fields row) places
match_step fields row (Query-F.OneOf place values) = list_any (is_one_of values) (values_at fields place row)
match_step fields row (Query-F.Between place low high) = list_any (is_within low high) (values_at fields place row)
match_step fields row (Query-F.Bool must should must_not least) =
    list_all is_true must && (not (list_any is_true must_not) && nat_le least (count_true should))

-- the query takes the row
abbrev pub matches_row : Query → Schema → Row → Bool
matches_row query schema row = fold-Query Bool (match_step schema.fields row) query
