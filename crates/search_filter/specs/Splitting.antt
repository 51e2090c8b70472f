-- A query in two parts: a range of times, and what the key of a row tells.
use Rattle.std.specs.Prelude.{ℕ, ℤ, pos, ◌+ℤ◌, int_le, int_lt, Bool, true, false, ◌&&◌, not, List, [], ◌∷◌, ◌++◌, if◌then◌else◌, Option, Some, None}
use Rattle.std.specs.Int.{int_max, int_min}
use Rattle.std.specs.List.{list_all, slice_get}
use Rattle.edge_face.specs.Limits.{last_instant}
use Rattle.row_cells.specs.declared.scalars.Scalar.{Scalar}
use Rattle.row_cells.specs.declared.scalars.Scalar.TheVariants.{Whole, Flag, Word}
use Rattle.row_cells.specs.declared.schemas.Role.{Role}
use Rattle.row_cells.specs.declared.schemas.Role.TheVariants.{Time as TimeRole, Dimension, Gauge, Counter, Label}
use Rattle.row_cells.specs.declared.schemas.Field.{Field}
use Rattle.row_cells.specs.declared.schemas.Schema.{Schema}
use Rattle.search_filter.specs.declared.query.Bound.{Bound}
use Rattle.search_filter.specs.declared.query.Query.{Query, Query-F, fold-Query, All, Nothing, Has, OneOf, Between, Bool as BoolQuery}
use Rattle.search_filter.specs.declared.splits.Joined.{Joined}
use Rattle.search_filter.specs.declared.splits.Split.{Split}
use Rattle.search_filter.specs.declared.tellers.Teller.{Teller}
use Rattle.search_filter.specs.declared.tellers.Teller.TheVariants.{Time, Key, Cell}

-- ---- ranges of times, from a millisecond up to another one

-- the millisecond behind all instants
abbrev pub end_of_time : ℤ
end_of_time = last_instant +ℤ pos 1

-- the nearest end that a range of instants has
abbrev pub cut_time : ℤ → ℤ
cut_time t = int_max (int_min t end_of_time) (pos 0)

abbrev pub is_between : ℤ → ℤ → ℤ → Bool
is_between from to t = int_le from t && int_lt t to

-- the millisecond itself, or the next one
abbrev pub time_or_next : Bool → ℤ → ℤ
time_or_next false t = t
time_or_next true t = t +ℤ pos 1

-- where a range begins or ends that has a value as a bound; none where that is no time
abbrev pub end_at : Bool → Scalar → Option ℤ
end_at next (Whole t) = Some (cut_time (time_or_next next t))
end_at next (Flag b) = None
end_at next (Word w) = None

abbrev pub begin_of : Option Bound → Option ℤ
begin_of None = Some (pos 0)
begin_of (Some b) = end_at (not b.inclusive) b.value

abbrev pub end_of : Option Bound → Option ℤ
end_of None = Some end_of_time
end_of (Some b) = end_at b.inclusive b.value

-- ---- what tells the values of a row at a field

-- its time, its key, or its cells alone
abbrev pub teller_by : Role → Teller
teller_by TimeRole = Time
teller_by Dimension = Key
teller_by Gauge = Cell
teller_by Counter = Cell
teller_by Label = Cell

-- where there is no field there is no value, as each key tells
abbrev pub teller_of : Option Field → Teller
teller_of None = Key
teller_of (Some f) = teller_by f.role

abbrev pub teller_at : List Field → ℕ → Teller
teller_at fields place = teller_of (slice_get fields place)

-- whether the row has a value: each has a time
abbrev pub is_presence_told : Teller → Bool
is_presence_told Time = true
is_presence_told Key = true
is_presence_told Cell = false

-- ---- parts

-- a query that asks for no time, or for nothing else
abbrev pub timeless : Query → Split
timeless q = record { from = pos 0; to = end_of_time; rest = q }

abbrev pub timed : Option ℤ → Option ℤ → Option Split
timed None to = None
timed (Some from) None = None
timed (Some from) (Some to) = Some (record { from = from; to = to; rest = All })

-- a time that is one of these: where it is a single one
abbrev pub timed_one : List Scalar → Option Split
timed_one [] = None
timed_one (v ∷ []) = timed (end_at false v) (end_at true v)
timed_one (v ∷ (w ∷ vs)) = None

-- what is asked of a field's values: of the time a range, of a dimension the query itself
abbrev pub split_by : Teller → Option Split → Query → Option Split
split_by Time times q = times
split_by Key times q = Some (timeless q)
split_by Cell times q = None

-- ---- queries that all have to match

abbrev pub joined : Split → Joined → Joined
joined s j = record { from = int_max s.from j.from; to = int_min s.to j.to; rests = s.rest ∷ j.rests }

abbrev pub joined_if : Option Split → Option Joined → Option Joined
joined_if None j = None
joined_if (Some s) None = None
joined_if (Some s) (Some j) = Some (joined s j)

abbrev pub join_all : List (Option Split) → Option Joined
join_all [] = Some (record { from = pos 0; to = end_of_time; rests = [] })
join_all (s ∷ ss) = joined_if s (join_all ss)

-- what several queries ask for, where none asks for times
abbrev pub rests_of : Joined → Option (List Query)
rests_of j = if int_le j.from (pos 0) && int_le end_of_time j.to then Some j.rests else None

abbrev pub rests_if : Option Joined → Option (List Query)
rests_if None = None
rests_if (Some j) = rests_of j

abbrev pub split_bool : ℕ → Option Joined → Option (List Query) → Option (List Query) → Option Split
split_bool least None should must_not = None
split_bool least (Some must) None must_not = None
split_bool least (Some must) (Some should) None = None
split_bool least (Some must) (Some should) (Some must_not) =
    Some (record { from = must.from; to = must.to; rest = BoolQuery must.rests should must_not least })

-- one level of a query, below which all is split
abbrev pub split_step : List Field → Query-F (Option Split) → Option Split
split_step fields Query-F.All = Some (timeless All)
split_step fields Query-F.Nothing = Some (timeless Nothing)
split_step fields (Query-F.Has places) =
    if list_all (λ place. is_presence_told (teller_at fields place)) places then Some (timeless (Has places)) else None
split_step fields (Query-F.OneOf place values) = split_by (teller_at fields place) (timed_one values) (OneOf place values)
split_step fields (Query-F.Between place low high) =
    split_by (teller_at fields place) (timed (begin_of low) (end_of high)) (Between place low high)
split_step fields (Query-F.Bool must should must_not least) =
    split_bool least (join_all must) (rests_if (join_all should)) (rests_if (join_all must_not))

-- A query as a range of times that all its rows are in, and a query of dimensions; none where it asks for more. What `should` and
-- `must_not` ask for has to be told by keys alone.
abbrev pub split_of : Schema → Query → Option Split
split_of schema query = fold-Query (Option Split) (split_step schema.fields) query

-- ---- for private clauses

-- one query more behind those that are joined
abbrev pub joined_behind : Joined → Split → Joined
joined_behind j s = record { from = int_max j.from s.from; to = int_min j.to s.to; rests = j.rests ++ s.rest ∷ [] }

abbrev pub joined_both : Joined → Option Joined → Option Joined
joined_both j None = None
joined_both j (Some k) = Some (record { from = int_max j.from k.from; to = int_min j.to k.to; rests = j.rests ++ k.rests })
