-- The aggregations that a body asks for, or what keeps it from that.
use Rattle.std.specs.Prelude.{ℕ, suc, pos, unsigned_abs, List, [], ◌∷◌, ◌++◌, Bool, true, false, ◌||◌, not, nat_eq, Option, Some, None, option_map, option_and_then, codes, bytes_eq, if◌then◌else◌}
use Rattle.std.specs.Cmp.Lexicographic.{slice_cmp}
use Rattle.std.specs.List.{list_any, slice_get}
use Rattle.std.specs.Ordering.{on, then_cmp, nat_cmp, match_ordering}
use Rattle.std.specs.declared.cmp.Ordering.{Ordering}
use Rattle.std.specs.declared.result.Result.{Result}
use Rattle.std.specs.declared.result.Result.TheVariants.{Ok, Err}
use Rattle.serde_json.specs.Data.{Data, null, boolean, number, string, array, object, Members, no_members, member}
use Rattle.serde_json.specs.Find.{get, as_str}
use Rattle.json_walk.specs.Shapes.{has_no_other, only_member, whole_between}
use Rattle.time_text.specs.Interval.{interval_in}
use Rattle.time_text.specs.declared.intervals.Interval.{Interval}
use Rattle.row_cells.specs.declared.schemas.Field.{Field}
use Rattle.histogram_aggs.specs.declared.aggs.AggKind.{AggKind}
use Rattle.histogram_aggs.specs.declared.aggs.AggKind.TheVariants.{Terms, DateHistogram}
use Rattle.histogram_aggs.specs.declared.errors.AggError.{AggError}
use Rattle.histogram_aggs.specs.declared.errors.AggError.TheVariants.{Shape, WrongField}
use Rattle.histogram_aggs.specs.declared.saying.Said.{Said}
use Rattle.histogram_aggs.specs.Asks.{Asks, no_asks, ask}
use Rattle.histogram_aggs.specs.Limits.{most_buckets}
use Rattle.histogram_aggs.specs.Kinds.{kind_name, metric_named, has_buckets, supports}

-- ---- what an aggregation says of itself

-- how many buckets of values are shown: 10, or a number from 1 to the most buckets of an answer
abbrev pub size_in : Option Data → Option ℕ
size_in None = Some 10
size_in (Some d) = option_map unsigned_abs (whole_between (pos 1) (pos most_buckets) d)

-- by falling documents, or by rising or falling keys
abbrev pub order_named : List ℕ → List ℕ → Option (Option Bool)
order_named name way =
    if bytes_eq name (codes "_count") then (if bytes_eq way (codes "desc") then Some None else None)
    else (if bytes_eq name (codes "_key")
    then (if bytes_eq way (codes "asc") then Some (Some true) else (if bytes_eq way (codes "desc") then Some (Some false) else None))
    else None)

abbrev pub order_by : List ℕ × Data → Option (Option Bool)
order_by m = option_and_then (order_named m.0) (as_str m.1)

abbrev pub order_in : Option Data → Option (Option Bool)
order_in None = Some None
order_in (Some d) = option_and_then order_by (only_member d)

-- how many documents a bucket of time has to have: 0, or a whole number from 0 on
abbrev pub least_in : Option Data → Option ℕ
least_in None = Some 0
least_in (Some d) = option_map unsigned_abs (whole_between (pos 0) (pos 9_223_372_036_854_775_807) d)

abbrev pub terms_of : Option ℕ → Option (Option Bool) → Option AggKind
terms_of (Some size) (Some by_key) = Some (Terms size by_key)
terms_of size by_key = None

unfoldable pub terms_in : Data → Option AggKind
terms_in d =
    if has_no_other (codes "field" ∷ codes "order" ∷ codes "size" ∷ []) d
    then terms_of (size_in (get (codes "size") d)) (order_in (get (codes "order") d)) else None

abbrev pub interval_at : Option Data → Option Interval
interval_at d = option_and_then interval_in (option_and_then as_str d)

abbrev pub histogram_of : Option Interval → Option ℕ → Option AggKind
histogram_of (Some interval) (Some least) = Some (DateHistogram interval least)
histogram_of interval least = None

unfoldable pub histogram_in : Data → Option AggKind
histogram_in d =
    if has_no_other (codes "field" ∷ codes "fixed_interval" ∷ codes "min_doc_count" ∷ []) d
    then histogram_of (interval_at (get (codes "fixed_interval") d)) (least_in (get (codes "min_doc_count") d)) else None

unfoldable pub metric_in : List ℕ → Data → Option AggKind
metric_in name d = if has_no_other (codes "field" ∷ []) d then metric_named name else None

-- the kind of a name, with what its value says
unfoldable pub kind_in : List ℕ → Data → Option AggKind
kind_in name d =
    if bytes_eq name (codes "terms") then terms_in d
    else (if bytes_eq name (codes "date_histogram") then histogram_in d else metric_in name d)

-- the first field with a path
abbrev pub place_from : ℕ → List Field → List ℕ → Option ℕ
place_from at [] path = None
place_from at (f ∷ fields) path = if bytes_eq f.path path then Some at else place_from (suc at) fields path

abbrev pub said_of : List Field → Option AggKind → Option (List ℕ) → Option Said
said_of fields (Some kind) (Some path) = Some (record { kind = kind; field = place_from 0 fields path })
said_of fields kind path = None

-- the kind and the field of an aggregation, by its member of that name
unfoldable pub said_by : List Field → List ℕ → Data → Option Said
said_by fields name d = said_of fields (kind_in name d) (option_and_then as_str (get (codes "field") d))

-- ---- aggregations by name

-- a name that isn't empty, without brackets and `>`
abbrev pub is_mark : ℕ → Bool
is_mark b = nat_eq b 91 || nat_eq b 93 || nat_eq b 62

abbrev pub is_name : List ℕ → Bool
is_name [] = false
is_name (b ∷ name) = not (list_any is_mark (b ∷ name))

-- the member that holds the aggregations below
abbrev pub is_below : List ℕ → Bool
is_below name = bytes_eq name (codes "aggs") || bytes_eq name (codes "aggregations")

-- what is read of the members of an aggregation
pub record Held : Type 0 where
  pub said : Option Said
  pub below : Option Asks

-- one kind, and the aggregations below once at most
abbrev pub said_once : Option Said → Held → Option Held
said_once None held = Some held
said_once (Some before) held = None

abbrev pub with_said : Held → Option Said → Option Held
with_said held None = None
with_said held (Some said) = said_once held.said (record held { said = Some said })

abbrev pub below_once : Option Asks → Held → Option Held
below_once None held = Some held
below_once (Some before) held = None

abbrev pub with_below : Held → Option Asks → Option Held
with_below held None = None
with_below held (Some below) = below_once held.below (record held { below = Some below })

-- one aggregation without its name
pub record One : Type 0 where
  pub said : Said
  pub below : Asks

-- a kind, and aggregations below where its answer has buckets
abbrev pub one_by : Option Said → Option Asks → Option One
one_by None below = None
one_by (Some said) None = Some (record { said = said; below = no_asks })
one_by (Some said) (Some below) = if has_buckets said.kind then Some (record { said = said; below = below }) else None

abbrev pub one_of : Held → Option One
one_of held = one_by held.said held.below

-- one aggregation in front of others
abbrev pub named_in_front : List ℕ → Option One → Option Asks → Option Asks
named_in_front name (Some one) (Some others) = Some (ask name one.said.kind one.said.field one.below others)
named_in_front name one others = None

abbrev mutual
  -- the aggregations that an object has by name, where it is well formed
  pub asks_at : List Field → Data → Option Asks
  asks_at fields null = None
  asks_at fields (boolean b) = None
  asks_at fields (number n) = None
  asks_at fields (string s) = None
  asks_at fields (array ds) = None
  asks_at fields (object ms) = asks_in fields ms

  pub asks_in : List Field → Members → Option Asks
  asks_in fields no_members = Some no_asks
  asks_in fields (member name d ms) = if is_name name then named_in_front name (one_at fields d) (asks_in fields ms) else None

  pub one_at : List Field → Data → Option One
  one_at fields null = None
  one_at fields (boolean b) = None
  one_at fields (number n) = None
  one_at fields (string s) = None
  one_at fields (array ds) = None
  one_at fields (object ms) = option_and_then one_of (held_in fields (record { said = None; below = None }) ms)

  -- what is held, and what further members say
  pub held_in : List Field → Held → Members → Option Held
  held_in fields held no_members = Some held
  held_in fields held (member name d ms) =
      option_and_then (λ next. held_in fields next ms) (if is_below name then with_below held (asks_at fields d) else with_said held (said_by fields name d))

-- ---- fields that a kind may not ask

pub record Wrong : Type 0 where
  pub path : List ℕ
  pub kind : List ℕ

-- by path and then by kind
abbrev pub wrong_cmp : Wrong → Wrong → Ordering
wrong_cmp = then_cmp (on (λ w. w.path) (slice_cmp nat_cmp)) (on (λ w. w.kind) (slice_cmp nat_cmp))

-- the field that an aggregation asks, if it is mapped
abbrev pub field_at : List Field → Option ℕ → Option Field
field_at fields None = None
field_at fields (Some place) = slice_get fields place

abbrev pub wrong_at : AggKind → Option Field → Option Wrong
wrong_at kind None = None
wrong_at kind (Some f) = if supports kind f then None else Some (record { path = f.path; kind = kind_name kind })

abbrev pub listed : Option Wrong → List Wrong
listed None = []
listed (Some w) = w ∷ []

-- at all levels
abbrev pub wrongs_of : List Field → Asks → List Wrong
wrongs_of fields no_asks = []
wrongs_of fields (ask name kind place below others) = listed (wrong_at kind (field_at fields place)) ++ (wrongs_of fields below ++ wrongs_of fields others)

abbrev pub lesser : Option Wrong → Wrong → Option Wrong
lesser None w = Some w
lesser (Some v) w = match_ordering (wrong_cmp w v) (Some w) (Some v) (Some v)

-- the least of these and one that is held
abbrev pub least_with : Option Wrong → List Wrong → Option Wrong
least_with held [] = held
least_with held (w ∷ ws) = least_with (lesser held w) ws

-- ---- what is answered

abbrev pub unless_wrong : Asks → Option Wrong → Result Asks AggError
unless_wrong asks None = Ok asks
unless_wrong asks (Some w) = Err (WrongField w.path w.kind)

abbrev pub unless_shapeless : List Field → Option Asks → Result Asks AggError
unless_shapeless fields None = Err Shape
unless_shapeless fields (Some asks) = unless_wrong asks (least_with None (wrongs_of fields asks))

-- the aggregations of a body; else Shape where it is ill formed, and else the wrong field of least path, and then of least kind
abbrev pub aggs_of : List Field → Data → Result Asks AggError
aggs_of fields body = unless_shapeless fields (asks_at fields body)
