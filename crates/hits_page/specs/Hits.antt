-- Rows that were offered, and their order.
use Rattle.std.specs.Prelude.{ℕ, ◌-◌, nat_eq, ℤ, pos, Bool, true, false, not, ◌&&◌, ◌||◌, List, [], ◌∷◌, map, Option, Some, None}
use Rattle.std.specs.List.{slice_get}
use Rattle.std.specs.Ordering.{on, ordering_then, then_cmp, flip_args, nat_cmp, int_cmp, is_lt}
use Rattle.std.specs.declared.cmp.Ordering.{Ordering}
use Rattle.std.specs.declared.cmp.Ordering.TheVariants.{Equal}
use Rattle.row_cells.specs.declared.scalars.Scalar.{Scalar}
use Rattle.row_cells.specs.declared.scalars.Scalar.TheVariants.{Whole}
use Rattle.row_cells.specs.declared.schemas.Field.{Field}
use Rattle.row_cells.specs.declared.rows.Row.{Row}
use Rattle.row_cells.specs.Order.{row_cmp}
use Rattle.search_filter.specs.Values.{value_cmp, values_at}
use Rattle.hits_page.specs.declared.hits.Hit.{Hit}
use Rattle.hits_page.specs.declared.hits.Offer.{Offer}
use Rattle.hits_page.specs.declared.sort_keys.SortKey.{SortKey}

abbrev pub first_of : List Scalar → Option Scalar
first_of [] = None
first_of (v ∷ vs) = Some v

-- the value of a row by each key
abbrev pub sort_values : List SortKey → List Field → Row → List (Option Scalar)
sort_values keys fields row = map (λ k. first_of (values_at fields k.field row)) keys

-- a row as it is offered
abbrev pub hit_of : List SortKey → List Field → ℕ → ℤ → Row → Hit
hit_of keys fields index start row =
    record { start = start; picked = record { index = index; row = row; sort = sort_values keys fields row } }

-- ---- the order of two values by one key

abbrev pub absence : Option Scalar → ℕ
absence (Some v) = 0
absence None = 1

abbrev pub value_or_none : Option Scalar → Scalar
value_or_none (Some v) = v
value_or_none None = Whole (pos 0)

abbrev pub directed : Bool → Scalar → Scalar → Ordering
directed true = value_cmp
directed false = flip_args value_cmp

-- what is absent stands last either way
abbrev pub present_cmp : Bool → Option Scalar → Option Scalar → Ordering
present_cmp rising = then_cmp (on absence nat_cmp) (on value_or_none (directed rising))

abbrev pub head_of : List (Option Scalar) → Option Scalar
head_of [] = None
head_of (v ∷ vs) = v

abbrev pub tail_of : List (Option Scalar) → List (Option Scalar)
tail_of [] = []
tail_of (v ∷ vs) = vs

-- by one key after the other
abbrev pub sort_cmp : List SortKey → List (Option Scalar) → List (Option Scalar) → Ordering
sort_cmp [] = λ a b. Equal
sort_cmp (k ∷ ks) = then_cmp (on head_of (present_cmp k.rising)) (on tail_of (sort_cmp ks))

-- ---- the order of rows

-- where a row stands: its values, and where it stands without them
pub record Place : Type 0 where
  pub sort : List (Option Scalar)
  pub row : Row
  pub start : ℤ

-- by the values, then by key, then the latest first, then the latest window first
abbrev pub place_cmp : List SortKey → Place → Place → Ordering
place_cmp keys = then_cmp (on (λ p. p.sort) (sort_cmp keys)) (then_cmp (on (λ p. p.row) row_cmp) (flip_args (on (λ p. p.start) int_cmp)))

abbrev pub place_of : Hit → Place
place_of h = record { sort = h.picked.sort; row = h.picked.row; start = h.start }

abbrev pub hit_cmp : List SortKey → Hit → Hit → Ordering
hit_cmp keys = on place_of (place_cmp keys)

-- ---- for private clauses

abbrev pub offered_place : List SortKey → Offer → Place
offered_place keys o = record { sort = sort_values keys o.schema.now.fields o.row.now; row = o.row.now; start = o.start }

-- a row and a hit, where no value tells them apart
abbrev pub tie_cmp : Row → ℤ → Hit → Ordering
tie_cmp row start h = ordering_then (row_cmp row h.picked.row) (int_cmp h.start start)

-- a place isn't before a hit, which is told
abbrev pub is_past_hit : List SortKey → Place → Option Hit → Bool
is_past_hit keys p None = false
is_past_hit keys p (Some h) = not (is_lt (place_cmp keys p (place_of h)))

-- no hits are wanted, or so many stand in order in front, and the place isn't before the last of these
abbrev pub is_past : List SortKey → Place → ℕ → Bool → List Hit → Bool
is_past keys p limit has_mark hits = nat_eq limit 0 || (has_mark && is_past_hit keys p (slice_get hits (limit - 1)))
