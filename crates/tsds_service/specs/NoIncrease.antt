-- Which index keeps no increase of a counter, and what is told then.
use Rattle.std.specs.Prelude.{ℕ, Bool, ◌&&◌, not, true, false, bytes_eq, List, [], ◌∷◌, filter, map, Option, Some, None, if◌then◌else◌}
use Rattle.std.specs.List.{filter_map, list_any}
use Rattle.std.specs.Option.{is_some, option_map}
use Rattle.std.specs.Cmp.Lexicographic.{slice_cmp}
use Rattle.std.specs.Ordering.{is_le, nat_cmp}
use Rattle.row_cells.specs.declared.schemas.Field.{Field}
use Rattle.row_cells.specs.declared.schemas.Role.{Role}
use Rattle.row_cells.specs.declared.schemas.Role.TheVariants.{Time, Dimension, Gauge, Counter, Label}
use Rattle.stream_catalog.specs.declared.facts.HeldIndex.{HeldIndex}
use Rattle.stream_catalog.specs.Lists.{facts_name}
use Rattle.tsds_service.specs.declared.causes.Cause.{Cause}
use Rattle.tsds_service.specs.declared.causes.Cause.TheVariants.{NoIncrease}

abbrev pub counts : Role → Bool
counts Time = false
counts Dimension = false
counts Gauge = false
counts Counter = true
counts Label = false

abbrev pub is_counter_at : List ℕ → Field → Bool
is_counter_at path f = bytes_eq f.path path && counts f.role

-- a folded index without the mark of rises maps the path as a counter
abbrev pub keeps_none : List ℕ → HeldIndex → Bool
keeps_none path i = is_some i.interval && (not i.mapping.schema.rises && list_any (is_counter_at path) i.mapping.schema.fields)

-- the least of some names, in byte order
abbrev pub lesser : List ℕ → Option (List ℕ) → List ℕ
lesser m None = m
lesser m (Some n) = if is_le (slice_cmp nat_cmp m n) then m else n

abbrev pub least_name : List (List ℕ) → Option (List ℕ)
least_name [] = None
least_name (n ∷ ns) = Some (lesser n (least_name ns))

-- the least name of a target's indices that keep no increase of a path
abbrev pub keeps_no_increase : List ℕ → List HeldIndex → Option (List ℕ)
keeps_no_increase path is = least_name (map facts_name (filter (keeps_none path) is))

-- of all paths of which a body asks the increase
abbrev pub increase_refusal : List (List ℕ) → List HeldIndex → Option Cause
increase_refusal paths is = option_map NoIncrease (least_name (filter_map (λ path. keeps_no_increase path is) paths))
