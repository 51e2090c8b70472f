-- The lifecycle that a body is.
use Rattle.std.specs.Prelude.{◌∷◌, [], List, codes, if◌then◌else◌, Option, None, Some, option_and_then}
use Rattle.std.specs.Option.{option_map}
use Rattle.serde_json.specs.Data.{Data, null, boolean, number, string, array, object, Items, no_items, item}
use Rattle.serde_json.specs.Find.{as_str, get}
use Rattle.json_walk.specs.Names.{has_names}
use Rattle.json_walk.specs.Shapes.{has_no_other}
use Rattle.time_text.specs.declared.intervals.Interval.{Interval}
use Rattle.time_text.specs.Interval.{interval_in}
use Rattle.lifecycle_swap.specs.declared.lifecycles.Lifecycle.{Lifecycle}
use Rattle.lifecycle_swap.specs.declared.lifecycles.Round.{Round}
use Rattle.lifecycle_swap.specs.Lifecycles.{is_lifecycle}

-- the interval that a text is
abbrev pub interval_read : Data → Option Interval
interval_read d = option_and_then interval_in (as_str d)

abbrev pub round_with : Option Interval → Option Interval → Option Round
round_with (Some after) (Some by) = Some (record { after = after; by = by })
round_with after by = None

-- a round is an object of two members, when and by which interval
abbrev pub round_of : Data → Option Round
round_of d =
    if has_names (codes "after" ∷ codes "fixed_interval" ∷ []) d
    then round_with (option_and_then interval_read (get (codes "after") d)) (option_and_then interval_read (get (codes "fixed_interval") d)) else None

abbrev pub with_round : Option Round → Option (List Round) → Option (List Round)
with_round (Some r) (Some rs) = Some (r ∷ rs)
with_round r rs = None

abbrev pub rounds_in : Items → Option (List Round)
rounds_in no_items = Some []
rounds_in (item d ds) = with_round (round_of d) (rounds_in ds)

-- rounds are a list
abbrev pub rounds_of : Data → Option (List Round)
rounds_of null = None
rounds_of (boolean b) = None
rounds_of (number n) = None
rounds_of (string s) = None
rounds_of (array ds) = rounds_in ds
rounds_of (object ms) = None

-- without a retention nothing is deleted
abbrev pub retention_in : Option Data → Option (Option Interval)
retention_in None = Some None
retention_in (Some d) = option_map Some (interval_read d)

-- without rounds nothing is folded
abbrev pub rounds_if_any : Option Data → Option (List Round)
rounds_if_any None = Some []
rounds_if_any (Some d) = rounds_of d

-- a retention and rounds, where these may follow one another
abbrev pub life_with : Option (Option Interval) → Option (List Round) → Option Lifecycle
life_with (Some retention) (Some rounds) =
    if is_lifecycle (record { retention = retention; rounds = rounds }) then Some (record { retention = retention; rounds = rounds }) else None
life_with retention rounds = None

-- the lifecycle of a body, which has no member but these two, if it is one
unfoldable pub lifecycle_of : Data → Option Lifecycle
lifecycle_of body =
    if has_no_other (codes "data_retention" ∷ codes "downsampling" ∷ []) body
    then life_with (retention_in (get (codes "data_retention") body)) (rounds_if_any (get (codes "downsampling") body)) else None
