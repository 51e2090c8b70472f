-- Which lifecycles there are.
use Rattle.std.specs.Prelude.{◌≡◌, Bool, true, ◌&&◌, nat_le, nat_lt, List, [], ◌∷◌, length, Some}
use Rattle.std.specs.Option.{is_none}
use Rattle.time_text.specs.Interval.{ms_of}
use Rattle.downsample_fold.specs.Intervals.{interval_fault}
use Rattle.lifecycle_swap.specs.declared.lifecycles.Round.{Round}
use Rattle.lifecycle_swap.specs.Limits.{most_rounds}
use Rattle.lifecycle_swap.specs.declared.lifecycles.Lifecycle.{Lifecycle}

-- a round may follow another: it comes later, and its interval is a strictly greater multiple
abbrev pub may_follow : Round → Round → Bool
may_follow first next = nat_lt (ms_of first.after) (ms_of next.after) && is_none (interval_fault (Some first.by) next.by)

abbrev pub follow_after : Round → List Round → Bool
follow_after first [] = true
follow_after first (next ∷ rest) = may_follow first next && follow_after next rest

abbrev pub follow : List Round → Bool
follow [] = true
follow (first ∷ rest) = follow_after first rest

-- no more rounds than there may be, each of which may follow the one before
abbrev pub is_lifecycle : Lifecycle → Bool
is_lifecycle life = nat_le (length life.rounds) most_rounds && follow life.rounds

abbrev pub IsLifecycle : Lifecycle → Type 0
IsLifecycle life = is_lifecycle life ≡ true
