-- What a lifecycle run does with the members of one stream.
use Rattle.std.specs.Prelude.{ℤ, pos, ◌-ℤ◌, int_le, int_lt, Bool, not, true, false, ◌&&◌, ◌||◌, List, [], ◌∷◌, ◌++◌, if◌then◌else◌, Option, Some, None}
use Rattle.std.specs.List.{filter_map}
use Rattle.std.specs.Option.{is_none, option_or}
use Rattle.time_text.specs.declared.intervals.Interval.{Interval}
use Rattle.time_text.specs.Interval.{ms_of}
use Rattle.downsample_fold.specs.Intervals.{interval_fault}
use Rattle.lifecycle_swap.specs.declared.lifecycles.Round.{Round}
use Rattle.lifecycle_swap.specs.declared.lifecycles.Lifecycle.{Lifecycle}
use Rattle.lifecycle_swap.specs.declared.planning.IndexFacts.{IndexFacts}
use Rattle.lifecycle_swap.specs.declared.planning.Step.{Step}
use Rattle.lifecycle_swap.specs.declared.planning.Step.TheVariants.{Extend, Delete, Start}
use Rattle.lifecycle_swap.specs.Ends.{end_after}

abbrev pub if_so : Bool → Step → Option Step
if_so true step = Some step
if_so false step = None

-- the write index's window ends as far ahead as the template looks, where it ended sooner
abbrev pub extension : ℤ → ℤ → IndexFacts → Option Step
extension now look_ahead f =
    if_so (f.write && int_lt f.end (end_after now look_ahead)) (Extend f.index (end_after now look_ahead))

-- an age is at least as long as an interval
abbrev pub is_aged : Interval → ℤ → Bool
is_aged length age = int_le (pos (ms_of length)) age

-- without a retention nothing is ever too old
abbrev pub is_over : Option Interval → ℤ → Bool
is_over None age = false
is_over (Some retention) age = is_aged retention age

-- the last round whose time has come
abbrev pub round_at : List Round → ℤ → Option Round
round_at [] age = None
round_at (r ∷ rs) age = option_or (round_at rs age) (if is_aged r.after age then Some r else None)

-- a round folds a member that isn't being folded, and that may be folded by its interval
abbrev pub start_step : IndexFacts → Option Round → Option Step
start_step f None = None
start_step f (Some r) = if_so (not f.busy && is_none (interval_fault f.interval r.by)) (Start f.index r.by)

-- what a member's age asks for: that it goes where it is too old, else the last round that has come
abbrev pub aged_step : Lifecycle → IndexFacts → ℤ → Option Step
aged_step life f age = if is_over life.retention age then Some (Delete f.index) else start_step f (round_at life.rounds age)

-- of the members that aren't the write index those whose windows have ended are looked at
abbrev pub member_step : ℤ → Lifecycle → IndexFacts → Option Step
member_step now life f = if f.write || int_lt now f.end then None else aged_step life f (now -ℤ f.end)

abbrev pub member_steps : ℤ → Option Lifecycle → List IndexFacts → List Step
member_steps now None facts = []
member_steps now (Some life) facts = filter_map (member_step now life) facts

-- the write index first, and then, in a stream with a lifecycle, each other member in turn
abbrev pub plan_of : ℤ → ℤ → Option Lifecycle → List IndexFacts → List Step
plan_of now look_ahead life facts = filter_map (extension now look_ahead) facts ++ member_steps now life facts
