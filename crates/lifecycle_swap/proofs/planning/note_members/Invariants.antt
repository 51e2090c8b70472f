use Rattle.std.proofs.Common.{◌≡◌, ◌++◌, drop}
use Rattle.std.specs.List.{filter_map}
use Rattle.lifecycle_swap.specs.Plan.{member_step}
use Rattle.lifecycle_swap.proofs.planning.note_members.Given as goal

-- what was noted, before what the rest asks for, is what all ask for
abbrev pub invariant-loop-facts : goal.invariant-loop-facts
invariant-loop-facts l = l.steps.items ++ filter_map (member_step l.now l.life) (drop l.facts-index l.facts) ≡ l.initial.steps.items ++ filter_map (member_step l.now l.life) l.facts
