use Rattle.std.proofs.Common.{◌≡◌, ◌++◌, drop}
use Rattle.std.specs.List.{filter_map}
use Rattle.lifecycle_swap.specs.Plan.{extension}
use Rattle.lifecycle_swap.proofs.planning.note_extensions.Given as goal

-- what was noted, before what the rest asks for, is what all ask for
abbrev pub invariant-loop-facts : goal.invariant-loop-facts
invariant-loop-facts l = l.steps.items ++ filter_map (extension l.now l.look_ahead) (drop l.facts-index l.facts) ≡ l.initial.steps.items ++ filter_map (extension l.now l.look_ahead) l.facts
