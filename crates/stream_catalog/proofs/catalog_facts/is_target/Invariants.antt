use Rattle.std.proofs.Common.{◌≡◌, drop, map}
use Rattle.std.specs.Prelude.{bytes_eq}
use Rattle.std.specs.List.{list_any}
use Rattle.stream_catalog.proofs.catalog_facts.is_target.Given as goal

abbrev pub invariant-loop-task : goal.invariant-loop-task
invariant-loop-task l = list_any (bytes_eq l.name) (map (λ t. t.target) (drop l.task-index l.tasks)) ≡ list_any (bytes_eq l.name) (map (λ t. t.target) l.tasks)
