use Rattle.std.proofs.Common.{◌≡◌, drop}
use Rattle.std.specs.List.{list_any}
use Rattle.index_names.specs.Patterns.{pattern_takes}
use Rattle.stream_catalog.proofs.choosing.matches.Given as goal

abbrev pub invariant-loop-pattern : goal.invariant-loop-pattern
invariant-loop-pattern l = list_any (λ p. pattern_takes p l.name) (drop l.pattern-index l.pattern-items) ≡ list_any (λ p. pattern_takes p l.name) l.pattern-items
