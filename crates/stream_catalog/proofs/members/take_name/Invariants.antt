use Rattle.std.proofs.Common.{◌≡◌, ◌≤◌, bytes_eq, filter, length, not}
use Rattle.stream_catalog.specs.Places.{AllKept}
use Rattle.stream_catalog.proofs.members.take_name.Given as goal

abbrev pub invariant-loop-at : goal.invariant-loop-at
invariant-loop-at l = record {
  same : filter (λ n. not (bytes_eq n l.name)) l.names ≡ filter (λ n. not (bytes_eq n l.name)) l.initial.names;
  kept : AllKept (λ n. not (bytes_eq n l.name)) l.names l.at;
  within : l.at ≤ length l.names;
}
