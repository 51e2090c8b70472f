use Rattle.std.proofs.Common.{◌≡◌, ◌≤◌, take, length}
use Rattle.synthetic_source.proofs.strays.shared_front.Given as goal

abbrev pub invariant-loop-at : goal.invariant-loop-at
invariant-loop-at l = record {
  same : take l.at l.path ≡ take l.at l.other;
  held : l.at ≤ length l.other;
}
