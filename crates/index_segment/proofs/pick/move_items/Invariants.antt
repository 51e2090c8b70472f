use Rattle.std.proofs.Common.{◌≡◌, ◌++◌, take, drop, reverse}
use Rattle.index_segment.proofs.pick.move_items.Given as goal

abbrev pub invariant-loop-done : goal.invariant-loop-done
invariant-loop-done g l = record {
  from : reverse l.from ≡ drop l.done (reverse l.initial.from);
  into : l.into ≡ l.initial.into ++ take l.done (reverse l.initial.from);
}
