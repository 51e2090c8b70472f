use Rattle.std.proofs.Common.{◌-◌, ◌≡◌, ◌≤◌, ◌++◌, length, take}
use Rattle.packed_lists.proofs.packer.Packer.extend.Given as goal

abbrev pub invariant-loop-done : goal.invariant-loop-done
invariant-loop-done l = record {
  within : l.done ≤ length l.values;
  numbers : l.self ≡ l.initial.self ++ take l.done l.values;
}

abbrev pub decreases-loop-done : goal.decreases-loop-done
decreases-loop-done l = length l.values - l.done
