use Rattle.std.proofs.Common.{◌≡◌, ◌++◌, take}
use Rattle.packed_lists.specs.Packing.{picked}
use Rattle.packed_lists.proofs.picks.pick.Given as goal

abbrev pub invariant-loop-turn : goal.invariant-loop-turn
invariant-loop-turn l = record {
  same : l.lists ≡ l.initial.lists;
  numbers : l.into ≡ l.fn.into ++ picked l.fn.lists (take l.turn-index l.turns);
}
