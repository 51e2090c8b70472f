use Rattle.std.proofs.Common.{◌↔◌, drop}
use Rattle.packed_lists.specs.Packing.{EachLies}
use Rattle.probe_columns.proofs.turns.each_lies.Given as goal

abbrev pub invariant-loop-turn : goal.invariant-loop-turn
invariant-loop-turn l = EachLies l.lists l.turns ↔ EachLies l.lists (drop l.turn-index l.turns)
