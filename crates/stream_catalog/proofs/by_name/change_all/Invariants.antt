use Rattle.std.proofs.Common.{◌≡◌, ◌++◌, map, take, drop}
use Rattle.stream_catalog.proofs.by_name.change_all.Given as goal

abbrev pub invariant-loop-at : goal.invariant-loop-at
invariant-loop-at g l = l.items.items ≡ map (g.C.EachChange.each_changed l.change) (take l.at l.initial.items.items) ++ drop l.at l.initial.items.items
