use Rattle.std.proofs.Common.{◌≡◌, ◌*◌, take}
use Rattle.column_pack.specs.Summary.{total_of}
use Rattle.packed_lists.proofs.number_list.NumberList.sum.Given as goal

abbrev pub invariant-loop-block : goal.invariant-loop-block
invariant-loop-block l = l.total ≡ total_of (take (128 * l.block) l.self)
