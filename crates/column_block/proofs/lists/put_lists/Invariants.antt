use Rattle.std.proofs.Common.{◌≡◌, ◌++◌, ℕ, List, take}
use Rattle.packed_lists.specs.Nums.{AreNums}
use Rattle.packed_lists.specs.Decoded.{ArePlaced}
use Rattle.column_block.proofs.lists.put_lists.Given as goal

abbrev pub invariant-loop-list : goal.invariant-loop-list
invariant-loop-list l = record {
  spelled : (rest : List ℕ) × AreNums (take l.list-index l.lists) rest × (l.into.items ≡ l.fn.into.items ++ rest);
  placed : ArePlaced l.into.items l.places.items (take l.list-index l.lists);
}
