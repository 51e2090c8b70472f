use Rattle.std.proofs.Common.{◌≡◌, ◌++◌, ℤ, List, length, take}
use Rattle.column_block.specs.Worded.{AreMarked}
use Rattle.column_block.proofs.ordinals.mark.Given as goal

abbrev pub invariant-loop-place : goal.invariant-loop-place
invariant-loop-place l = record {
  long : length l.seen.items ≡ length l.initial.seen.items;
  marked : (numbers : List ℤ) → AreMarked numbers l.initial.seen.items → AreMarked (numbers ++ take l.place-index l.row) l.seen.items;
}
