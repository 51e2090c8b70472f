use Rattle.std.proofs.Common.{◌≡◌, drop}
use Rattle.std.specs.Prelude.{◌||◌}
use Rattle.column_pack.specs.Block.{rises_after, falls_after}
use Rattle.column_pack.proofs.scan.turns_after.Given as goal

abbrev pub invariant-loop-number : goal.invariant-loop-number
invariant-loop-number l = record {
  up : (l.rises || rises_after l.before (drop l.number-index l.numbers)) ≡ rises_after l.fn.first l.numbers;
  down : (l.falls || falls_after l.before (drop l.number-index l.numbers)) ≡ falls_after l.fn.first l.numbers;
}
