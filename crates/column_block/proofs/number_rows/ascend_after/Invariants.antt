use Rattle.std.proofs.Common.{drop}
use Rattle.std.specs.Prelude.{◌↔◌}
use Rattle.column_block.specs.Rules.{AscendAfter}
use Rattle.column_block.proofs.number_rows.ascend_after.Given as goal

abbrev pub invariant-loop-number : goal.invariant-loop-number
invariant-loop-number l = AscendAfter l.low l.numbers ↔ AscendAfter l.last (drop l.number-index l.numbers)
