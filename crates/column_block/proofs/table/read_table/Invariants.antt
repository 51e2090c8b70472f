use Rattle.std.proofs.Common.{◌≡◌, ◌++◌, length}
use Rattle.std.specs.List.{flat_map}
use Rattle.row_cells.specs.Dimensions.{text_bytes}
use Rattle.column_block.specs.Worded.{AreTexts}
use Rattle.column_block.proofs.table.read_table.Given as goal

abbrev pub invariant-loop : goal.invariant-loop
invariant-loop l = record {
  texts : AreTexts l.texts.items;
  spelled : l.initial.rest ≡ flat_map text_bytes l.texts.items ++ l.rest;
  count : length l.texts.items ≡ l.counter;
}
