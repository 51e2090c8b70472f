use Rattle.std.proofs.Common.{◌≡◌, ◌++◌, drop}
use Rattle.std.specs.List.{flat_map}
use Rattle.row_cells.specs.Dimensions.{text_bytes}
use Rattle.column_block.specs.Spelling.{table_bytes}
use Rattle.column_block.proofs.table.spell_table.Given as goal

abbrev pub invariant-loop-text : goal.invariant-loop-text
invariant-loop-text l = l.bytes.items ++ flat_map text_bytes (drop l.text-index l.texts) ≡ table_bytes l.texts
