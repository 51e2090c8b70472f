use Rattle.std.proofs.Common.{List}
use Rattle.column_block.specs.declared.kinds.Values.{Values}
use Rattle.index_segment.specs.Parts.{AreColumnsOf}
use Rattle.index_segment.specs.Spelling.{AreColumns}
use Rattle.index_segment.proofs.Left.{ColumnsLeft}
use Rattle.index_segment.proofs.pieces.read_columns.Given as goal

abbrev pub invariant-loop-kind : goal.invariant-loop-kind
invariant-loop-kind l = (columns : List Values) → AreColumnsOf l.kinds l.rows columns → AreColumns columns l.bytes → ColumnsLeft l.kinds l.kind-index l.rows l.columns.items columns l.rest
