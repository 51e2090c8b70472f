use Rattle.std.proofs.Common.{◌≡◌, ◌++◌, List, ℕ, take}
use Rattle.index_segment.specs.Spelling.{AreColumns}
use Rattle.index_segment.proofs.write.put_columns.Given as goal

abbrev pub invariant-loop-column : goal.invariant-loop-column
invariant-loop-column l = (back : List ℕ) × AreColumns (take l.column-index l.columns) back × (l.into.items ≡ l.initial.into.items ++ back)
