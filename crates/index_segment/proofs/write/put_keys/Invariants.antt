use Rattle.std.proofs.Common.{◌≡◌, ◌++◌, drop}
use Rattle.std.specs.List.{flat_map}
use Rattle.row_cells.specs.Dimensions.{text_bytes}
use Rattle.index_segment.proofs.write.put_keys.Given as goal

abbrev pub invariant-loop-key : goal.invariant-loop-key
invariant-loop-key l = l.into.items ++ flat_map text_bytes (drop l.key-index l.keys) ≡ l.initial.into.items ++ flat_map text_bytes l.keys
