use Rattle.std.proofs.Common.{◌≡◌, ℕ, List, ◌++◌, length}
use Rattle.std.specs.List.{flat_map}
use Rattle.row_cells.specs.Each.{Each}
use Rattle.row_cells.specs.Dimensions.{IsKey, text_bytes}
use Rattle.index_segment.proofs.Left.{KeysLeft}
use Rattle.index_segment.proofs.pieces.read_keys.Given as goal

abbrev pub invariant-loop-number : goal.invariant-loop-number
invariant-loop-number l = (keys : List (List ℕ)) (rest : List ℕ) → Each IsKey keys → length keys ≡ l.count → l.bytes ≡ flat_map text_bytes keys ++ rest → KeysLeft l.count l.number l.keys.items keys rest l.rest
