use Rattle.std.specs.Prelude.{[]}
use Rattle.row_cells.specs.KeyLaws.{key_bytes_injective}
use Rattle.row_cells.proofs.spelling.keys_tell_dimensions.Goals as goal

pub returns : goal.returns
returns c = λ a b. key_bytes_injective [] [] a b
