use Rattle.row_cells.specs.KeyedLaws.{same_key_same_dimensions}
use Rattle.series_id.proofs.keys.keys_tell_cells.Goals as goal

pub returns : goal.returns
returns c = λ schema a b mapped are_a are_b same. same_key_same_dimensions schema a b mapped are_a are_b same
