use Rattle.index_segment.proofs.Alike.{one_segment}
use Rattle.index_segment.proofs.Told.{one_rows}
use Rattle.index_segment.proofs.laws.bytes_tell_rows.Goals as goal

pub returns-clause-rows : goal.returns-clause-rows
returns-clause-rows c schema r s bytes mapped is other =
    one_rows c.one_value.ensures.column schema r s bytes mapped is other

pub returns-clause-bytes : goal.returns-clause-bytes
returns-clause-bytes c schema rows a b is other =
    one_segment c.one_spelling.ensures.column schema rows a b is other
