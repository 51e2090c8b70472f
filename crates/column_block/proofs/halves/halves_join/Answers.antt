use Rattle.column_block.specs.HalfLaws.{joined, low-again}
use Rattle.column_block.proofs.halves.halves_join.Goals as goal

pub returns-clause-joined : goal.returns-clause-joined
returns-clause-joined c = joined

pub returns-clause-low : goal.returns-clause-low
returns-clause-low c = low-again
