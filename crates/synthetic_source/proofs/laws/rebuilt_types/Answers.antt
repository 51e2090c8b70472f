use Rattle.synthetic_source.proofs.Back.{rebuilt_types, rebuilt_settles}
use Rattle.synthetic_source.proofs.laws.rebuilt_types.Goals as goal

pub returns-clause-types : goal.returns-clause-types
returns-clause-types c = rebuilt_types

pub returns-clause-settles : goal.returns-clause-settles
returns-clause-settles c = rebuilt_settles
