use Rattle.index_names.specs.NameLaws.{backing_is_index, stream_is_target, target_is_index}
use Rattle.index_names.proofs.laws.names_of_indices.Goals as goal

pub returns-clause-streams : goal.returns-clause-streams
returns-clause-streams c = stream_is_target

pub returns-clause-targets : goal.returns-clause-targets
returns-clause-targets c = target_is_index

pub returns-clause-backing : goal.returns-clause-backing
returns-clause-backing c = backing_is_index
