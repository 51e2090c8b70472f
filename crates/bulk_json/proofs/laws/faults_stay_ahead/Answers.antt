use Rattle.std.proofs.Common.{Ok, Err, refl}
use Rattle.bulk_json.specs.Laws.{FaultsStayAhead}
use Rattle.bulk_json.proofs.laws.faults_stay_ahead.Goals as goal

onto_faults : FaultsStayAhead
onto_faults items (Ok others) = refl
onto_faults items (Err e) = refl

pub returns : goal.returns
returns c = onto_faults
