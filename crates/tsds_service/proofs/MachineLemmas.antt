-- What is seen of a machine is seen again itself.
use Rattle.std.proofs.Common.{ap}
use Rattle.stream_catalog.specs.Laws.{NamesKeep, SeenAgain}
use Rattle.stream_catalog.specs.Plain.{PlainCatalog}
use Rattle.tsds_service.specs.Laws.{MachinesSeenAgain}

pub machine_seen : SeenAgain → NamesKeep → MachinesSeenAgain
machine_seen again names m sound =
    let seen = again m.catalog sound.catalog in
    record { sound = record { catalog = seen.sound; now = sound.now; names = names.seen m.catalog sound.names }; again = ap (λ (c : PlainCatalog). record m { catalog = c }) seen.again }
