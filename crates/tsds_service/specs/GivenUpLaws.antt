-- A request that is given up leaves of what is seen what is seen of the machine that it leaves.
use Rattle.std.specs.Prelude.{◌≡◌, ℕ, ℤ}
use Rattle.rest_request.specs.Asked.{IsAsked}
use Rattle.rest_request.specs.Message.{Message}
use Rattle.stream_catalog.specs.Ways.{plain_way, seen_way}
use Rattle.time_text.specs.Instant.{IsInstant}
use Rattle.tsds_service.specs.GivenUp.{given_up}
use Rattle.tsds_service.specs.Machine.{Machine, see, IsSound, IsSeen}

abbrev pub GivenUpRefine : Type 0
GivenUpRefine = (m : Machine) (message : Message) (now : ℤ) (k : ℕ) → IsSound m → given_up seen_way (see m) message now k ≡ see (given_up plain_way m message now k)

-- what code holds stands for itself too
abbrev pub GivenUpStand : Type 0
GivenUpStand = (m : Machine) (message : Message) (now : ℤ) (k : ℕ) → IsSeen m → given_up seen_way m message now k ≡ see (given_up plain_way m message now k)

-- a request that was read, at an instant, leaves a sound machine sound wherever it is given up
abbrev pub GivenUpKeepSound : Type 0
GivenUpKeepSound = (m : Machine) (message : Message) (now : ℤ) (k : ℕ) → IsSound m → IsAsked message → IsInstant now → IsSound (given_up plain_way m message now k)

abbrev pub GivenUpKeepSeen : Type 0
GivenUpKeepSeen = (m : Machine) (message : Message) (now : ℤ) (k : ℕ) → IsSeen m → IsAsked message → IsInstant now → IsSeen (given_up seen_way m message now k)
