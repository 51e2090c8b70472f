-- What code holds is told as the plain machine that begins as it.
use Rattle.std.specs.Prelude.{◌≡◌, ◌≤◌, ℕ, ℤ, List, length}
use Rattle.edge_face.specs.Limits.{body_limit}
use Rattle.stream_catalog.specs.Ways.{plain_way, seen_way}
use Rattle.time_text.specs.Instant.{IsInstant}
use Rattle.tsds_service.specs.Laws.{IsSoundDated, IsSeenDated}
use Rattle.tsds_service.specs.Machine.{Machine, IsSound, IsSeen}
use Rattle.tsds_service.specs.Messages.{see_told, message_told}
use Rattle.tsds_service.specs.Questions.{Searching}
use Rattle.tsds_service.specs.Turns.{dated}

-- The reply to a message is that of the plain machine; what is held right after its step, and behind its unit, is what is seen of
-- what that one leaves, and so again what code holds.
pub record MessageStands (searching : Searching) (m : Machine) (now : ℤ) (method target body : List ℕ) : Type 0 where
  pub told : message_told searching seen_way m now method target body ≡ see_told (message_told searching plain_way m now method target body)
  pub stepped : IsSeen (message_told searching seen_way m now method target body).stepped
  pub after : IsSeen (message_told searching seen_way m now method target body).after

abbrev pub MessagesStand : Type 0
MessagesStand = (searching : Searching) (m : Machine) (now : ℤ) (method target body : List ℕ) → IsSeen m → IsInstant now → length body ≤ body_limit → MessageStands searching m now method target body

-- a run begins soundly
pub record RunsBegin : Type 0 where
  pub sound : (m : Machine) → IsSound m → IsSoundDated (dated m)
  pub seen : (m : Machine) → IsSeen m → IsSeenDated (dated m)
