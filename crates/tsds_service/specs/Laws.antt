-- What is seen of a machine answers as the machine.
use Rattle.std.specs.Prelude.{◌≡◌, ◌≤◌, ℕ, ℤ, Bool, List, length, Option, None, Some, map}
use Rattle.std.specs.Option.{option_map}
use Rattle.bulk_json.specs.Items.{bulk_of}
use Rattle.edge_face.specs.Limits.{body_limit}
use Rattle.rest_request.specs.Asked.{IsAsked}
use Rattle.rest_request.specs.Message.{Message}
use Rattle.rest_request.specs.Table.{request_of}
use Rattle.row_cells.specs.Each.{Each}
use Rattle.row_cells.specs.Joining.{FieldsAgree}
use Rattle.row_cells.specs.declared.rows.Cell.{Cell}
use Rattle.row_cells.specs.declared.schemas.Schema.{Schema}
use Rattle.series_id.specs.Keys.{keyed}
use Rattle.stream_catalog.specs.Plain.{PlainIndex}
use Rattle.stream_catalog.specs.Ways.{plain_way, seen_way, see_index}
use Rattle.time_text.specs.Instant.{IsInstant}
use Rattle.tsds_service.specs.Bulk.{key_of, items_of}
use Rattle.tsds_service.specs.CausedLaws.{IsSameWithCauses}
use Rattle.tsds_service.specs.Causes.{request_cause, bulk_cause, key_cause}
use Rattle.tsds_service.specs.Machine.{Machine, empty_machine, see, unit, units, IsSound, IsSeen}
use Rattle.tsds_service.specs.Messages.{see_told, reading_of, message_told, moment_told}
use Rattle.tsds_service.specs.Questions.{Searching, samples_of, target_of}
use Rattle.tsds_service.specs.Requests.{see_stepped, step}
use Rattle.tsds_service.specs.Turns.{Turn, Dated, see_dated, all_replies, left_behind, last_recorded, IsTurn}

-- what is seen of a sound machine is sound, and seen again itself
abbrev pub MachinesSeenAgain : Type 0
MachinesSeenAgain = (m : Machine) → IsSound m → IsSeen (see m)

-- the rows offered of what is seen are those offered of all rows, so whatever is read from them is the same
abbrev pub SamplesStay : Type 0
SamplesStay = (is : List PlainIndex) → samples_of seen_way (map see_index is) ≡ samples_of plain_way is

-- the step of what is seen is what is seen of the step, with the same reply, however questions are answered
abbrev pub StepsRefine : Type 0
StepsRefine = (searching : Searching) (m : Machine) (message : Message) (now : ℤ) → IsSound m → step searching seen_way (see m) message now ≡ see_stepped (step searching plain_way m message now)

abbrev pub UnitsRefine : Type 0
UnitsRefine = (m : Machine) → IsSound m → unit seen_way (see m) ≡ see (unit plain_way m)

-- what code holds stands for itself too: its step is what is seen of the plain step, and so is its unit
abbrev pub StepsStand : Type 0
StepsStand = (searching : Searching) (m : Machine) (message : Message) (now : ℤ) → IsSeen m → step searching seen_way m message now ≡ see_stepped (step searching plain_way m message now)

abbrev pub UnitsStand : Type 0
UnitsStand = (m : Machine) → IsSeen m → unit seen_way m ≡ see (unit plain_way m)

-- the indices that a name stands for map no path in two ways, so that their fields join
abbrev pub TargetsAgree : Type 0
TargetsAgree = (m : Machine) (name : List ℕ) (is : List PlainIndex) → IsSound m → target_of m.catalog name ≡ Some is →
    Each (λ i. Each (λ j. FieldsAgree i.facts.mapping.schema.fields j.facts.mapping.schema.fields) is) is

-- ---- causes

-- What requests are told of readings, bulk bodies and keys is what the layers below answer, with causes in the place of errors; and
-- no definition of theirs refuses without one, as for want of memory.
pub record CausesStand : Type 0 where
  pub requests : (method target body : List ℕ) → IsSameWithCauses request_cause (request_of method target body) (reading_of method target body)
  pub bulks : (path : Option (List ℕ)) (body : List ℕ) → IsSameWithCauses bulk_cause (bulk_of path body) (items_of path body)
  pub keys : (schema : Schema) (cells : List Cell) → IsSameWithCauses key_cause (keyed schema cells) (key_of schema cells)

-- ---- machines stay sound

-- what a machine begins as is sound and seen again itself
abbrev pub EmptyIsSeen : Type 0
EmptyIsSeen = (kept : Bool) → IsSeen (empty_machine kept)

abbrev pub OneUnitKeepsSound : Type 0
OneUnitKeepsSound = (m : Machine) → IsSound m → IsSound (unit plain_way m)

abbrev pub OneUnitKeepsSeen : Type 0
OneUnitKeepsSeen = (m : Machine) → IsSeen m → IsSeen (unit seen_way m)

-- the same of any number of units
abbrev pub ManyUnitsKeepSound : Type 0
ManyUnitsKeepSound = (n : ℕ) (m : Machine) → IsSound m → IsSound (units plain_way n m)

abbrev pub ManyUnitsKeepSeen : Type 0
ManyUnitsKeepSeen = (n : ℕ) (m : Machine) → IsSeen m → IsSeen (units seen_way n m)

abbrev pub ManyUnitsRefine : Type 0
ManyUnitsRefine = (n : ℕ) (m : Machine) → IsSound m → units seen_way n (see m) ≡ see (units plain_way n m)

abbrev pub ManyUnitsStand : Type 0
ManyUnitsStand = (n : ℕ) (m : Machine) → IsSeen m → units seen_way n m ≡ see (units plain_way n m)

-- a request that is read, at an instant, leaves a sound machine sound
abbrev pub StepsKeepSound : Type 0
StepsKeepSound = (searching : Searching) (m : Machine) (message : Message) (now : ℤ) → IsSound m → IsAsked message → IsInstant now → IsSound (step searching plain_way m message now).machine

abbrev pub StepsKeepSeen : Type 0
StepsKeepSeen = (searching : Searching) (m : Machine) (message : Message) (now : ℤ) → IsSeen m → IsAsked message → IsInstant now → IsSeen (step searching seen_way m message now).machine

-- ---- a message

-- what is seen of a machine is told what the machine is told, and its unit; both are left sound
pub record MessageAlike (searching : Searching) (m : Machine) (now : ℤ) (method target body : List ℕ) : Type 0 where
  pub told : message_told searching seen_way (see m) now method target body ≡ see_told (message_told searching plain_way m now method target body)
  pub stepped : IsSound (message_told searching plain_way m now method target body).stepped
  pub after : IsSound (message_told searching plain_way m now method target body).after

abbrev pub MessagesRefine : Type 0
MessagesRefine = (searching : Searching) (m : Machine) (now : ℤ) (method target body : List ℕ) → IsSound m → IsInstant now → length body ≤ body_limit → MessageAlike searching m now method target body

-- a moment line leaves an instant
abbrev pub MomentsAreInstants : Type 0
MomentsAreInstants = (now : ℤ) (text : List ℕ) → IsInstant now → IsInstant (moment_told now text).now

-- ---- any list of requests, moment lines and units

pub record IsSoundDated (s : Dated) : Type 0 where
  pub machine : IsSound s.machine
  pub present : IsInstant s.present

-- what the code holds between two turns
pub record IsSeenDated (s : Dated) : Type 0 where
  pub machine : IsSeen s.machine
  pub present : IsInstant s.present

-- the machine whose records were written, if there is one, is sound; or what the code holds
abbrev pub IsSoundWritten : Option Machine → Type 0
IsSoundWritten None = Unit {0}
IsSoundWritten (Some m) = IsSound m

abbrev pub IsSeenWritten : Option Machine → Type 0
IsSeenWritten None = Unit {0}
IsSeenWritten (Some m) = IsSeen m

-- what is seen replies what the plain machine replies, is left as what is seen of it, and writes the records of what is seen of
-- the machine whose records it writes; and both machines are sound, the one that is left and the one that is written
pub record TurnAlike (searching : Searching) (s : Dated) (ts : List Turn) (before : Option Machine) : Type 0 where
  pub replies : all_replies searching seen_way (see_dated s) ts ≡ all_replies searching plain_way s ts
  pub left : left_behind searching seen_way (see_dated s) ts ≡ see_dated (left_behind searching plain_way s ts)
  pub written : last_recorded searching seen_way (option_map see before) (see_dated s) ts ≡ option_map see (last_recorded searching plain_way before s ts)
  pub sound : IsSoundDated (left_behind searching plain_way s ts)
  pub records : IsSoundWritten before → IsSoundWritten (last_recorded searching plain_way before s ts)

abbrev pub TurnsRefine : Type 0
TurnsRefine = (searching : Searching) (s : Dated) (ts : List Turn) (before : Option Machine) → IsSoundDated s → Each IsTurn ts → TurnAlike searching s ts before

-- what the code holds replies as the plain machine that begins as it, and is left and written as what is seen of that one
pub record TurnStands (searching : Searching) (s : Dated) (ts : List Turn) (before : Option Machine) : Type 0 where
  pub replies : all_replies searching seen_way s ts ≡ all_replies searching plain_way s ts
  pub left : left_behind searching seen_way s ts ≡ see_dated (left_behind searching plain_way s ts)
  pub written : last_recorded searching seen_way before s ts ≡ option_map see (last_recorded searching plain_way before s ts)
  pub seen : IsSeenDated (left_behind searching seen_way s ts)
  pub records : IsSeenWritten (last_recorded searching seen_way before s ts)

abbrev pub TurnsStand : Type 0
TurnsStand = (searching : Searching) (s : Dated) (ts : List Turn) (before : Option Machine) → IsSeenDated s → IsSeenWritten before → Each IsTurn ts → TurnStands searching s ts before
