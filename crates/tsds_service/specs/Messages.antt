-- What a machine does with a message: its step, or the reply to a refused reading, and then a unit. What a moment line does.
use Rattle.std.specs.Prelude.{ℕ, ℤ, int_le, Bool, false, List, Option, Some, None, Result, Ok, Err, if◌then◌else◌}
use Rattle.rest_request.specs.Message.{Message}
use Rattle.rest_request.specs.Table.{request_of}
use Rattle.stream_catalog.specs.Ways.{Way}
use Rattle.time_text.specs.Instant.{instant_of}
use Rattle.tsds_service.specs.Caused.{with_cause}
use Rattle.tsds_service.specs.CausedLaws.{requests_caused}
use Rattle.tsds_service.specs.Causes.{refused, request_cause}
use Rattle.tsds_service.specs.declared.causes.Cause.{Cause}
use Rattle.tsds_service.specs.declared.causes.Cause.TheVariants.{BadMoment}
use Rattle.tsds_service.specs.Machine.{Machine, see, unit}
use Rattle.tsds_service.specs.Questions.{Searching}
use Rattle.tsds_service.specs.Requests.{Stepped, step}
use Rattle.tsds_service.specs.declared.moments.MomentTold.{MomentTold}
use Rattle.tsds_service.specs.declared.reply.Reply.{Reply}

-- the reply, the machine right after the step, the machine after its unit, and whether the stepped machine's records were written
pub record Told : Type 0 where
  pub reply : Reply
  pub stepped : Machine
  pub after : Machine
  pub wrote : Bool

abbrev pub see_told : Told → Told
see_told t = record t { stepped = see t.stepped; after = see t.after }

-- a step, and its unit
abbrev pub with_unit : Way → Stepped → Told
with_unit way s = record { reply = s.reply; stepped = s.machine; after = unit way s.machine; wrote = s.wrote }

-- the request that a message is, or why it is none
abbrev pub reading_of : List ℕ → List ℕ → List ℕ → Result Message Cause
reading_of method target body = with_cause request_cause (request_of method target body) (requests_caused method target body)

-- a reading that is refused leaves the moment as it was
abbrev pub by_reading : Searching → Way → Machine → ℤ → Result Message Cause → Told
by_reading searching way m now (Ok message) = with_unit way (step searching way m message now)
by_reading searching way m now (Err cause) = record { reply = refused cause; stepped = m; after = unit way m; wrote = false }

unfoldable pub message_told : Searching → Way → Machine → ℤ → List ℕ → List ℕ → List ℕ → Told
message_told searching way m now method target body = by_reading searching way m now (reading_of method target body)

-- ---- moment lines

abbrev pub moment_kept : ℤ → MomentTold
moment_kept now = record { reply = Some (refused BadMoment); now = now }

abbrev pub moment_by : ℤ → Option ℤ → MomentTold
moment_by now None = moment_kept now
moment_by now (Some next) = if int_le now next then record { reply = None; now = next } else moment_kept now

-- what the line says becomes the present, where it is an instant and not earlier
abbrev pub moment_told : ℤ → List ℕ → MomentTold
moment_told now text = moment_by now (instant_of text)
