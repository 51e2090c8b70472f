-- What comes to a machine, one thing after another, and what is replied.
use Rattle.std.specs.Prelude.{◌≤◌, ℕ, ℤ, Bool, true, false, List, [], ◌∷◌, length, Option, Some, None}
use Rattle.std.specs.Option.{option_map, option_or}
use Rattle.edge_face.specs.Limits.{body_limit}
use Rattle.rest_request.specs.Asked.{IsAsked}
use Rattle.rest_request.specs.Message.{Message}
use Rattle.stream_catalog.specs.Ways.{Way}
use Rattle.time_text.specs.Instant.{IsInstant}
use Rattle.tsds_service.specs.Machine.{Machine, see, unit}
use Rattle.tsds_service.specs.Messages.{Told, message_told, moment_told}
use Rattle.tsds_service.specs.declared.moments.MomentTold.{MomentTold}
use Rattle.tsds_service.specs.Questions.{Searching}
use Rattle.tsds_service.specs.Requests.{Stepped, step}
use Rattle.tsds_service.specs.declared.reply.Reply.{Reply}

pub data Turn : Type 0 where
  -- a request that is read, at a moment
  asks : Message → ℤ → Turn
  -- a request as a script has it, by method, target and body: at the present; a unit follows
  scripted : List ℕ → List ℕ → List ℕ → Turn
  -- a request as a link has it: at a moment of its own; a unit follows
  linked : List ℕ → List ℕ → List ℕ → ℤ → Turn
  -- a moment line of a script
  says : List ℕ → Turn
  -- a unit
  works : Turn

-- a machine, and the present beside it, which a step makes the machine's moment
pub record Dated : Type 0 where
  pub machine : Machine
  pub present : ℤ

-- where a run begins: at the machine's own moment
abbrev pub dated : Machine → Dated
dated m = record { machine = m; present = m.now }

abbrev pub see_dated : Dated → Dated
see_dated s = record s { machine = see s.machine }

-- the reply, if there is one; the machine whose records were written, if they were; and what is left
pub record Turned : Type 0 where
  pub reply : Option Reply
  pub written : Option Machine
  pub after : Dated

abbrev pub see_turned : Turned → Turned
see_turned t = record t { written = option_map see t.written; after = see_dated t.after }

-- ---- one turn

abbrev pub written_if : Bool → Machine → Option Machine
written_if true m = Some m
written_if false m = None

abbrev pub by_step : ℤ → Stepped → Turned
by_step now s = record { reply = Some s.reply; written = written_if s.wrote s.machine; after = record { machine = s.machine; present = now } }

abbrev pub by_message : ℤ → Told → Turned
by_message now t = record { reply = Some t.reply; written = written_if t.wrote t.stepped; after = record { machine = t.after; present = now } }

abbrev pub by_moment : Machine → MomentTold → Turned
by_moment m t = record { reply = t.reply; written = None; after = record { machine = m; present = t.now } }

abbrev pub turned : Searching → Way → Dated → Turn → Turned
turned searching way s (asks message now) = by_step now (step searching way s.machine message now)
turned searching way s (scripted method target body) = by_message s.present (message_told searching way s.machine s.present method target body)
turned searching way s (linked method target body now) = by_message now (message_told searching way s.machine now method target body)
turned searching way s (says text) = by_moment s.machine (moment_told s.present text)
turned searching way s works = record { reply = None; written = None; after = record s { machine = unit way s.machine } }

-- ---- many turns

abbrev pub reply_then : Option Reply → List Reply → List Reply
reply_then None rest = rest
reply_then (Some reply) rest = reply ∷ rest

abbrev pub all_replies : Searching → Way → Dated → List Turn → List Reply
all_replies searching way s [] = []
all_replies searching way s (t ∷ ts) = reply_then (turned searching way s t).reply (all_replies searching way (turned searching way s t).after ts)

-- what is left behind them
abbrev pub left_behind : Searching → Way → Dated → List Turn → Dated
left_behind searching way s [] = s
left_behind searching way s (t ∷ ts) = left_behind searching way (turned searching way s t).after ts

-- the machine whose records were written last, or what was written before
abbrev pub last_recorded : Searching → Way → Option Machine → Dated → List Turn → Option Machine
last_recorded searching way before s [] = before
last_recorded searching way before s (t ∷ ts) = last_recorded searching way (option_or (turned searching way s t).written before) (turned searching way s t).after ts

-- ---- which turns come

-- moments that come with requests are instants, and bodies are within their length
abbrev pub IsTurn : Turn → Type 0
IsTurn (asks message now) = IsAsked message × IsInstant now
IsTurn (scripted method target body) = length body ≤ body_limit
IsTurn (linked method target body now) = (length body ≤ body_limit) × IsInstant now
IsTurn (says text) = Unit {0}
IsTurn works = Unit {0}
