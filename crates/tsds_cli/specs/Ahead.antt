-- What a script that is being read has ahead, and what calls took of it.
use Rattle.std.specs.Prelude.{◌≡◌, ◌≤◌, ℕ, List, [], ◌∷◌, ◌++◌, length, Bool, true, false, map, Option}
use Rattle.edge_face.specs.Contents.{preceded}
use Rattle.edge_face.specs.Limits.{line_limit}
use Rattle.edge_face.specs.Lines.{pieces_of, line_of, HasNoNewline}
use Rattle.edge_face.specs.Reading.{Reading, left_of}
use Rattle.tsds_cli.specs.Script.{Event}
use Rattle.tsds_cli.specs.declared.script.Heard.{Heard}
use Rattle.tsds_cli.specs.declared.script.Opening.{Opening}
use Rattle.tsds_cli.specs.declared.script.Opening.TheVariants.{Moment, Request}
use Rattle.tsds_cli.specs.declared.errors.RunError.{RunError}
use Rattle.tsds_cli.specs.declared.errors.RunError.TheVariants.{Read, Write, Store, TooLong, NoMemory}
use Rattle.tsds_cli.specs.Script as Script
use Rattle.tsds_cli.specs.Script.{Place, between, within, whole_lines, events_from, closed_from}
use Rattle.tsds_cli.specs.Limits.{long_from, fine_from, passed_from}

-- the events that are still to come, those before a length is passed, and whether one is
pub record Ahead : Type 0 where
  pub events : List Event
  pub fine : List Event
  pub long : Bool

abbrev pub ahead_in : Place → ℕ → List (List ℕ) → Ahead
ahead_in place before pieces = record { events = events_from place (map line_of pieces); fine = fine_from place before pieces; long = long_from place before pieces }

-- the same behind some events more
abbrev pub behind : List Event → Ahead → Ahead
behind events ahead = record { events = events ++ ahead.events; fine = events ++ ahead.fine; long = ahead.long }

-- bytes lead from one place to another and close these events, whatever follows them
abbrev pub Closes : Place → List Event → Place → List ℕ → Type 0
Closes place events to gone = (more : List ℕ) → closed_from place (whole_lines (gone ++ more)) ≡ events ++ closed_from to (whole_lines more)

-- no length is passed in these bytes, where so many were before them and so many are with them, whatever follows
abbrev pub Holds : Place → ℕ → Place → ℕ → List ℕ → Type 0
Holds place before to now gone = (more : List ℕ) → passed_from place before (pieces_of (gone ++ more)) ≡ passed_from to now (pieces_of more)

-- with these bytes behind them, what lies ahead from one place is these events and what lies ahead from the other
abbrev pub Leads : Place → List Event → ℕ → Place → ℕ → List ℕ → List ℕ → Type 0
Leads place events before to now gone more = ahead_in place before (pieces_of (gone ++ more)) ≡ behind events (ahead_in to now (pieces_of more))

-- what a reader and its source may have left: any bytes, and once the source has ended those that wait, and no more
abbrev pub MayBeLeft : Reading → List ℕ → Type 0
MayBeLeft reader bytes = reader.ended ≡ true → bytes ≡ reader.pending

-- a reader went over bytes that lead from one place to another, and these events are closed in them. From a source that has ended it
-- takes nothing
pub record Passed (place : Place) (events : List Event) (to : Place) (before after : Reading) (old new : Option (List ℕ)) : Type 0 where
  pub gone : List ℕ
  pub moved : left_of before old ≡ preceded gone (left_of after new)
  pub closed : after.ended ≡ false → Closes place events to gone
  pub short : after.ended ≡ false → Holds place before.answered to after.answered gone
  pub leads : (more : List ℕ) → MayBeLeft after more → Leads place events before.answered to after.answered gone more
  pub waited : before.ended ≡ true → before.pending ≡ gone ++ after.pending
  pub still : after.ended ≡ false → before.ended ≡ false
  pub counted : before.answered ≤ after.answered

-- the script is at its end
pub record IsAtEnd (from place : Place) (before after : Reading) (old new : Option (List ℕ)) : Type 0 where
  pub passed : Passed from [] place before after old new
  pub ended : after.ended ≡ true
  pub nothing : after.pending ≡ []

-- no event comes before a length is passed
abbrev pub PassesHere : Ahead → Type 0
PassesHere ahead = (ahead.fine ≡ []) × (ahead.long ≡ true)

-- why no further event comes, where the reader stands at this place, whatever may be left
abbrev pub WhyStopped : RunError → Place → Reading → Type 0
WhyStopped Read place reader = HasNoNewline reader.pending × (reader.ended ≡ false) × (length reader.pending ≤ line_limit)
WhyStopped TooLong place reader = (more : List ℕ) → MayBeLeft reader (reader.pending ++ more) → PassesHere (ahead_in place reader.answered (pieces_of (reader.pending ++ more)))
WhyStopped NoMemory place reader = Unit {0}
WhyStopped Write place reader = ⊥
WhyStopped Store place reader = ⊥

-- a reader went on without closing an event, and stopped
pub record Stopped (from : Place) (error : RunError) (before after : Reading) (old new : Option (List ℕ)) : Type 0 where
  pub place : Place
  pub passed : Passed from [] place before after old new
  pub why : WhyStopped error place after

-- what a line between events opens, by its kind and its text: the events that it closes, and where it leads
abbrev pub opened : Opening → List ℕ → List Event
opened Moment text = Script.Moment text ∷ []
opened Request line = []

abbrev pub opens : Opening → List ℕ → Place
opens Moment text = between
opens Request line = within line []

-- the event that buffers hold
abbrev pub event_by : Opening → List ℕ → List ℕ → Event
event_by Moment text body = Script.Moment text
event_by Request line body = Script.Request line body

-- what opened an event
abbrev pub opening_of : Event → Opening
opening_of (Script.Moment text) = Moment
opening_of (Script.Request line body) = Request

abbrev pub event_in : Heard → Event
event_in heard = event_by heard.opening heard.line.items heard.body.items
