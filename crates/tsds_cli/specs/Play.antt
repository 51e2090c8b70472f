-- What a machine does with a script, and with the records that its keeper has. The machine is any.
use Rattle.std.specs.Prelude.{◌≡◌, ℕ, List, [], ◌∷◌, Bool, Option, None, Some, IsSomeAnd, if◌then◌else◌}
use Rattle.std.specs.List.{concat}
use Rattle.edge_face.specs.Contents.{appended}
use Rattle.edge_face.specs.Table.{Table}
use Rattle.edge_face.specs.declared.keeper.KeepError.{KeepError}
use Rattle.tsds_cli.specs.Script.{Event}

-- what it does with an event where nothing is wanting: the line that is written, if one is, the state right after the step, the one
-- after its unit, and whether the keeper's table is then the image of the state right after the step; else the table stays
pub record Act (S : Type 0) : Type 0 where
  pub reply : Option (List ℕ)
  pub stepped : S
  pub after : S
  pub wrote : Bool

-- what it does, which states a step that isn't made may leave, by its error, and which tables are the image of a state
pub record Play (S : Type 0) : Type 1 where
  pub act : S → Event → Act S
  pub left : S → Event → KeepError → S → Type 0
  pub image : S → Table → Type 0

-- a state, and the table of its keeper, where the keeper tells it
pub record Standing (S : Type 0) : Type 0 where
  pub state : S
  pub table : Option Table

abbrev pub stands : {S : Type 0} → S → Option Table → Standing S
stands state table = record { state = state; table = table }

-- the bytes of a reply
abbrev pub text_of : Option (List ℕ) → List ℕ
text_of None = []
text_of (Some line) = line

abbrev pub with_reply : Option (List ℕ) → List (List ℕ) → List (List ℕ)
with_reply None lines = lines
with_reply (Some line) lines = line ∷ lines

-- the replies to events, and the state behind them
abbrev pub replies : {S : Type 0} → Play S → S → List Event → List (List ℕ)
replies play s [] = []
replies play s (e ∷ es) = with_reply (play.act s e).reply (replies play (play.act s e).after es)

abbrev pub after_events : {S : Type 0} → Play S → S → List Event → S
after_events play s [] = s
after_events play s (e ∷ es) = after_events play (play.act s e).after es

-- the state whose image the table is behind an event, or what was so before it
abbrev pub written_by : {S : Type 0} → Act S → Option S → Option S
written_by act was = if act.wrote then Some act.stepped else was

-- the same behind events: the last of them that wrote decides
abbrev pub last_written : {S : Type 0} → Play S → S → List Event → Option S → Option S
last_written play s [] was = was
last_written play s (e ∷ es) was = last_written play (play.act s e).after es (written_by (play.act s e) was)

-- a table that was told is told still, and this holds of it; one that wasn't told isn't
abbrev pub IsToldAs : Option Table → Option Table → (Table → Type 0) → Type 0
IsToldAs None now P = now ≡ None
IsToldAs (Some before) now P = IsSomeAnd now P

-- the table is the image of the state that was written last, or what it was where none was
abbrev pub IsTable : {S : Type 0} → (S → Table → Type 0) → Option S → Option Table → Option Table → Type 0
IsTable image None before now = now ≡ before
IsTable image (Some state) before now = IsToldAs before now (image state)

-- the replies to these events were put, and no more
abbrev pub PutAll : {S : Type 0} → Play S → S → Option (List ℕ) → Option (List ℕ) → List Event → Type 0
PutAll play start given0 given events = given ≡ appended given0 (concat (replies play start events))

-- the table is the one behind these events
abbrev pub IsWrittenBy : {S : Type 0} → Play S → Standing S → Option Table → List Event → Type 0
IsWrittenBy play start now events = IsTable play.image (last_written play start.state events None) start.table now

-- state and table are those behind these events
pub record IsBehind {S : Type 0} (play : Play S) (start now : Standing S) (events : List Event) : Type 0 where
  pub state : now.state ≡ after_events play start.state events
  pub table : IsWrittenBy play start now.table events

-- of one event from where a machine stands: it was stepped and had no unit yet; or its step wasn't made
abbrev pub IsPast : {S : Type 0} → Play S → Standing S → Standing S → Event → Type 0
IsPast play before now event = (now.state ≡ (play.act before.state event).stepped) × IsTable play.image (written_by (play.act before.state event) None) before.table now.table

abbrev pub IsRefused : {S : Type 0} → Play S → Standing S → Standing S → Event → KeepError → Type 0
IsRefused play before now event error = play.left before.state event error now.state × (now.table ≡ before.table)
