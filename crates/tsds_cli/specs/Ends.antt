-- How a run ends before the end of its script: what it wrote, and the state and the table that it left.
use Rattle.std.specs.Prelude.{◌≡◌, ℕ, ◌<◌, List, [], ◌∷◌, ◌++◌, length, All, true, false, Option, IfSome, ◌⊎◌}
use Rattle.std.specs.List.{concat}
use Rattle.edge_face.specs.Contents.{appended, preceded}
use Rattle.edge_face.specs.Reading.{Reading}
use Rattle.edge_face.specs.declared.keeper.KeepError.{KeepError}
use Rattle.edge_face.specs.declared.keeper.KeepError.TheVariants as keep_error
use Rattle.tsds_cli.specs.declared.errors.RunError.{RunError}
use Rattle.tsds_cli.specs.declared.errors.RunError.TheVariants.{NoMemory, Store, Read, Write, TooLong}
use Rattle.tsds_cli.specs.Ahead.{Passed}
use Rattle.tsds_cli.specs.Limits.{fine_of, is_too_long, has_passed, IsShort}
use Rattle.tsds_cli.specs.Script.{Event, between, closed_of, events_of}
use Rattle.tsds_cli.specs.Play.{Play, Standing, text_of, replies, after_events, PutAll, IsBehind, IsWrittenBy, IsPast, IsRefused}

-- a first part of a reply was put, and not all of it
pub record IsPut (reply : List ℕ) (before now : Option (List ℕ)) : Type 0 where
  pub part : List ℕ
  pub more : List ℕ
  pub whole : part ++ more ≡ reply
  pub cut : 0 < length more
  pub given_is : now ≡ appended before part

-- an event broke off for want of memory: its step wasn't made; or it was, and nothing of its reply was put, or all of it and its
-- unit wasn't made
abbrev pub BrokeForMemory : {S : Type 0} → Play S → Standing S → Standing S → Event → Option (List ℕ) → Option (List ℕ) → Type 0
BrokeForMemory play before now e given0 given =
    (IsRefused play before now e keep_error.NoMemory × (given ≡ given0))
    ⊎ (IsPast play before now e × ((given ≡ given0) ⊎ (given ≡ appended given0 (text_of (play.act before.state e).reply))))

-- the same by its error: its keeper failed where the event was to write; or its reply was cut off
abbrev pub Broke : {S : Type 0} → Play S → Standing S → Standing S → Event → RunError → Option (List ℕ) → Option (List ℕ) → Type 0
Broke play before now e NoMemory given0 given = BrokeForMemory play before now e given0 given
Broke play before now e Store given0 given = IsRefused play before now e keep_error.Failed × ((play.act before.state e).wrote ≡ true) × (given ≡ given0)
Broke play before now e Write given0 given = IsPast play before now e × IsPut (text_of (play.act before.state e).reply) given0 given
Broke play before now e Read given0 given = ⊥
Broke play before now e TooLong given0 given = ⊥

-- so far some events were done, each with its reply and its unit, and they were passed in the script
pub record Reached {S : Type 0} (play : Play S) (start now : Standing S) (first reader : Reading) (script left given0 given : Option (List ℕ)) : Type 0 where
  pub done : List Event
  pub bodies : All IsShort done
  pub state : IsBehind play start now done
  pub put : PutAll play start.state given0 given done
  pub passed : Passed between done between first reader script left

-- these events are a front of those that are closed in the bytes taken; or of theirs as a script, where the source is at its end
abbrev pub IsFront : List Event → List Event → List ℕ → Option (List ℕ) → Type 0
IsFront events more taken left = (closed_of taken ≡ events ++ more) ⊎ (IfSome left (λ rest. rest ≡ []) × (events_of taken ≡ events ++ more))

-- these events are a front of those before the first length that bytes pass
abbrev pub AreFine : List Event → List ℕ → Type 0
AreFine events bytes = (later : List Event) × (fine_of bytes ≡ events ++ later)

-- the same of the bytes taken, and of the whole script where it is told
abbrev pub IsFine : List Event → List ℕ → Option (List ℕ) → Type 0
IsFine events taken script = AreFine events taken × IfSome script (AreFine events)

-- state and table are those right behind the step of an event that follows these: the unit wasn't made
pub record IsStepped {S : Type 0} (play : Play S) (start now : Standing S) (done : List Event) (next : Event) : Type 0 where
  pub stepped : now.state ≡ (play.act (after_events play start.state done) next).stepped
  pub table : IsWrittenBy play start now.table (done ++ next ∷ [])

-- or its step wasn't made: the state is one that this error may leave, and the table is the one behind the events before it
pub record IsUnmade {S : Type 0} (play : Play S) (start now : Standing S) (done : List Event) (next : Event) (error : KeepError) : Type 0 where
  pub left : play.left (after_events play start.state done) next error now.state
  pub table : IsWrittenBy play start now.table done

-- the next of the events that come was stepped, or broke off in its step; and the last of those done was stepped
pub record NextIsBroken {S : Type 0} (play : Play S) (start now : Standing S) (done more : List Event) (taken : List ℕ) (script : Option (List ℕ)) : Type 0 where
  pub next : Event
  pub later : List Event
  pub first : more ≡ next ∷ later
  pub body : IsShort next
  pub fine : IsFine (done ++ next ∷ []) taken script
  pub is : IsUnmade play start now done next keep_error.NoMemory ⊎ IsStepped play start now done next

pub record LastIsStepped {S : Type 0} (play : Play S) (start now : Standing S) (done : List Event) : Type 0 where
  pub earlier : List Event
  pub last : Event
  pub end : done ≡ earlier ++ last ∷ []
  pub is : IsStepped play start now earlier last

-- state and table are those behind the events done, or where the next broke off, or one unit back
abbrev pub IsNear : {S : Type 0} → Play S → Standing S → Standing S → List Event → List Event → List ℕ → Option (List ℕ) → Type 0
IsNear play start now done more taken script = IsBehind play start now done ⊎ (NextIsBroken play start now done more taken script ⊎ LastIsStepped play start now done)

-- all replies to events that are closed in the bytes taken were put, and no length is passed in these. Here and below the events done, and
-- the one that broke off, have bodies within their length
pub record PutClosed {S : Type 0} (play : Play S) (start now : Standing S) (script left given0 given : Option (List ℕ)) : Type 0 where
  pub taken : List ℕ
  pub taken_is : script ≡ preceded taken left
  pub short : has_passed taken ≡ false
  pub fine : IsFine (closed_of taken) taken script
  pub bodies : All IsShort (closed_of taken)
  pub put : PutAll play start.state given0 given (closed_of taken)
  pub state : IsBehind play start now (closed_of taken)

-- the replies to a front of them were put, each whole
pub record PutFront {S : Type 0} (play : Play S) (start now : Standing S) (script left given0 given : Option (List ℕ)) : Type 0 where
  pub done : List Event
  pub more : List Event
  pub taken : List ℕ
  pub taken_is : script ≡ preceded taken left
  pub front : IsFront done more taken left
  pub fine : IsFine done taken script
  pub bodies : All IsShort done
  pub put : PutAll play start.state given0 given done
  pub state : IsNear play start now done more taken script

-- the same, and the next event was to write, and its keeper failed
pub record PutUnkept {S : Type 0} (play : Play S) (start now : Standing S) (script left given0 given : Option (List ℕ)) : Type 0 where
  pub done : List Event
  pub next : Event
  pub more : List Event
  pub taken : List ℕ
  pub taken_is : script ≡ preceded taken left
  pub front : IsFront done (next ∷ more) taken left
  pub fine : IsFine (done ++ next ∷ []) taken script
  pub bodies : All IsShort (done ++ next ∷ [])
  pub wrote : (play.act (after_events play start.state done) next).wrote ≡ true
  pub put : PutAll play start.state given0 given done
  pub state : IsUnmade play start now done next keep_error.Failed

-- the same, and of the next reply a first part that isn't all of it
pub record PutPart {S : Type 0} (play : Play S) (start now : Standing S) (script left given0 given : Option (List ℕ)) : Type 0 where
  pub done : List Event
  pub next : Event
  pub more : List Event
  pub taken : List ℕ
  pub taken_is : script ≡ preceded taken left
  pub front : IsFront done (next ∷ more) taken left
  pub fine : IsFine (done ++ next ∷ []) taken script
  pub bodies : All IsShort (done ++ next ∷ [])
  pub part : List ℕ
  pub cut : List ℕ
  pub whole : part ++ cut ≡ text_of (play.act (after_events play start.state done) next).reply
  pub some : 0 < length cut
  pub put : given ≡ appended given0 (concat (replies play start.state done) ++ part)
  pub state : IsStepped play start now done next

-- bytes pass a length, and these are the events before that
abbrev pub IsCutBehind : List Event → List ℕ → Type 0
IsCutBehind events bytes = (is_too_long bytes ≡ true) × (fine_of bytes ≡ events)

-- the replies to the events before the length that is passed were put. The bytes taken pass it, and a told script does; and where the
-- source isn't at its end, they do whatever follows them
pub record PutFine {S : Type 0} (play : Play S) (start now : Standing S) (script left given0 given : Option (List ℕ)) : Type 0 where
  pub done : List Event
  pub cut : IfSome script (IsCutBehind done)
  pub taken : List ℕ
  pub taken_is : script ≡ preceded taken left
  pub here : IsCutBehind done taken
  pub shown : IfSome left (λ rest. rest ≡ []) ⊎ ((more : List ℕ) → IsCutBehind done (taken ++ more))
  pub bodies : All IsShort done
  pub put : PutAll play start.state given0 given done
  pub state : IsBehind play start now done

-- a run is done: the source is at its end, the bytes taken pass no length, and the replies to their events as a script were put
pub record PutWhole {S : Type 0} (play : Play S) (start now : Standing S) (script left given0 given : Option (List ℕ)) : Type 0 where
  pub taken : List ℕ
  pub taken_is : script ≡ preceded taken left
  pub drained : IfSome left (λ rest. rest ≡ [])
  pub short : is_too_long taken ≡ false
  pub bodies : All IsShort (events_of taken)
  pub put : PutAll play start.state given0 given (events_of taken)
  pub state : IsBehind play start now (events_of taken)

-- how a run ends, by its error
abbrev pub EndsBy : {S : Type 0} → Play S → Standing S → Standing S → RunError → Option (List ℕ) → Option (List ℕ) → Option (List ℕ) → Option (List ℕ) → Type 0
EndsBy play start now NoMemory script left given0 given = PutFront play start now script left given0 given
EndsBy play start now Read script left given0 given = PutClosed play start now script left given0 given
EndsBy play start now Store script left given0 given = PutUnkept play start now script left given0 given
EndsBy play start now Write script left given0 given = PutPart play start now script left given0 given
EndsBy play start now TooLong script left given0 given = PutFine play start now script left given0 given

-- the same for a run of whose last state and table this is seen
pub record Ends {S : Type 0} (play : Play S) (start : Standing S) (Seen : Standing S → Type 0) (error : RunError) (script left given0 given : Option (List ℕ)) : Type 0 where
  pub now : Standing S
  pub seen : Seen now
  pub by : EndsBy play start now error script left given0 given

-- the same for a run that is done
pub record EndsWhole {S : Type 0} (play : Play S) (start : Standing S) (Seen : Standing S → Type 0) (script left given0 given : Option (List ℕ)) : Type 0 where
  pub now : Standing S
  pub seen : Seen now
  pub by : PutWhole play start now script left given0 given

-- nothing is seen of them
abbrev pub Unseen : {S : Type 0} → Standing S → Type 0
Unseen standing = Unit {0}
