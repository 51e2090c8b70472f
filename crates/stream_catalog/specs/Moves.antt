-- Members that are taken out of streams and put into them, all or none.
use Rattle.std.specs.Prelude.{ℕ, Bool, false, not, ◌&&◌, ◌||◌, int_lt, List, [], ◌∷◌, bytes_eq, Option, None, if◌then◌else◌}
use Rattle.std.specs.List.{list_any, find}
use Rattle.std.specs.Option.{option_map, option_or}
use Rattle.stream_catalog.specs.declared.answers.Refusal.{Refusal}
use Rattle.stream_catalog.specs.declared.answers.Refusal.TheVariants.{NoSuchName, IsWriteIndex, NotMember, IsMember, OtherMapping, BadWindow}
use Rattle.stream_catalog.specs.declared.answers.Move.{Move}
use Rattle.stream_catalog.specs.declared.answers.Move.TheVariants.{Remove, Add}
use Rattle.stream_catalog.specs.declared.facts.HeldIndex.{HeldIndex}
use Rattle.stream_catalog.specs.Plain.{PlainStream, PlainCatalog, PlainFacts, facts_of}
use Rattle.stream_catalog.specs.Lists.{when, on_found, with_found, first_refusal, updated, without, stream_name, stream_named, facts_named}
use Rattle.stream_catalog.specs.Streams.{has_member, is_write, write_name}
use Rattle.stream_catalog.specs.Indices.{without_member, task_index}

-- ---- windows

-- some instant is in both windows
abbrev pub overlap : HeldIndex → HeldIndex → Bool
overlap a b = int_lt a.start b.end && int_lt b.start a.end

-- an index's window overlaps that of a member
abbrev pub meets_member : List HeldIndex → HeldIndex → List ℕ → Bool
meets_member is i m = with_found (facts_named m is) false (overlap i)

-- it ends after the write index's begins
abbrev pub ends_late : List HeldIndex → HeldIndex → PlainStream → Bool
ends_late is i s = with_found (facts_named (write_name s) is) false (λ w. int_lt w.start i.end)

abbrev pub is_bad_window : List HeldIndex → HeldIndex → PlainStream → Bool
is_bad_window is i s = list_any (meets_member is i) s.facts.members || ends_late is i s

-- ---- what refuses a move

abbrev pub remove_refusal : PlainFacts → List ℕ → List ℕ → Option Refusal
remove_refusal f stream index = on_found (stream_named stream f.streams) (NoSuchName stream) (λ s. first_refusal (
    when (not (has_member s index)) (NotMember stream index)
    ∷ when (is_write s index) (IsWriteIndex stream index) ∷ []))

-- the stream that has an index
abbrev pub stream_of : PlainFacts → List ℕ → Option PlainStream
stream_of f n = find (λ s. has_member s n) f.streams

abbrev pub add_refusal : PlainFacts → List ℕ → List ℕ → Option Refusal
add_refusal f stream index =
    on_found (stream_named stream f.streams) (NoSuchName stream) (λ s.
    on_found (facts_named index f.indices) (NoSuchName index) (λ i. first_refusal (
    option_map (λ other. IsMember other.facts.name index) (stream_of f index)
    ∷ when (not (bytes_eq i.template s.facts.template)) (OtherMapping stream index)
    ∷ when (is_bad_window f.indices i s) (BadWindow stream index) ∷ [])))

abbrev pub move_refusal : PlainFacts → Move → Option Refusal
move_refusal f (Remove stream index) = remove_refusal f stream index
move_refusal f (Add stream index) = add_refusal f stream index

-- ---- what a move leaves

-- a member put before the first whose window begins later
abbrev pub insert_member : List HeldIndex → HeldIndex → List (List ℕ) → List (List ℕ)
insert_member is i [] = i.name ∷ []
insert_member is i (m ∷ ms) =
    if with_found (facts_named m is) false (λ j. int_lt i.start j.start) then i.name ∷ m ∷ ms else m ∷ insert_member is i ms

abbrev pub with_member : List HeldIndex → HeldIndex → PlainStream → PlainStream
with_member is i s = record s { facts = record s.facts { members = insert_member is i s.facts.members } }

abbrev pub removed : PlainFacts → List ℕ → List ℕ → PlainFacts
removed f stream index = record f { streams = updated stream_name stream (without_member index) f.streams; tasks = without task_index index f.tasks }

abbrev pub added_member : PlainFacts → List ℕ → List ℕ → PlainFacts
added_member f stream index = with_found (facts_named index f.indices) f (λ i.
    record f { streams = updated stream_name stream (with_member f.indices i) f.streams })

abbrev pub moved : PlainFacts → Move → PlainFacts
moved f (Remove stream index) = removed f stream index
moved f (Add stream index) = added_member f stream index

-- ---- many moves, each after those before it

-- the first refusal
abbrev pub moves_refusal : PlainFacts → List Move → Option Refusal
moves_refusal f [] = None
moves_refusal f (m ∷ ms) = option_or (move_refusal f m) (moves_refusal (moved f m) ms)

abbrev pub moved_by : PlainFacts → List Move → PlainFacts
moved_by f [] = f
moved_by f (m ∷ ms) = moved_by (moved f m) ms

-- moves change streams and tasks alone
abbrev pub moved_all : PlainCatalog → List Move → PlainCatalog
moved_all c ms = record c { streams = (moved_by (facts_of c) ms).streams; tasks = (moved_by (facts_of c) ms).tasks }
