-- The definitions on a small machine, worked out: a stream of two members, and two rows in the first of them.
use Rattle.std.specs.Char.{encode_utf8}
use Rattle.std.specs.Str.{is_utf8, chars}
use Rattle.std.specs.Fmt.{digits}
use Rattle.std.specs.Option.{is_some}
use Rattle.std.specs.Prelude.{ℤ, Err, Ok, map, length, nat_le}
use Rattle.std.proofs.Common.{◌≡◌, Bool, ℕ, pos, List, [], ◌∷◌, Option, Some, None, true, false, refl, ap, arith, codes}
use Rattle.std.proofs.lemmas.Slice.Eq.{bytes_eq-Decides}
use Rattle.reply_json.specs.Trees as tree
use Rattle.reply_json.specs.declared.out.Out.{Flag, Num, Word as Quoted, List as Listed, Object}
use Rattle.bulk_json.specs.declared.action.Action.TheVariants.{Create, Index}
use Rattle.bulk_json.specs.declared.items.Item.{Item}
use Rattle.edge_face.specs.Limits.{last_instant}
use Rattle.index_names.specs.Patterns.{pattern_takes}
use Rattle.json_walk.specs.Leaves as leaf
use Rattle.lifecycle_swap.specs.declared.lifecycles.Lifecycle.{Lifecycle}
use Rattle.row_cells.specs.RowLists.{has_place}
use Rattle.row_cells.specs.declared.rows.Cell.{Cell}
use Rattle.row_cells.specs.declared.rows.Cell.TheVariants.{Absent, One}
use Rattle.row_cells.specs.declared.rows.Row.{Row}
use Rattle.row_cells.specs.declared.scalars.Scalar.TheVariants.{Whole, Word}
use Rattle.row_cells.specs.declared.schemas.FieldType.TheVariants.{Date, Keyword, Long}
use Rattle.row_cells.specs.declared.schemas.Role.TheVariants.{Time, Dimension, Counter}
use Rattle.row_cells.specs.declared.schemas.Schema.{Schema}
use Rattle.serde_json.specs.Data.{Data, number, string, array, object, unsigned, no_items, item as element, no_members, member}
use Rattle.series_id.specs.Ids.{id_of}
use Rattle.series_id.specs.Keys.{keyed}
use Rattle.series_id.specs.declared.keys.KeyError.TheVariants.{KeyTooLong}
use Rattle.stream_catalog.specs.Limits.{most_streams, most_indices}
use Rattle.stream_catalog.specs.Names.{is_taken, template_for}
use Rattle.stream_catalog.specs.Plain.{PlainIndex, PlainStream, PlainCatalog, PlainFacts, facts_of}
use Rattle.stream_catalog.specs.Puts.{is_full, put_into}
use Rattle.stream_catalog.specs.Ways.{plain_way, seen_way, see_catalog}
use Rattle.stream_catalog.specs.Indices.{folded_mapping}
use Rattle.stream_catalog.specs.declared.facts.HeldIndex.{HeldIndex}
use Rattle.stream_catalog.specs.declared.facts.TaskFacts.{TaskFacts}
use Rattle.synthetic_source.specs.declared.errors.DocKind.TheVariants.{NoTime, Unmapped, NotLeaf, WrongType, ManyValues, BadAggregate}
use Rattle.synthetic_source.specs.Document.{document_cells}
use Rattle.synthetic_source.specs.Faults.{fault_at, time_fault, time_of}
use Rattle.time_text.specs.Bucket.{bucket_start}
use Rattle.time_text.specs.declared.intervals.Interval.{Interval}
use Rattle.time_text.specs.declared.units.Unit.TheVariants.{S}
use Rattle.synthetic_source.specs.Normal.{norm}
use Rattle.synthetic_source.specs.Replies.{out_of}
use Rattle.ts_mapping.specs.declared.kinds.MapKind.TheVariants.{Shape}
use Rattle.ts_mapping.specs.Templates.{template_of}
use Rattle.ts_mapping.specs.declared.templates.Mapping.{Mapping}
use Rattle.ts_mapping.specs.declared.templates.Template.{Template}
use Rattle.downsample_fold.specs.Direct.{down}
use Rattle.rest_request.specs.Body.{object_of}
use Rattle.rest_request.specs.Message.{flush}
use Rattle.rest_request.specs.Table.{request_of}
use Rattle.stream_catalog.specs.Runs.{lifecycle_run}
use Rattle.stream_catalog.specs.Streams.{template_refusal, first_name, next_name, rolled_names}
use Rattle.stream_catalog.specs.Units.{unit_of}
use Rattle.stream_catalog.specs.declared.answers.What.TheVariants.{Templates, Streams}
use Rattle.stream_catalog.specs.declared.answers.Refusal.TheVariants.{ChangedField, Limit}
use Rattle.tsds_service.specs.Machine.{Machine, unit}
use Rattle.tsds_service.specs.Messages.{reading_of, message_told, moment_by}
use Rattle.tsds_service.specs.Questions.{Searching, facts_in, joined_fields, samples_of, no_document, document_reply}
use Rattle.tsds_service.specs.Replies.{ack, interval_word, ran_reply, rolled_reply, tasks_reply}
use Rattle.tsds_service.specs.Requests.{unchanged, put_template, put_stream, rollover, block, delete_index, downsample_by, get_document, modify, run_lifecycle, step}
use Rattle.tsds_service.specs.declared.reply.Reply.{Reply}
use Rattle.tsds_service.specs.Turns.{asks, scripted, linked, works, dated, all_replies, left_behind, last_recorded}
use Rattle.tsds_service.specs.Bulk.{Outcome, taken, barred, after_outcome, by_document, by_cells, by_key, by_place, item_outcome, outcomes_of, item_tree, bulk_reply}
use Rattle.tsds_service.specs.CausedLaws.{keys_caused, same_with_causes}
use Rattle.tsds_service.specs.declared.causes.Cause.TheVariants as cause
use Rattle.tsds_service.specs.Causes.{wrong, reply_of, refused, said, item_said, key_cause}
use Rattle.tsds_service.specs.declared.causes.Cause.{Cause}
use Rattle.tsds_service.specs.declared.causes.ItemCause.{ItemCause}
use Rattle.tsds_service.specs.declared.causes.ItemCause.TheVariants.{OnlyCreate, NoStream, NoObject, WrongTime, Outside, Blocked, BadDocument, NoRouting, LongKey, Conflict, Full}

abbrev pub schema : Schema
schema = record {
  fields = record { path = codes "@timestamp"; kind = Date; role = Time }
      ∷ record { path = codes "host"; kind = Keyword; role = Dimension }
      ∷ record { path = codes "req"; kind = Long; role = Counter } ∷ [];
  routing = 1 ∷ [];
  folded = false;
  rises = true;
}

abbrev pub mapping : Mapping
mapping = record { strict = true; shards = 1; schema = schema }

-- the key of a host whose name is one byte
abbrev key : ℕ → List ℕ
key host = 0 ∷ 4 ∷ 104 ∷ 111 ∷ 115 ∷ 116 ∷ 1 ∷ 0 ∷ 1 ∷ host ∷ []

abbrev pub row_at : ℕ → ℕ → ℕ → Row
row_at host time value = record { key = key host; time = pos time; count = 1; cells = Absent ∷ One (Word (host ∷ [])) ∷ One (Whole (pos value)) ∷ [] }

abbrev pub first_facts : Bool → HeldIndex
first_facts shut = record { name = codes "a"; origin = codes "a"; template = codes "t"; start = pos 0; end = pos 10000; blocked = shut; interval = None; mapping = mapping }

abbrev pub last_facts : HeldIndex
last_facts = record { name = codes "b"; origin = codes "b"; template = codes "t"; start = pos 10000; end = pos 20000; blocked = false; interval = None; mapping = mapping }

abbrev pub template : Template
template = record { name = codes "t"; patterns = codes "s" ∷ []; priority = 0; strict = true; shards = 1; look_back = pos 60000; look_ahead = pos 60000; schema = schema }

abbrev pub stream : Option Lifecycle → PlainStream
stream life = record { facts = record { name = codes "s"; template = codes "t"; generation = 2; members = codes "a" ∷ codes "b" ∷ [] }; life = life }

abbrev pub first_index : Bool → PlainIndex
first_index shut = record { facts = first_facts shut; rows = row_at 98 1100 3 ∷ row_at 97 1500 7 ∷ [] }

abbrev pub two : Bool → Option Lifecycle → List TaskFacts → PlainCatalog
two shut life tasks = record {
  templates = template ∷ [];
  streams = stream life ∷ [];
  indices = first_index shut ∷ record { facts = last_facts; rows = [] } ∷ [];
  tasks = tasks;
}

-- ---- the eleven causes that bar an item, in their order

abbrev pub item : Option (List ℕ) → Item
item source = record { action = Create; stream = codes "s"; source = source }

pub first_cause : item_outcome (two false None []) (record (item None) { action = Index }) ≡ barred OnlyCreate
unfolding item_outcome
first_cause = refl

pub second_cause : item_outcome (two false None []) (record (item None) { stream = codes "x" }) ≡ barred (NoStream (codes "x"))
unfolding item_outcome
second_cause = refl

pub third_cause : item_outcome (two false None []) (item None) ≡ barred NoObject
unfolding item_outcome
third_cause = refl

-- a document of a host at a time
abbrev pub document : ℕ → ℕ → ℕ → Data
document host time value = object (member (codes "@timestamp") (number (unsigned time)) (member (codes "host") (string (host ∷ [])) (member (codes "req") (number (unsigned value)) no_members)))

abbrev pub outcome : Bool → Data → Outcome
outcome shut d = by_document (two shut None []) (stream None) d

pub fourth_cause : outcome false (object no_members) ≡ barred (WrongTime NoTime)
unfolding time_fault time_of leaf.leaves_of
fourth_cause = refl

pub fifth_cause : outcome false (document 97 20000 1) ≡ barred (Outside (pos 20000))
unfolding time_fault time_of leaf.leaves_of
fifth_cause = refl

pub sixth_cause : outcome true (document 97 1600 1) ≡ barred (Blocked (codes "a"))
unfolding time_fault time_of leaf.leaves_of
sixth_cause = refl

pub seventh_cause : outcome false (object (member (codes "@timestamp") (number (unsigned 1600)) (member (codes "x") (number (unsigned 1)) no_members))) ≡ barred (BadDocument Unmapped (codes "x"))
unfolding time_fault time_of leaf.leaves_of document_cells fault_at
seventh_cause = refl

pub eighth_cause : outcome false (object (member (codes "@timestamp") (number (unsigned 1600)) (member (codes "req") (number (unsigned 1)) no_members))) ≡ barred NoRouting
unfolding time_fault time_of leaf.leaves_of document_cells fault_at
eighth_cause = refl

pub ninth_cause : (i : PlainIndex) (cells : List Cell) → keyed i.facts.mapping.schema cells ≡ Err (KeyTooLong 4105) → by_cells (codes "a") i (pos 1600) (Ok cells) ≡ barred (LongKey 4105)
ninth_cause i cells is =
    let same = same_with_causes key_cause (keyed i.facts.mapping.schema cells) (keys_caused i.facts.mapping.schema cells) in
    ap (by_key (codes "a") i (pos 1600) cells) (same.error (KeyTooLong 4105) (LongKey 4105) is refl)

pub tenth_cause : outcome false (document 98 1100 1) ≡ barred (Conflict (id_of (key 98) (pos 1100)))
unfolding time_fault time_of leaf.leaves_of document_cells fault_at is_utf8 chars encode_utf8
tenth_cause = refl

pub eleventh_cause : (i : PlainIndex) (row : Row) → has_place row.key row.time i.rows ≡ false → is_full i.rows ≡ true → by_place (codes "a") i row ≡ barred (Full (codes "a"))
eleventh_cause i row free is = rw (free, is) refl

-- where two of them hold the earlier one is told: a blocked index before a fault, a taken place before a full index
pub blocked_first : outcome true (object (member (codes "@timestamp") (number (unsigned 1600)) (member (codes "x") (number (unsigned 1)) no_members))) ≡ barred (Blocked (codes "a"))
unfolding time_fault time_of leaf.leaves_of
blocked_first = refl

pub conflict_first : (i : PlainIndex) (row : Row) → has_place row.key row.time i.rows ≡ true → is_full i.rows ≡ true → by_place (codes "a") i row ≡ barred (Conflict (id_of row.key row.time))
conflict_first i row held is = rw held refl

-- a document that nothing bars
pub taken_item : outcome false (document 97 1600 1) ≡ taken (codes "a") (row_at 97 1600 1)
unfolding time_fault time_of leaf.leaves_of document_cells fault_at is_utf8 chars encode_utf8
taken_item = refl

-- and what it leaves
pub put_left : after_outcome plain_way (two false None []) (taken (codes "a") (row_at 97 1600 1)) ≡ put_into plain_way (two false None []) (codes "a") (row_at 97 1600 1)
put_left = refl

pub barred_left : after_outcome plain_way (two false None []) (barred NoObject) ≡ two false None []
barred_left = refl

-- ---- steps

abbrev pub machine : Bool → Option Lifecycle → List TaskFacts → Machine
machine shut life tasks = record { catalog = two shut life tasks; now = pos 15000; kept = false }

abbrev pub second : Interval
second = record { number = 1; unit = S; in_range = (omega arith, omega arith) }

abbrev pub names : PlainCatalog → List (List ℕ)
names c = map (λ i. i.facts.name) c.indices

-- a fold stands beside its source; an index that takes documents isn't folded; names are looked at before a body
pub fold_reply : (downsample_by plain_way (machine true None []) (codes "a") (codes "c") (Some second)).reply ≡ ack
fold_reply = refl

pub fold_left : names (downsample_by plain_way (machine true None []) (codes "a") (codes "c") (Some second)).machine.catalog ≡ codes "a" ∷ codes "b" ∷ codes "c" ∷ []
fold_left = refl

pub fold_refused : downsample_by plain_way (machine false None []) (codes "a") (codes "c") (Some second) ≡ unchanged (machine false None []) (refused (cause.NotBlocked (codes "a")))
fold_refused = refl

pub fold_named : downsample_by plain_way (machine true None []) (codes "x") (codes "c") None ≡ unchanged (machine true None []) (refused (cause.NoSuchName (codes "x")))
fold_named = refl

pub fold_bodiless : downsample_by plain_way (machine true None []) (codes "a") (codes "c") None ≡ unchanged (machine true None []) (refused cause.BadBody)
fold_bodiless = refl

-- an index that has an interval takes a greater multiple of it alone
abbrev two_seconds : Interval
two_seconds = record { number = 2; unit = S; in_range = (omega arith, omega arith) }

abbrev three_seconds : Interval
three_seconds = record { number = 3; unit = S; in_range = (omega arith, omega arith) }

abbrev folded_machine : Machine
folded_machine = record (machine true None []) {
  catalog = record (two true None []) {
    indices = record { facts = record (first_facts true) { interval = Some two_seconds; mapping = folded_mapping true mapping }; rows = [] } ∷ record { facts = last_facts; rows = [] } ∷ [];
  };
}

pub fold_same : downsample_by plain_way folded_machine (codes "a") (codes "c") (Some two_seconds) ≡ unchanged folded_machine (refused (cause.NotGreater (interval_word two_seconds) (interval_word two_seconds)))
fold_same = refl

pub fold_between : downsample_by plain_way folded_machine (codes "a") (codes "c") (Some three_seconds) ≡ unchanged folded_machine (refused (cause.NotMultiple (interval_word three_seconds) (interval_word two_seconds)))
fold_between = refl

pub fold_lesser : downsample_by plain_way folded_machine (codes "a") (codes "c") (Some second) ≡ unchanged folded_machine (refused (cause.NotGreater (interval_word second) (interval_word two_seconds)))
fold_lesser = refl

-- with the last series a fold stands in the place of its index, in its stream too; not before
abbrev pub folding : ℕ → Machine
folding done = machine true None (record { index = codes "a"; target = codes "f"; by = second; done = done; rises = true } ∷ [])

pub unit_before : unit plain_way (folding 0) ≡ folding 1
unfolding unit_of
unit_before = refl

pub unit_swaps : names (unit plain_way (folding 1)).catalog ≡ codes "b" ∷ codes "f" ∷ []
unfolding unit_of
unit_swaps = refl

-- a move that is refused undoes those before it
abbrev remove : List ℕ → Data
remove index = object (member (codes "remove_backing_index") (object (member (codes "data_stream") (string (codes "s")) (member (codes "index") (string index) no_members))) no_members)

pub move_refused : modify (folding 1) (object (member (codes "actions") (array (element (remove (codes "a")) (element (remove (codes "b")) no_items))) no_members))
    ≡ unchanged (folding 1) (refused (cause.IsWriteIndex (codes "b") (codes "s")))
move_refused = refl

-- a removal ends the task of its member
pub move_ends : (modify (folding 1) (object (member (codes "actions") (array (element (remove (codes "a")) no_items)) no_members))).machine.catalog.tasks ≡ []
move_ends = refl

-- a lifecycle run extends, deletes and starts
abbrev keeping : Option Lifecycle
keeping = Some (record { retention = None; rounds = record { after = second; by = second } ∷ [] })

abbrev dropping : Option Lifecycle
dropping = Some (record { retention = Some second; rounds = [] })

pub run_starts : (run_lifecycle (machine false keeping [])).reply ≡ ran_reply (record { extended = 1; deleted = 0; started = 1 })
unfolding lifecycle_run
run_starts = refl

pub run_deletes : (run_lifecycle (machine false dropping [])).reply ≡ ran_reply (record { extended = 1; deleted = 1; started = 0 })
unfolding lifecycle_run
run_deletes = refl

-- the moment becomes the present, also where the request is refused; without records nothing is flushed
pub flush_refused : (searching : Searching) → step searching plain_way (machine false None []) flush (pos 16000) ≡ unchanged (record (machine false None []) { now = pos 16000 }) (refused cause.NoData)
unfolding step
flush_refused searching = refl

-- a moment is taken where it isn't earlier than the present, which stays where it is refused
pub moment_same : moment_by (pos 5) (Some (pos 5)) ≡ record { reply = None; now = pos 5 }
moment_same = refl

pub moment_earlier : moment_by (pos 5) (Some (pos 4)) ≡ record { reply = Some (refused cause.BadMoment); now = pos 5 }
moment_earlier = refl

pub moment_unread : moment_by (pos 5) None ≡ record { reply = Some (refused cause.BadMoment); now = pos 5 }
moment_unread = refl

-- ---- what a catalogue refuses, through the step to the text; the machine stays

abbrev argues : List ℕ → Reply
argues reason = reply_of (wrong 400 (codes "illegal_argument_exception") reason)

abbrev pub plain : Machine
plain = machine false None []

pub step_nothing : block plain (codes "x") ≡ unchanged plain (reply_of (wrong 404 (codes "index_not_found_exception") (codes "no such index [x]")))
step_nothing = refl

pub step_taken : put_stream plain (codes "s") ≡ unchanged plain (reply_of (wrong 400 (codes "resource_already_exists_exception") (codes "[s] already exists")))
step_taken = refl

pub step_reserved : put_stream plain (codes "downsample-x") ≡ unchanged plain (argues (codes "name [downsample-x] is reserved"))
step_reserved = refl

pub step_untaken : put_stream plain (codes "x") ≡ unchanged plain (argues (codes "no matching index template for [x]"))
unfolding pattern_takes
step_untaken = refl

pub step_write : delete_index plain (codes "b") ≡ unchanged plain (argues (codes "[b] is the write index of [s]"))
step_write = refl

pub step_open : downsample_by plain_way plain (codes "a") (codes "c") (Some second) ≡ unchanged plain (argues (codes "[a] must be blocked for writes"))
step_open = refl

-- moves
abbrev pub move_of : List ℕ → List ℕ → Data
move_of action index = object (member action (object (member (codes "data_stream") (string (codes "s")) (member (codes "index") (string index) no_members))) no_members)

abbrev pub move_one : List ℕ → List ℕ → Data
move_one action index = object (member (codes "actions") (array (element (move_of action index) no_items)) no_members)

-- with an index in no stream
abbrev beside : List ℕ → Machine
beside template = record plain {
  catalog = record (two false None []) {
    indices = first_index false ∷ record { facts = last_facts; rows = [] } ∷ record { facts = record (first_facts true) { name = codes "l"; template = template }; rows = [] } ∷ [];
  };
}

pub step_not_member : modify plain (move_one (codes "remove_backing_index") (codes "c")) ≡ unchanged plain (argues (codes "[c] is not a backing index of [s]"))
step_not_member = refl

pub step_member : modify plain (move_one (codes "add_backing_index") (codes "a")) ≡ unchanged plain (argues (codes "[a] is a backing index of [s]"))
step_member = refl

pub step_mapped : modify (beside (codes "u")) (move_one (codes "add_backing_index") (codes "l")) ≡ unchanged (beside (codes "u")) (argues (codes "[l] has another mapping than [s]"))
step_mapped = refl

pub step_window : modify (beside (codes "t")) (move_one (codes "add_backing_index") (codes "l")) ≡ unchanged (beside (codes "t")) (argues (codes "window of [l] does not fit [s]"))
step_window = refl

-- rollovers
abbrev ending : ℤ → ℕ → Machine
ending end generation = record plain {
  catalog = record (two false None []) {
    streams = record { facts = record { name = codes "s"; template = codes "t"; generation = generation; members = codes "a" ∷ codes "b" ∷ [] }; life = None } ∷ [];
    indices = first_index false ∷ record { facts = record last_facts { end = end }; rows = [] } ∷ [];
  };
}

pub step_over : rollover (ending last_instant 2) (codes "s") ≡ unchanged (ending last_instant 2) (argues (codes "no time is left after [b]"))
step_over = refl

pub step_generations : rollover (ending (pos 20000) 999_999) (codes "s") ≡ unchanged (ending (pos 20000) 999_999) (argues (codes "limit of [generations] reached"))
step_generations = refl

-- with other indices beside the two of s
abbrev crowded : List PlainIndex → Machine
crowded is = record plain { catalog = record (two true None []) { indices = first_index true ∷ record { facts = last_facts; rows = [] } ∷ is } }

abbrev crowd : List PlainIndex → PlainFacts
crowd is = facts_of (crowded is).catalog

pub step_indices : (is : List PlainIndex) → nat_le most_indices (length (crowd is).indices) ≡ true → rollover (crowded is) (codes "s") ≡ unchanged (crowded is) (argues (codes "limit of [indices] reached"))
step_indices is most = rw most refl

-- a next index whose name is taken
pub step_next_taken : (is : List PlainIndex) → nat_le most_indices (length (crowd is).indices) ≡ false → is_taken (next_name (stream None) (pos 15000)) (crowd is) ≡ true →
    rollover (crowded is) (codes "s") ≡ unchanged (crowded is) (refused (cause.NameTaken (next_name (stream None) (pos 15000))))
step_next_taken is room held = rw (room, held) refl

-- a fold for which there is no room
pub step_fold_many : (is : List PlainIndex) → is_taken (codes "c") (crowd is) ≡ false → nat_le most_indices (length (crowd is).indices) ≡ true →
    downsample_by plain_way (crowded is) (codes "a") (codes "c") (Some second) ≡ unchanged (crowded is) (argues (codes "limit of [indices] reached"))
step_fold_many is free most = rw (free, most) refl

-- new streams, of any machine: too many streams, too many indices, and a first index whose name is taken
pub step_streams : (m : Machine) → is_taken (codes "s") (facts_of m.catalog) ≡ false → is_some (template_for (codes "s") m.catalog.templates) ≡ true →
    nat_le most_streams (length m.catalog.streams) ≡ true → put_stream m (codes "s") ≡ unchanged m (argues (codes "limit of [streams] reached"))
step_streams m free there most = rw (free, there, most) refl

pub step_first_indices : (m : Machine) → is_taken (codes "s") (facts_of m.catalog) ≡ false → is_some (template_for (codes "s") m.catalog.templates) ≡ true →
    nat_le most_streams (length m.catalog.streams) ≡ false → nat_le most_indices (length (facts_of m.catalog).indices) ≡ true → put_stream m (codes "s") ≡ unchanged m (argues (codes "limit of [indices] reached"))
step_first_indices m free there room most = rw (free, there, room, most) refl

pub step_first_taken : (m : Machine) → is_taken (codes "s") (facts_of m.catalog) ≡ false → is_some (template_for (codes "s") m.catalog.templates) ≡ true →
    nat_le most_streams (length m.catalog.streams) ≡ false → nat_le most_indices (length (facts_of m.catalog).indices) ≡ false → is_taken (first_name (codes "s") m.now) (facts_of m.catalog) ≡ true →
    put_stream m (codes "s") ≡ unchanged m (refused (cause.NameTaken (first_name (codes "s") m.now)))
step_first_taken m free there few room held = rw (free, there, few, room, held) refl

-- templates, of whatever body
pub step_changed : (body : Data) → template_refusal (facts_of (two false None [])) (template_of (codes "t") body) ≡ Some (ChangedField (codes "p") (codes "i")) →
    put_template plain (codes "t") body None ≡ unchanged plain (argues (codes "field [p] is mapped in another way in [i]"))
step_changed body is = rw is refl

pub step_many : (body : Data) → template_refusal (facts_of (two false None [])) (template_of (codes "t") body) ≡ Some (Limit Templates) →
    put_template plain (codes "t") body None ≡ unchanged plain (argues (codes "limit of [templates] reached"))
step_many body is = rw is refl

pub step_faulty : (body : Data) → put_template plain (codes "t") body (Some (record { kind = Shape; path = codes "p" }))
    ≡ unchanged plain (reply_of (wrong 400 (codes "mapper_parsing_exception") (codes "Shape [p]")))
step_faulty body = refl

-- ---- messages

-- a reading that is refused leaves the moment, and the task goes on by a series all the same
pub told_refused : (searching : Searching) →
    message_told searching plain_way (folding 0) (pos 16000) (codes "GET") (codes "x") [] ≡ record { reply = refused cause.NoSuchPath; stepped = folding 0; after = folding 1; wrote = false }
unfolding message_told request_of unit_of
told_refused searching = refl

-- what a flush as it is sent writes is the machine before its unit, at the moment of the message
abbrev kept_at : ℕ → ℤ → Machine
kept_at done now = record (folding done) { kept = true; now = now }

pub told_flush : (searching : Searching) (method target body : List ℕ) → reading_of method target body ≡ Ok flush →
    message_told searching plain_way (kept_at 0 (pos 15000)) (pos 16000) method target body ≡ record { reply = ack; stepped = kept_at 0 (pos 16000); after = kept_at 1 (pos 16000); wrote = true }
unfolding message_told step unit_of
told_flush searching method target body is = rw is refl

-- so the records are those of the machine before its unit
pub written_flush : (searching : Searching) (method target body : List ℕ) → reading_of method target body ≡ Ok flush →
    last_recorded searching plain_way None (dated (kept_at 0 (pos 15000))) (scripted method target body ∷ works ∷ []) ≡ Some (kept_at 0 (pos 15000))
unfolding message_told step unit_of
written_flush searching method target body is = rw is refl

-- one that comes at a moment of its own makes that the present, and is told by it
pub written_later : (searching : Searching) (method target body : List ℕ) → reading_of method target body ≡ Ok flush →
    last_recorded searching plain_way None (dated (kept_at 0 (pos 15000))) (linked method target body (pos 16000) ∷ []) ≡ Some (kept_at 0 (pos 16000))
unfolding message_told step unit_of
written_later searching method target body is = rw is refl

-- ---- a bulk request: each item sees what those before it left

-- a document that comes twice is taken, and then a conflict; so in either way
abbrev twice : List ℕ → List Item
twice source = item (Some source) ∷ item (Some source) ∷ []

abbrev told_twice : List Outcome
told_twice = taken (codes "a") (row_at 97 1600 1) ∷ barred (Conflict (id_of (key 97) (pos 1600))) ∷ []

pub twice_plain : (source : List ℕ) → object_of source ≡ Some (document 97 1600 1) → outcomes_of plain_way (two false None []) (twice source) ≡ told_twice
unfolding item_outcome time_fault time_of leaf.leaves_of document_cells fault_at is_utf8 chars encode_utf8
twice_plain source is = rw is refl

pub twice_seen : (source : List ℕ) → object_of source ≡ Some (document 97 1600 1) → outcomes_of seen_way (see_catalog (two false None [])) (twice source) ≡ told_twice
unfolding item_outcome time_fault time_of leaf.leaves_of document_cells fault_at is_utf8 chars encode_utf8
twice_seen source is = rw is refl

-- ---- the rows that two members offer, whose mappings differ

-- a schema that counts at another path
abbrev other_schema : Schema
other_schema = record schema {
  fields = record { path = codes "@timestamp"; kind = Date; role = Time }
      ∷ record { path = codes "host"; kind = Keyword; role = Dimension }
      ∷ record { path = codes "mem"; kind = Long; role = Counter } ∷ [];
}

abbrev other_index : PlainIndex
other_index = record { facts = record last_facts { mapping = record mapping { schema = other_schema } }; rows = row_at 98 11000 5 ∷ [] }

abbrev one_row : PlainIndex
one_row = record { facts = first_facts false; rows = row_at 97 1500 7 ∷ [] }

-- the fields of both, by path
pub joined : map (λ f. f.path) (joined_fields (facts_in (one_row ∷ other_index ∷ []))) ≡ codes "@timestamp" ∷ codes "host" ∷ codes "mem" ∷ codes "req" ∷ []
joined = refl

-- a row is offered as it is, and with a cell beside each of these; what its index doesn't map is absent
pub offered : samples_of plain_way (one_row ∷ other_index ∷ []) ≡
    record { index = codes "a"; start = pos 0; row = row_at 97 1500 7; wide = record (row_at 97 1500 7) { cells = Absent ∷ One (Word (97 ∷ [])) ∷ Absent ∷ One (Whole (pos 7)) ∷ [] } }
    ∷ record { index = codes "b"; start = pos 10000; row = row_at 98 11000 5; wide = record (row_at 98 11000 5) { cells = Absent ∷ One (Word (98 ∷ [])) ∷ One (Whole (pos 5)) ∷ Absent ∷ [] } } ∷ []
offered = refl

-- a folded index offers the fold of its rows: here of two documents in one bucket, the later value last
abbrev folded_one : PlainIndex
folded_one = record {
  facts = record (first_facts true) { interval = Some second; mapping = folded_mapping false mapping };
  rows = row_at 97 1500 7 ∷ row_at 97 1600 9 ∷ [];
}

abbrev one_fold : Row
one_fold = record (row_at 97 1000 9) { count = 2 }

pub offered_fold : samples_of plain_way (folded_one ∷ []) ≡ record { index = codes "a"; start = pos 0; row = one_fold; wide = one_fold } ∷ []
unfolding down bucket_start
offered_fold = refl

-- ---- turns

-- two units end a fold of two series
pub units_swap : (searching : Searching) → names (left_behind searching plain_way (dated (folding 0)) (works ∷ works ∷ [])).machine.catalog ≡ codes "b" ∷ codes "f" ∷ []
unfolding unit_of
units_swap searching = refl

-- what a flush writes is the machine right after its step
abbrev recorded : ℤ → Machine
recorded now = record (folding 0) { kept = true; now = now }

pub flush_written : (searching : Searching) → last_recorded searching plain_way None (dated (recorded (pos 15000))) (asks flush (pos 16000) ∷ works ∷ []) ≡ Some (recorded (pos 16000))
unfolding step unit_of
flush_written searching = refl

pub flush_told : (searching : Searching) → all_replies searching plain_way (dated (recorded (pos 15000))) (works ∷ asks flush (pos 16000) ∷ []) ≡ ack ∷ []
unfolding step unit_of
flush_told searching = refl

-- ---- replies: their members, in order

-- {"acknowledged":true}
pub ack_tree : ack ≡ record { status = 200; body = Object (tree.member (codes "acknowledged") (Flag true) ∷ []) }
ack_tree = refl

pub rolled_tree : rolled_reply (record { old = codes "i"; new = codes "j" }) ≡ record {
  status = 200;
  body = Object (
      tree.member (codes "acknowledged") (Flag true)
      ∷ tree.member (codes "old_index") (Quoted (codes "i"))
      ∷ tree.member (codes "new_index") (Quoted (codes "j"))
      ∷ tree.member (codes "rolled_over") (Flag true) ∷ []);
}
rolled_tree = refl

-- the write index before, and the one of the next generation
pub rolled_from : rolled_names (facts_of (two false None [])) (codes "s") (pos 15000) ≡ record { old = codes "b"; new = next_name (stream None) (pos 15000) }
rolled_from = refl

pub ran_tree : ran_reply (record { extended = 1; deleted = 0; started = 2 }) ≡ record {
  status = 200;
  body = Object (
      tree.member (codes "acknowledged") (Flag true)
      ∷ tree.member (codes "extended") (Num (pos 1))
      ∷ tree.member (codes "deleted") (Num (pos 0))
      ∷ tree.member (codes "started") (Num (pos 2)) ∷ []);
}
ran_tree = refl

-- one series of two is done
pub tasks_tree : tasks_reply (folding 1).catalog ≡ record {
  status = 200;
  body = Object (tree.member (codes "tasks") (Listed (Object (
      tree.member (codes "action") (Quoted (codes "downsample"))
      ∷ tree.member (codes "index") (Quoted (codes "a"))
      ∷ tree.member (codes "target") (Quoted (codes "f"))
      ∷ tree.member (codes "fixed_interval") (Quoted (interval_word second))
      ∷ tree.member (codes "done") (Num (pos 1))
      ∷ tree.member (codes "series") (Num (pos 2)) ∷ []) ∷ [])) ∷ []);
}
tasks_tree = refl

pub no_tasks_tree : tasks_reply (machine false None []).catalog ≡ record { status = 200; body = Object (tree.member (codes "tasks") (Listed []) ∷ []) }
no_tasks_tree = refl

pub refused_tree : refused (cause.NoSuchName (codes "m")) ≡ record {
  status = 404;
  body = Object (
      tree.member (codes "error") (Object (
      tree.member (codes "type") (Quoted (codes "index_not_found_exception"))
      ∷ tree.member (codes "reason") (Quoted (codes "no such index [m]")) ∷ []))
      ∷ tree.member (codes "status") (Num (pos 404)) ∷ []);
}
refused_tree = refl

-- an item that is taken tells its backing index, and one that is barred its stream
pub taken_tree : item_tree (item None) (taken (codes "a") (row_at 97 1600 1)) ≡ Object (tree.member (codes "create") (Object (
    tree.member (codes "_index") (Quoted (codes "a"))
    ∷ tree.member (codes "_id") (Quoted (id_of (key 97) (pos 1600)))
    ∷ tree.member (codes "result") (Quoted (codes "created"))
    ∷ tree.member (codes "status") (Num (pos 201)) ∷ [])) ∷ [])
taken_tree = refl

pub barred_tree : bulk_reply (item None ∷ []) (barred (Conflict (codes "x")) ∷ []) ≡ record {
  status = 200;
  body = Object (
      tree.member (codes "errors") (Flag true)
      ∷ tree.member (codes "items") (Listed (Object (tree.member (codes "create") (Object (
      tree.member (codes "_index") (Quoted (codes "s"))
      ∷ tree.member (codes "status") (Num (pos 409))
      ∷ tree.member (codes "error") (Object (
      tree.member (codes "type") (Quoted (codes "version_conflict_engine_exception"))
      ∷ tree.member (codes "reason") (Quoted (codes "[x]: version conflict, document already exists")) ∷ [])) ∷ [])) ∷ []) ∷ [])) ∷ []);
}
barred_tree = refl

pub no_errors : (bulk_reply (item None ∷ []) (taken (codes "a") (row_at 97 1600 1) ∷ [])).body ≡ Object (
    tree.member (codes "errors") (Flag false)
    ∷ tree.member (codes "items") (Listed (item_tree (item None) (taken (codes "a") (row_at 97 1600 1)) ∷ [])) ∷ [])
no_errors = refl

-- a document that is there, and one that isn't
pub found_tree : document_reply (first_facts false) (codes "x") (row_at 97 1500 7) ≡ record {
  status = 200;
  body = Object (
      tree.member (codes "_index") (Quoted (codes "a"))
      ∷ tree.member (codes "_id") (Quoted (codes "x"))
      ∷ tree.member (codes "found") (Flag true)
      ∷ tree.member (codes "_source") (out_of (norm schema (row_at 97 1500 7))) ∷ []);
}
found_tree = refl

pub found_document : get_document plain_way (machine false None []) (codes "a") (id_of (key 97) (pos 1500)) ≡ unchanged (machine false None []) (document_reply (first_facts false) (id_of (key 97) (pos 1500)) (row_at 97 1500 7))
found_document = rw ((bytes_eq-Decides (id_of (key 97) (pos 1500)) (id_of (key 97) (pos 1500))).1 refl) refl

pub missing_tree : no_document (codes "i") (codes "x") ≡ record {
  status = 404;
  body = Object (
      tree.member (codes "_index") (Quoted (codes "i"))
      ∷ tree.member (codes "_id") (Quoted (codes "x"))
      ∷ tree.member (codes "found") (Flag false) ∷ []);
}
missing_tree = refl

pub missing_document : get_document plain_way (machine false None []) (codes "b") (codes "x") ≡ unchanged (machine false None []) (no_document (codes "b") (codes "x"))
missing_document = refl

pub missing_index : get_document plain_way (machine false None []) (codes "s") (codes "x") ≡ unchanged (machine false None []) (refused (cause.NoSuchName (codes "s")))
missing_index = refl

-- ---- statuses and types

abbrev kind_of : Cause → ℕ × List ℕ
kind_of c = ((said c).status, (said c).kind)

abbrev item_kind_of : ItemCause → ℕ × List ℕ
item_kind_of c = ((item_said c).status, (item_said c).kind)

abbrev argument : ℕ × List ℕ
argument = (400, codes "illegal_argument_exception")

abbrev parse : ℕ × List ℕ
parse = (400, codes "parse_exception")

abbrev document_parsing : ℕ × List ℕ
document_parsing = (400, codes "document_parsing_exception")

abbrev arguments : List Cause
arguments =
    cause.NoSuchPath ∷ cause.BadParameter ∷ cause.BadMoment ∷ cause.Reserved [] ∷ cause.NoTemplate [] ∷ cause.IsWriteIndex [] []
    ∷ cause.NotBlocked [] ∷ cause.NotGreater [] [] ∷ cause.NotMultiple [] [] ∷ cause.NotMember [] [] ∷ cause.IsMember [] []
    ∷ cause.OtherMapping [] [] ∷ cause.BadWindow [] [] ∷ cause.ChangedField [] [] ∷ cause.TimeOver [] ∷ cause.Limit Streams
    ∷ cause.NoData ∷ cause.BadAction 1 ∷ cause.MissingSource 1 ∷ cause.NoItems ∷ cause.WrongField [] [] ∷ cause.NoIncrease []
    ∷ cause.WindowTooLarge 1 ∷ cause.BadSortField [] ∷ []

pub argument_kinds : map {B = ℕ × List ℕ} kind_of arguments ≡ map {B = ℕ × List ℕ} (λ c. argument) arguments
argument_kinds = refl

pub parse_kinds : map {B = ℕ × List ℕ} kind_of (cause.BadBody ∷ cause.BadQuery ∷ cause.BadAggregation ∷ cause.BadSort ∷ []) ≡ parse ∷ parse ∷ parse ∷ parse ∷ []
parse_kinds = refl

pub other_kinds : map {B = ℕ × List ℕ} kind_of (cause.BadMethod ∷ cause.NoSuchName [] ∷ cause.NameTaken [] ∷ cause.BadTemplate Shape [] ∷ cause.WrongValue [] ∷ cause.TooManyBuckets ∷ [])
    ≡ (405, codes "illegal_argument_exception") ∷ (404, codes "index_not_found_exception") ∷ (400, codes "resource_already_exists_exception")
    ∷ (400, codes "mapper_parsing_exception") ∷ (400, codes "query_shard_exception") ∷ (400, codes "too_many_buckets_exception") ∷ []
other_kinds = refl

pub link_kinds : map {B = ℕ × List ℕ} kind_of (cause.BadHead ∷ cause.NeedsLength ∷ cause.BodyTooLarge ∷ [])
    ≡ argument ∷ (411, codes "illegal_argument_exception") ∷ (413, codes "illegal_argument_exception") ∷ []
link_kinds = refl

-- the causes of items in their order
pub item_kinds : map {B = ℕ × List ℕ} item_kind_of (OnlyCreate ∷ NoStream [] ∷ NoObject ∷ WrongTime NoTime ∷ Outside (pos 0) ∷ Blocked [] ∷ BadDocument Unmapped [] ∷ NoRouting ∷ LongKey 1 ∷ Conflict [] ∷ Full [] ∷ [])
    ≡ argument ∷ (404, codes "index_not_found_exception") ∷ document_parsing ∷ document_parsing ∷ argument ∷ (403, codes "cluster_block_exception")
    ∷ (400, codes "strict_dynamic_mapping_exception") ∷ argument ∷ argument ∷ (409, codes "version_conflict_engine_exception") ∷ (429, codes "es_rejected_execution_exception") ∷ []
item_kinds = refl

pub document_kinds : map {B = ℕ × List ℕ} item_kind_of (BadDocument NotLeaf [] ∷ BadDocument WrongType [] ∷ BadDocument ManyValues [] ∷ BadDocument BadAggregate [] ∷ [])
    ≡ document_parsing ∷ document_parsing ∷ document_parsing ∷ document_parsing ∷ []
document_kinds = refl

-- ---- texts

pub no_name_text : (said (cause.NoSuchName (codes "m"))).reason ≡ codes "no such index [m]"
no_name_text = refl

pub multiple_text : (said (cause.NotMultiple (codes "90s") (codes "1m"))).reason ≡ codes "interval [90s] must be a multiple of [1m]"
multiple_text = refl

pub greater_text : (said (cause.NotGreater (codes "1m") (codes "1m"))).reason ≡ codes "interval [1m] must be greater than [1m]"
greater_text = refl

pub member_text : (said (cause.IsMember (codes "i") (codes "s"))).reason ≡ codes "[i] is a backing index of [s]"
member_text = refl

pub window_text : (said (cause.BadWindow (codes "i") (codes "s"))).reason ≡ codes "window of [i] does not fit [s]"
window_text = refl

pub mapped_text : (said (cause.ChangedField (codes "p") (codes "i"))).reason ≡ codes "field [p] is mapped in another way in [i]"
mapped_text = refl

pub limit_text : (said (cause.Limit Streams)).reason ≡ codes "limit of [streams] reached"
limit_text = refl

pub buckets_text : (said cause.TooManyBuckets).reason ≡ codes "more than [65536] buckets"
unfolding digits
buckets_text = refl

pub hits_text : (said (cause.WindowTooLarge 10001)).reason ≡ codes "from + size must be at most [10000] but was [10001]"
unfolding digits
hits_text = refl

pub conflict_text : (item_said (Conflict (codes "id"))).reason ≡ codes "[id]: version conflict, document already exists"
conflict_text = refl

pub unmapped_text : (item_said (BadDocument Unmapped (codes "x"))).reason ≡ codes "Unmapped [x]"
unmapped_text = refl
