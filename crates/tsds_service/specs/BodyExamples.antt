-- Bodies of requests and what comes of those that ask for nothing, worked out.
use Rattle.std.specs.Char.{encode_utf8}
use Rattle.std.specs.Str.{is_utf8, chars}
use Rattle.std.specs.Prelude.{Err, Ok, length, nat_le, ◌&&◌, if◌then◌else◌}
use Rattle.std.specs.Option.{option_map}
use Rattle.std.proofs.Common.{◌≡◌, Bool, ℕ, pos, List, [], ◌∷◌, Option, Some, None, true, false, refl, ap, ◌∙◌, codes}
use Rattle.bulk_json.specs.Items.{bulk_of}
use Rattle.bulk_json.specs.declared.errors.BulkError.{BulkError}
use Rattle.bulk_json.specs.declared.items.Item.{Item}
use Rattle.bulk_json.specs.declared.errors.BulkError.TheVariants.{BadAction, MissingSource, Empty}
use Rattle.json_walk.specs.Leaves as leaf
use Rattle.lifecycle_swap.specs.Bodies.{lifecycle_of}
use Rattle.lifecycle_swap.specs.declared.lifecycles.Lifecycle.{Lifecycle}
use Rattle.rest_request.specs.Body.{object_of}
use Rattle.rest_request.specs.Message as asked
use Rattle.serde_json.specs.Data.{Data, null, boolean, number, string, array, object, unsigned, Items, no_items, item as element, no_members, member}
use Rattle.stream_catalog.specs.Puts.{put_into}
use Rattle.stream_catalog.specs.Ways.{Way, plain_way}
use Rattle.stream_catalog.specs.declared.answers.Move.{Move}
use Rattle.stream_catalog.specs.declared.answers.Move.TheVariants.{Remove, Add}
use Rattle.synthetic_source.specs.Document.{document_cells}
use Rattle.synthetic_source.specs.Faults.{fault_at, time_fault, time_of}
use Rattle.time_text.specs.Interval.{interval_in, ms_of}
use Rattle.time_text.specs.Interval as time
use Rattle.time_text.specs.Unit.{unit_of}
use Rattle.tsds_service.specs.Bodies.{fixed_interval_of, moves_in, moves_of}
use Rattle.tsds_service.specs.Bulk.{taken, item_outcome, items_of, bulk_reply}
use Rattle.tsds_service.specs.CausedLaws.{bulks_caused, same_with_causes}
use Rattle.tsds_service.specs.declared.causes.Cause.TheVariants as cause
use Rattle.tsds_service.specs.Causes.{refused, bulk_cause}
use Rattle.tsds_service.specs.declared.causes.Cause.{Cause}
use Rattle.tsds_service.specs.Examples.{row_at, first_facts, last_facts, first_index, two, item, document, machine, plain, move_of, move_one}
use Rattle.tsds_service.specs.Machine.{Machine}
use Rattle.tsds_service.specs.Questions.{Searching, samples_of}
use Rattle.tsds_service.specs.Replies.{ack}
use Rattle.tsds_service.specs.Requests.{unchanged, bulk, modify, put_lifecycle, step_of}

-- ---- the interval of a downsampling

abbrev asked_for : Data → Option ℕ
asked_for body = option_map ms_of (fixed_interval_of body)

abbrev by_text : List ℕ → Data
by_text text = object (member (codes "fixed_interval") (string text) no_members)

pub interval_hours : asked_for (by_text (codes "2h")) ≡ Some 7_200_000
unfolding interval_in time.interval_of unit_of
interval_hours = refl

pub interval_millis : asked_for (by_text (codes "250ms")) ≡ Some 250
unfolding interval_in time.interval_of unit_of
interval_millis = refl

-- no unit, another unit, nothing of it, a zero in front, and more than there is time
pub interval_bare : asked_for (by_text (codes "60")) ≡ None
unfolding interval_in time.interval_of unit_of
interval_bare = refl

pub interval_weeks : asked_for (by_text (codes "1w")) ≡ None
unfolding interval_in time.interval_of unit_of
interval_weeks = refl

pub interval_zero : asked_for (by_text (codes "0s")) ≡ None
unfolding interval_in time.interval_of unit_of
interval_zero = refl

pub interval_padded : asked_for (by_text (codes "01h")) ≡ None
unfolding interval_in time.interval_of unit_of
interval_padded = refl

pub interval_long : asked_for (by_text (codes "9999999d")) ≡ None
unfolding interval_in time.interval_of unit_of
interval_long = refl

-- no text; and no member, another one, or one more
pub interval_number : fixed_interval_of (object (member (codes "fixed_interval") (number (unsigned 1000)) no_members)) ≡ None
interval_number = refl

pub interval_missing : fixed_interval_of (object no_members) ≡ None
interval_missing = refl

pub interval_other : fixed_interval_of (object (member (codes "interval") (string (codes "1h")) no_members)) ≡ None
interval_other = refl

pub interval_beside : fixed_interval_of (object (member (codes "fixed_interval") (string (codes "1h")) (member (codes "force") (boolean true) no_members))) ≡ None
interval_beside = refl

pub interval_listed : fixed_interval_of (array no_items) ≡ None
interval_listed = refl

-- ---- moves

abbrev actions : Data → Data
actions listed = object (member (codes "actions") listed no_members)

-- one, and two in their order
pub moves_one : moves_of (move_one (codes "remove_backing_index") (codes "a")) ≡ Some (Remove (codes "s") (codes "a") ∷ [])
moves_one = refl

pub moves_two : moves_of (actions (array (element (move_of (codes "remove_backing_index") (codes "a")) (element (move_of (codes "add_backing_index") (codes "c")) no_items))))
    ≡ Some (Remove (codes "s") (codes "a") ∷ Add (codes "s") (codes "c") ∷ [])
moves_two = refl

-- none at all
pub moves_none : moves_of (actions (array no_items)) ≡ None
moves_none = refl

-- up to 1,000 of them, and not one more
pub moves_most : (listed : Items) (ms : List Move) → moves_in listed ≡ Some ms → nat_le 1 (length ms) ≡ true → nat_le (length ms) 1_000 ≡ true → moves_of (actions (array listed)) ≡ Some ms
moves_most listed ms are some few = rw (are, some, few) refl

pub moves_many : (listed : Items) (ms : List Move) → moves_in listed ≡ Some ms → nat_le (length ms) 1_000 ≡ false → moves_of (actions (array listed)) ≡ None
moves_many listed ms are many = rw (are, many) (by_some (nat_le 1 (length ms)))
  where
    by_some : (b : Bool) → (if b && false then Some ms else None) ≡ None
    by_some true = refl
    by_some false = refl

-- one that is none makes the whole none
pub moves_unknown : moves_of (actions (array (element (move_of (codes "remove_backing_index") (codes "a")) (element (move_of (codes "swap_backing_index") (codes "c")) no_items)))) ≡ None
moves_unknown = refl

-- an action is an object of one member, and names a stream and an index by texts, and nothing else
pub moves_empty : moves_of (actions (array (element (object no_members) no_items))) ≡ None
moves_empty = refl

pub moves_nameless : moves_of (actions (array (element (object (member (codes "add_backing_index") (object (member (codes "data_stream") (string (codes "s")) no_members)) no_members)) no_items))) ≡ None
moves_nameless = refl

pub moves_numbered : moves_of (actions (array (element (object (member (codes "add_backing_index") (object (
    member (codes "data_stream") (string (codes "s")) (member (codes "index") (number (unsigned 1)) no_members))) no_members)) no_items))) ≡ None
moves_numbered = refl

pub moves_beside : moves_of (actions (array (element (object (member (codes "add_backing_index") (object (
    member (codes "data_stream") (string (codes "s")) (member (codes "index") (string (codes "a")) (member (codes "now") (boolean true) no_members)))) no_members)) no_items))) ≡ None
moves_beside = refl

-- actions are a list, and the body's one member
pub moves_null : moves_of (actions null) ≡ None
moves_null = refl

pub moves_missing : moves_of (object no_members) ≡ None
moves_missing = refl

pub moves_more : moves_of (object (member (codes "actions") (array (element (move_of (codes "remove_backing_index") (codes "a")) no_items)) (member (codes "dry_run") (boolean true) no_members))) ≡ None
moves_more = refl

-- such a body is refused
pub modify_refused : modify plain (actions (array no_items)) ≡ unchanged plain (refused cause.BadBody)
modify_refused = refl

-- ---- a lifecycle: the stream is looked for before the body is read

pub life_nowhere : (body : Data) → put_lifecycle plain (codes "x") body ≡ unchanged plain (refused (cause.NoSuchName (codes "x")))
life_nowhere body = refl

-- an index is no stream
pub life_of_index : (body : Data) → put_lifecycle plain (codes "a") body ≡ unchanged plain (refused (cause.NoSuchName (codes "a")))
life_of_index body = refl

pub life_refused : (body : Data) → lifecycle_of body ≡ None → put_lifecycle plain (codes "s") body ≡ unchanged plain (refused cause.BadBody)
life_refused body is = rw is refl

pub life_null : put_lifecycle plain (codes "s") (object (member (codes "data_retention") null no_members)) ≡ unchanged plain (refused cause.BadBody)
unfolding lifecycle_of
life_null = refl

pub life_taken : (body : Data) (life : Lifecycle) → lifecycle_of body ≡ Some life → put_lifecycle plain (codes "s") body ≡ record { reply = ack; machine = machine false (Some life) []; wrote = false }
life_taken body life is = rw is refl

-- an empty object is a lifecycle too, in which nothing is deleted or folded
pub life_empty : put_lifecycle plain (codes "s") (object no_members) ≡ record { reply = ack; machine = machine false (Some (record { retention = None; rounds = [] })) []; wrote = false }
unfolding lifecycle_of
life_empty = refl

-- ---- a bulk request whose body has a fault leaves the machine, and tells the line

items_refused : (path : Option (List ℕ)) (body : List ℕ) (e : BulkError) (c : Cause) → bulk_of path body ≡ Err e → bulk_cause e ≡ Some c → items_of path body ≡ Err c
items_refused path body e c is told = (same_with_causes bulk_cause (bulk_of path body) (bulks_caused path body)).error e c is told

items_taken : (path : Option (List ℕ)) (body : List ℕ) (items : List Item) → bulk_of path body ≡ Ok items → items_of path body ≡ Ok items
items_taken path body items is = (same_with_causes bulk_cause (bulk_of path body) (bulks_caused path body)).value items is

pub bulk_action : (searching : Searching) (way : Way) (m : Machine) (path : Option (List ℕ)) (body : List ℕ) → bulk_of path body ≡ Err (BadAction 3) →
    step_of searching way m (asked.bulk path body) ≡ unchanged m (refused (cause.BadAction 3))
bulk_action searching way m path body is = ap (bulk way m) (items_refused path body (BadAction 3) (cause.BadAction 3) is refl)

pub bulk_source : (searching : Searching) (way : Way) (m : Machine) (path : Option (List ℕ)) (body : List ℕ) → bulk_of path body ≡ Err (MissingSource 7) →
    step_of searching way m (asked.bulk path body) ≡ unchanged m (refused (cause.MissingSource 7))
bulk_source searching way m path body is = ap (bulk way m) (items_refused path body (MissingSource 7) (cause.MissingSource 7) is refl)

pub bulk_empty : (searching : Searching) (way : Way) (m : Machine) (path : Option (List ℕ)) (body : List ℕ) → bulk_of path body ≡ Err Empty →
    step_of searching way m (asked.bulk path body) ≡ unchanged m (refused cause.NoItems)
bulk_empty searching way m path body is = ap (bulk way m) (items_refused path body Empty cause.NoItems is refl)

-- one that is taken puts a row, and tells the index
pub bulk_taken : (searching : Searching) (path : Option (List ℕ)) (body source : List ℕ) → bulk_of path body ≡ Ok (item (Some source) ∷ []) → object_of source ≡ Some (document 97 1600 1) →
    step_of searching plain_way plain (asked.bulk path body) ≡ record {
      reply = bulk_reply (item (Some source) ∷ []) (taken (codes "a") (row_at 97 1600 1) ∷ []);
      machine = record plain { catalog = put_into plain_way (two false None []) (codes "a") (row_at 97 1600 1) };
      wrote = false;
    }
unfolding item_outcome time_fault time_of leaf.leaves_of document_cells fault_at is_utf8 chars encode_utf8
bulk_taken searching path body source items is = ap (bulk plain_way plain) (items_taken path body (item (Some source) ∷ []) items) ∙ rw is refl

-- ---- searches and counts: of a name that nothing has, of a stream, and of an index

pub search_nothing : (searching : Searching) (way : Way) (body : Option Data) → step_of searching way plain (asked.search_rows (codes "x") body) ≡ unchanged plain (refused (cause.NoSuchName (codes "x")))
search_nothing searching way body = refl

pub count_nothing : (searching : Searching) (way : Way) (body : Option Data) → step_of searching way plain (asked.count_rows (codes "x") body) ≡ unchanged plain (refused (cause.NoSuchName (codes "x")))
count_nothing searching way body = refl

-- a template is no target
pub search_template : (searching : Searching) (way : Way) (body : Option Data) → step_of searching way plain (asked.search_rows (codes "t") body) ≡ unchanged plain (refused (cause.NoSuchName (codes "t")))
search_template searching way body = refl

-- all members of a stream are asked, at the present moment
pub search_stream : (searching : Searching) (body : Option Data) → step_of searching plain_way plain (asked.search_rows (codes "s") body)
    ≡ unchanged plain (searching.search (pos 15000) (first_facts false ∷ last_facts ∷ []) (samples_of plain_way (first_index false ∷ record { facts = last_facts; rows = [] } ∷ [])) body)
search_stream searching body = refl

-- and of an index it alone
pub count_index : (searching : Searching) (body : Option Data) → step_of searching plain_way plain (asked.count_rows (codes "a") body)
    ≡ unchanged plain (searching.count (pos 15000) (first_facts false ∷ []) (samples_of plain_way (first_index false ∷ [])) body)
count_index searching body = refl
