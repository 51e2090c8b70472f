-- Which cause bars an item where two of them hold, and which keys are too long, on the machine of `Examples`.
use Rattle.std.specs.Prelude.{Err, Ok, length}
use Rattle.std.proofs.Common.{◌≡◌, ℕ, pos, List, [], ◌∷◌, Option, Some, None, true, false, refl, ap, ◌∙◌, codes}
use Rattle.bulk_json.specs.declared.action.Action.TheVariants.{Index, Update, Delete}
use Rattle.json_walk.specs.Leaves as leaf
use Rattle.rest_request.specs.Body.{object_of}
use Rattle.row_cells.specs.Mapped.{is_routed, series_bytes}
use Rattle.row_cells.specs.declared.rows.Cell.{Cell}
use Rattle.row_cells.specs.declared.rows.Cell.TheVariants.{Absent, One}
use Rattle.row_cells.specs.declared.rows.Row.{Row}
use Rattle.row_cells.specs.declared.scalars.Scalar.TheVariants.{Word}
use Rattle.row_cells.specs.declared.schemas.Schema.{Schema}
use Rattle.serde_json.specs.Data.{Data, null, boolean, number, array, object, unsigned, no_items, item as element, no_members, member}
use Rattle.series_id.specs.Keys.{keyed}
use Rattle.series_id.specs.declared.keys.KeyError.{KeyError}
use Rattle.series_id.specs.declared.keys.KeyError.TheVariants.{NoRouting, KeyTooLong}
use Rattle.stream_catalog.specs.Plain.{PlainIndex, PlainStream}
use Rattle.synthetic_source.specs.Document.{document_cells}
use Rattle.synthetic_source.specs.Faults.{fault_at, time_fault, time_of}
use Rattle.synthetic_source.specs.declared.errors.DocKind.TheVariants.{NoTime, BadTime, Unmapped, WrongType}
use Rattle.tsds_service.specs.Bulk.{barred, taken, by_cells, by_document, by_index, by_key, key_of, item_outcome}
use Rattle.tsds_service.specs.CausedLaws.{keys_caused, same_with_causes}
use Rattle.tsds_service.specs.Causes.{key_cause}
use Rattle.tsds_service.specs.declared.causes.ItemCause.{ItemCause}
use Rattle.tsds_service.specs.declared.causes.ItemCause.TheVariants.{OnlyCreate, NoStream, NoObject, WrongTime, Outside, BadDocument, NoRouting, LongKey}
use Rattle.tsds_service.specs.Examples.{schema, first_facts, stream, two, item, document, outcome}

-- ---- the action comes before the stream, and that before the source

pub action_first : item_outcome (two false None []) (record (item None) { action = Index; stream = codes "x" }) ≡ barred OnlyCreate
unfolding item_outcome
action_first = refl

pub update_barred : (source : Option (List ℕ)) → item_outcome (two false None []) (record (item source) { action = Update }) ≡ barred OnlyCreate
unfolding item_outcome
update_barred source = refl

pub delete_barred : item_outcome (two false None []) (record (item None) { action = Delete }) ≡ barred OnlyCreate
unfolding item_outcome
delete_barred = refl

-- also where the source is none of a document
pub stream_first : (source : List ℕ) → object_of source ≡ None → item_outcome (two false None []) (record (item (Some source)) { stream = codes "x" }) ≡ barred (NoStream (codes "x"))
unfolding item_outcome
stream_first source is = refl

-- an index is no stream
pub index_barred : (source : Option (List ℕ)) → item_outcome (two false None []) (record (item source) { stream = codes "a" }) ≡ barred (NoStream (codes "a"))
unfolding item_outcome
index_barred source = refl

pub source_barred : (source : List ℕ) → object_of source ≡ None → item_outcome (two false None []) (item (Some source)) ≡ barred NoObject
unfolding item_outcome
source_barred source is = rw is refl

-- ---- the time comes before windows, and before other faults

-- a stream that takes nothing before 10,000
abbrev late : PlainStream
late = record (stream None) { facts = record { name = codes "s"; template = codes "t"; generation = 2; members = codes "b" ∷ [] } }

pub time_first : by_document (two false None []) late (object no_members) ≡ barred (WrongTime NoTime)
unfolding time_fault time_of leaf.leaves_of
time_first = refl

abbrev unmapped : Data → Data
unmapped time = object (member (codes "@timestamp") time (member (codes "x") (number (unsigned 1)) no_members))

pub time_before_fault : outcome false (object (member (codes "x") (number (unsigned 1)) no_members)) ≡ barred (WrongTime NoTime)
unfolding time_fault time_of leaf.leaves_of
time_before_fault = refl

-- two times are a bad one, as is a truth value
pub two_times : outcome false (unmapped (array (element (number (unsigned 1600)) (element (number (unsigned 1600)) no_items)))) ≡ barred (WrongTime BadTime)
unfolding time_fault time_of leaf.leaves_of
two_times = refl

pub true_time : outcome false (unmapped (boolean true)) ≡ barred (WrongTime BadTime)
unfolding time_fault time_of leaf.leaves_of
true_time = refl

-- null is no time
pub null_time : outcome false (unmapped null) ≡ barred (WrongTime NoTime)
unfolding time_fault time_of leaf.leaves_of
null_time = refl

-- ---- windows come before blocks and faults

pub window_first : outcome true (document 97 20000 1) ≡ barred (Outside (pos 20000))
unfolding time_fault time_of leaf.leaves_of
window_first = refl

pub window_before_fault : outcome false (unmapped (number (unsigned 20000))) ≡ barred (Outside (pos 20000))
unfolding time_fault time_of leaf.leaves_of
window_before_fault = refl

-- ---- a fault comes before the lack of a routing field: a path that isn't mapped, and a value that isn't read

pub fault_first : outcome false (unmapped (number (unsigned 1600))) ≡ barred (BadDocument Unmapped (codes "x"))
unfolding time_fault time_of leaf.leaves_of document_cells fault_at
fault_first = refl

pub type_first : outcome false (object (member (codes "@timestamp") (number (unsigned 1600)) (member (codes "req") (boolean true) no_members))) ≡ barred (BadDocument WrongType (codes "req"))
unfolding time_fault time_of leaf.leaves_of document_cells fault_at
type_first = refl

-- ---- keys: the lack of a routing field comes before a key that is too long

pub unrouted : (s : Schema) (cells : List Cell) → is_routed s cells ≡ false → keyed s cells ≡ Err NoRouting
unrouted s cells is = rw is refl

-- the cells of a host
abbrev of_host : List ℕ → List Cell
of_host word = Absent ∷ One (Word word) ∷ Absent ∷ []

-- the longest key has 4,096 bytes
pub longest : (word : List ℕ) → length (series_bytes schema (of_host word)) ≡ 4096 → keyed schema (of_host word) ≡ Ok (series_bytes schema (of_host word))
longest word is = rw is refl

pub too_long : (word : List ℕ) → length (series_bytes schema (of_host word)) ≡ 4097 → keyed schema (of_host word) ≡ Err (KeyTooLong 4097)
too_long word is = rw is refl

key_refused : (s : Schema) (cells : List Cell) (e : KeyError) (c : ItemCause) → keyed s cells ≡ Err e → key_cause e ≡ Some c → key_of s cells ≡ Err c
key_refused s cells e c is told = (same_with_causes key_cause (keyed s cells) (keys_caused s cells)).error e c is told

key_taken : (s : Schema) (cells : List Cell) (key : List ℕ) → keyed s cells ≡ Ok key → key_of s cells ≡ Ok key
key_taken s cells key is = (same_with_causes key_cause (keyed s cells) (keys_caused s cells)).value key is

-- an item of such a key, whatever rows its index has
abbrev with_rows : List Row → PlainIndex
with_rows rows = record { facts = first_facts false; rows = rows }

pub ninth_by_key : (rows : List Row) (word : List ℕ) → length (series_bytes schema (of_host word)) ≡ 4097 → by_cells (codes "a") (with_rows rows) (pos 1600) (Ok (of_host word)) ≡ barred (LongKey 4097)
ninth_by_key rows word is = ap (by_key (codes "a") (with_rows rows) (pos 1600) (of_host word)) (key_refused schema (of_host word) (KeyTooLong 4097) (LongKey 4097) (too_long word is) refl)

pub ninth_by_document : (d : Data) (rows : List Row) (word : List ℕ) → document_cells schema true d ≡ Ok (of_host word) → length (series_bytes schema (of_host word)) ≡ 4097 →
    by_index (codes "a") (with_rows rows) (pos 1600) d ≡ barred (LongKey 4097)
ninth_by_document d rows word cells is = ap (by_cells (codes "a") (with_rows rows) (pos 1600)) cells ∙ ninth_by_key rows word is

pub eighth_by_cells : (rows : List Row) → by_cells (codes "a") (with_rows rows) (pos 1600) (Ok (Absent ∷ Absent ∷ Absent ∷ [])) ≡ barred NoRouting
eighth_by_cells rows = refl

-- and one of the longest key is taken
pub taken_longest : (word : List ℕ) → length (series_bytes schema (of_host word)) ≡ 4096 →
    by_cells (codes "a") (with_rows []) (pos 1600) (Ok (of_host word)) ≡ taken (codes "a") (record { key = series_bytes schema (of_host word); time = pos 1600; count = 1; cells = of_host word })
taken_longest word is = ap (by_key (codes "a") (with_rows []) (pos 1600) (of_host word)) (key_taken schema (of_host word) (series_bytes schema (of_host word)) (longest word is))
