-- Items of a bulk request, one after another.
use Rattle.std.specs.Prelude.{ℕ, ℤ, pos, Bool, true, false, List, [], ◌∷◌, take, codes, Option, Some, None, Result, Ok, Err, option_and_then, unwrap_or, if◌then◌else◌}
use Rattle.std.specs.List.{list_any}
use Rattle.bulk_json.specs.Actions.{action_name}
use Rattle.bulk_json.specs.Items.{bulk_of}
use Rattle.bulk_json.specs.declared.action.Action.{Action}
use Rattle.bulk_json.specs.declared.action.Action.TheVariants.{Create, Index, Update, Delete}
use Rattle.bulk_json.specs.declared.items.Item.{Item}
use Rattle.reply_json.specs.Trees.{member}
use Rattle.reply_json.specs.declared.out.Out.{Out, Flag, Num, Word, List as list, Object}
use Rattle.rest_request.specs.Body.{object_of}
use Rattle.row_cells.specs.RowLists.{has_place}
use Rattle.row_cells.specs.declared.rows.Cell.{Cell}
use Rattle.row_cells.specs.declared.rows.Row.{Row}
use Rattle.row_cells.specs.declared.schemas.Schema.{Schema}
use Rattle.serde_json.specs.Data.{Data}
use Rattle.series_id.specs.Ids.{id_of}
use Rattle.series_id.specs.Keys.{keyed}
use Rattle.stream_catalog.specs.Lists.{with_found, stream_named}
use Rattle.stream_catalog.specs.Plain.{PlainIndex, PlainStream, PlainCatalog}
use Rattle.stream_catalog.specs.Puts.{is_full, member_at, put_into}
use Rattle.stream_catalog.specs.Ways.{Way}
use Rattle.synthetic_source.specs.Document.{document_cells}
use Rattle.synthetic_source.specs.Faults.{time_fault, time_of}
use Rattle.synthetic_source.specs.declared.errors.DocKind.{DocKind}
use Rattle.synthetic_source.specs.declared.errors.DocKind.TheVariants.{NoTime}
use Rattle.tsds_service.specs.Caused.{with_cause}
use Rattle.tsds_service.specs.CausedLaws.{bulks_caused, keys_caused}
use Rattle.tsds_service.specs.Causes.{Wrong, item_said, bulk_cause, key_cause}
use Rattle.tsds_service.specs.declared.causes.Cause.{Cause}
use Rattle.tsds_service.specs.declared.causes.ItemCause.{ItemCause}
use Rattle.tsds_service.specs.declared.causes.ItemCause.TheVariants.{OnlyCreate, NoStream, NoObject, WrongTime, Outside, Blocked, BadDocument, Conflict, Full}
use Rattle.tsds_service.specs.declared.reply.Reply.{Reply}

-- the items of a body, or why it has none
abbrev pub items_of : Option (List ℕ) → List ℕ → Result (List Item) Cause
items_of path body = with_cause bulk_cause (bulk_of path body) (bulks_caused path body)

-- an item is taken by an index, as a row, or barred
pub data Outcome : Type 0 where
  taken : List ℕ → Row → Outcome
  barred : ItemCause → Outcome

-- ---- what each look finds; the first that bars an item tells its cause

-- there is no row of this series and time yet, and there is room
abbrev pub by_place : List ℕ → PlainIndex → Row → Outcome
by_place n i row =
    if has_place row.key row.time i.rows then barred (Conflict (id_of row.key row.time))
    else (if is_full i.rows then barred (Full n) else taken n row)

-- the key of a series, or why it has none
abbrev pub key_of : Schema → List Cell → Result (List ℕ) ItemCause
key_of schema cells = with_cause key_cause (keyed schema cells) (keys_caused schema cells)

-- the series has a key
abbrev pub by_key : List ℕ → PlainIndex → ℤ → List Cell → Result (List ℕ) ItemCause → Outcome
by_key n i time cells (Ok key) = by_place n i (record { key = key; time = time; count = 1; cells = cells })
by_key n i time cells (Err cause) = barred cause

-- the document has no fault
abbrev pub by_cells : List ℕ → PlainIndex → ℤ → Result (List Cell) (DocKind × List ℕ) → Outcome
by_cells n i time (Ok cells) = by_key n i time cells (key_of i.facts.mapping.schema cells)
by_cells n i time (Err fault) = barred (BadDocument fault.0 fault.1)

-- what the index's mapping makes of the document
abbrev pub by_index : List ℕ → PlainIndex → ℤ → Data → Outcome
by_index n i time d = by_cells n i time (document_cells i.facts.mapping.schema i.facts.mapping.strict d)

-- a member of the stream has the time in its window, and takes documents; a blocked one is told by its name
abbrev pub by_pick : ℤ → Data → Option PlainIndex → Outcome
by_pick time d None = barred (Outside time)
by_pick time d (Some i) = if i.facts.blocked then barred (Blocked i.facts.name) else by_index i.facts.name i time d

-- the document has a time; where it has none, that is at fault
abbrev pub by_time : PlainCatalog → PlainStream → Data → Option ℤ → Outcome
by_time c s d (Some time) = by_pick time d (member_at c time s)
by_time c s d None = barred (WrongTime (unwrap_or (time_fault d) NoTime))

-- what comes of a document of a stream
abbrev pub by_document : PlainCatalog → PlainStream → Data → Outcome
by_document c s d = by_time c s d (time_of d)

-- a stream has the name, and the source is an object
abbrev pub by_stream : PlainCatalog → List ℕ → Option (List ℕ) → Outcome
by_stream c name source =
    with_found (stream_named name c.streams) (barred (NoStream name)) (λ s.
    with_found (option_and_then object_of source) (barred NoObject) (by_document c s))

-- what comes of an item: streams take new documents alone
abbrev pub by_action : PlainCatalog → Action → List ℕ → Option (List ℕ) → Outcome
by_action c Create name source = by_stream c name source
by_action c Index name source = barred OnlyCreate
by_action c Update name source = barred OnlyCreate
by_action c Delete name source = barred OnlyCreate

unfoldable pub item_outcome : PlainCatalog → Item → Outcome
item_outcome c item = by_action c item.action item.stream item.source

-- ---- what items leave: each sees what those before it left

abbrev pub after_outcome : Way → PlainCatalog → Outcome → PlainCatalog
after_outcome way c (taken index row) = put_into way c index row
after_outcome way c (barred cause) = c

abbrev pub after_item : Way → PlainCatalog → Item → PlainCatalog
after_item way c item = after_outcome way c (item_outcome c item)

abbrev pub outcomes_of : Way → PlainCatalog → List Item → List Outcome
outcomes_of way c [] = []
outcomes_of way c (item ∷ items) = item_outcome c item ∷ outcomes_of way (after_item way c item) items

abbrev pub after_items : Way → PlainCatalog → List Item → PlainCatalog
after_items way c [] = c
after_items way c (item ∷ items) = after_items way (after_item way c item) items

-- after the first k items alone
abbrev pub after_first : Way → PlainCatalog → ℕ → List Item → PlainCatalog
after_first way c k items = after_items way c (take k items)

-- ---- the reply

abbrev pub wrong_tree : List ℕ → Wrong → Out
wrong_tree stream w = Object (
    member (codes "_index") (Word stream)
    ∷ member (codes "status") (Num (pos w.status))
    ∷ member (codes "error") (Object (member (codes "type") (Word w.kind) ∷ member (codes "reason") (Word w.reason) ∷ [])) ∷ [])

-- what is said of an item that an index took, under its id
abbrev pub created_tree : List ℕ → List ℕ → Out
created_tree index id = Object (
    member (codes "_index") (Word index)
    ∷ member (codes "_id") (Word id)
    ∷ member (codes "result") (Word (codes "created"))
    ∷ member (codes "status") (Num (pos 201)) ∷ [])

abbrev pub outcome_tree : List ℕ → Outcome → Out
outcome_tree stream (taken index row) = created_tree index (id_of row.key row.time)
outcome_tree stream (barred cause) = wrong_tree stream (item_said cause)

-- an object whose one member is named as the action
abbrev pub under_action : Action → Out → Out
under_action action said = Object (member (action_name action) said ∷ [])

abbrev pub item_tree : Item → Outcome → Out
item_tree item outcome = under_action item.action (outcome_tree item.stream outcome)

abbrev pub item_trees : List Item → List Outcome → List Out
item_trees (item ∷ items) (outcome ∷ outcomes) = item_tree item outcome ∷ item_trees items outcomes
item_trees items outcomes = []

abbrev pub is_barred : Outcome → Bool
is_barred (taken index row) = false
is_barred (barred cause) = true

-- whether an item was barred, and what is said of all
abbrev pub bulk_told : Bool → List Out → Reply
bulk_told errors trees = record {
  status = 200;
  body = Object (member (codes "errors") (Flag errors) ∷ member (codes "items") (list trees) ∷ []);
}

abbrev pub bulk_reply : List Item → List Outcome → Reply
bulk_reply items outcomes = bulk_told (list_any is_barred outcomes) (item_trees items outcomes)
