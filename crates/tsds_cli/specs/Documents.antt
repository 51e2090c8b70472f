-- The plain machine: one list of documents, and what it answers.
use Rattle.std.specs.Prelude.{◌≡◌, ℕ, ◌==◌, ℤ, pos, List, [], ◌∷◌, ◌++◌, length, Bool, true, false, ◌&&◌, map, bytes_eq, codes, int_le, Option, None, Some, option_and_then, if◌then◌else◌}
use Rattle.std.specs.Option.{option_map}
use Rattle.std.specs.List.{list_any, slice_split}
use Rattle.std.specs.Str.{is_utf8}
use Rattle.std.specs.Ordering.{int_eq}
use Rattle.serde_json.specs.Data.{Data}
use Rattle.serde_json.specs.Find.{get, as_number, as_i64, as_str}
use Rattle.json_walk.specs.Names.{has_names}
use Rattle.json_walk.specs.Tree.{tree_of}
use Rattle.reply_json.specs.declared.out.Out.{Out, Flag, Num, Word, List as array, Object}
use Rattle.reply_json.specs.Trees.{member, error_tree}
use Rattle.tsds_cli.specs.Script.{Event, Moment, Request}
use Rattle.tsds_cli.specs.Ahead.{opening_of}
use Rattle.tsds_cli.specs.declared.script.Opening.{Opening}
use Rattle.tsds_cli.specs.declared.script.Opening.TheVariants as opening
use Rattle.time_text.specs.Instant.{instant_of, in_range}
use Rattle.tsds_cli.specs.declared.reply.Reply.{Reply}
use Rattle.tsds_cli.specs.Replies.{reply_line}
use Rattle.edge_face.specs.Table.{Table}
use Rattle.edge_face.specs.declared.keeper.KeepError.{KeepError}
use Rattle.edge_face.specs.declared.keeper.KeepError.TheVariants as keep_error
use Rattle.tsds_cli.specs.declared.machine.Machine.{Machine}
use Rattle.tsds_cli.specs.Play.{Act, Play, Standing}
use Rattle.tsds_cli.specs.declared.documents.Document.{Document}
use Rattle.tsds_cli.specs.declared.machine.Asked.{Asked}
use Rattle.tsds_cli.specs.declared.machine.Asked.TheVariants.{Count, Bulk, Other}
use Rattle.tsds_cli.specs.declared.documents.Outcome.{Outcome}
use Rattle.tsds_cli.specs.declared.documents.Outcome.TheVariants.{Created, Conflict, NotBuilt}

-- the whole number and the text at a name
abbrev pub whole_at : List ℕ → Data → Option ℤ
whole_at name tree = option_and_then as_i64 (option_and_then as_number (get name tree))

abbrev pub text_at : List ℕ → Data → Option (List ℕ)
text_at name tree = option_and_then as_str (get name tree)

-- of the time of a document, which has to be an instant, its host and its value
abbrev pub document_from : Option ℤ → Option (List ℕ) → Option ℤ → Option Document
document_from (Some time) (Some host) (Some v) = option_map (λ t. record { host = host; time = t; v = v }) (in_range time)
document_from (Some time) (Some host) None = None
document_from (Some time) None v = None
document_from None host v = None

-- a document has these three members and no other
abbrev pub tree_document : Data → Option Document
tree_document tree =
    if has_names (codes "@timestamp" ∷ codes "host" ∷ codes "v" ∷ []) tree
    then document_from (whole_at (codes "@timestamp") tree) (text_at (codes "host") tree) (whole_at (codes "v") tree)
    else None

-- the document that a source is, or none
unfoldable pub document_of : List ℕ → Option Document
document_of source = option_and_then tree_document (tree_of source)

-- the document has this host and time
abbrev pub is_at : List ℕ → ℤ → Document → Bool
is_at host time document = int_eq document.time time && bytes_eq document.host host

-- what becomes of a source, and the documents after it
abbrev pub outcome_from : List Document → Option Document → Outcome
outcome_from documents None = NotBuilt
outcome_from documents (Some document) = if list_any (is_at document.host document.time) documents then Conflict else Created

abbrev pub added_from : List Document → Option Document → List Document
added_from documents None = documents
added_from documents (Some document) = if list_any (is_at document.host document.time) documents then documents else documents ++ document ∷ []

abbrev pub outcomes_of : List Document → List (List ℕ) → List Outcome
outcomes_of documents [] = []
outcomes_of documents (source ∷ sources) = outcome_from documents (document_of source) ∷ outcomes_of (added_from documents (document_of source)) sources

abbrev pub documents_after : List Document → List (List ℕ) → List Document
documents_after documents [] = documents
documents_after documents (source ∷ sources) = documents_after (added_from documents (document_of source)) sources

-- the sources in the parts between a body's newlines: before each stands the action `{"create":{}}`, and the last part is empty
abbrev pub sources_of : List (List ℕ) → Option (List (List ℕ))
sources_of [] = None
sources_of (last ∷ []) = if bytes_eq last [] then Some [] else None
sources_of (action ∷ source ∷ parts) = if bytes_eq action (codes "{\"create\":{}}") then option_map (λ sources. source ∷ sources) (sources_of parts) else None

-- the sources of a bulk body that has at least one
abbrev pub some_sources : Option (List (List ℕ)) → Option (List (List ℕ))
some_sources None = None
some_sources (Some []) = None
some_sources (Some (source ∷ sources)) = Some (source ∷ sources)

abbrev pub bulk_sources : List ℕ → Option (List (List ℕ))
bulk_sources body = some_sources (sources_of (slice_split (λ b. b == 10) body))

-- a refused item
abbrev pub refused_item : ℕ → List ℕ → List ℕ → Out
refused_item status kind reason =
    Object (member (codes "create") (Object (member (codes "_index") (Word (codes "m")) ∷ member (codes "status") (Num (pos status))
    ∷ member (codes "error") (Object (member (codes "type") (Word kind) ∷ member (codes "reason") (Word reason) ∷ [])) ∷ [])) ∷ [])

-- the item of the reply
abbrev pub item_of : Outcome → Out
item_of Created =
    Object (member (codes "create") (Object (member (codes "_index") (Word (codes "m")) ∷ member (codes "result") (Word (codes "created")) ∷ member (codes "status") (Num (pos 201)) ∷ [])) ∷ [])
item_of Conflict = refused_item 409 (codes "version_conflict_engine_exception") (codes "version conflict, document already exists")
item_of NotBuilt = refused_item 400 (codes "not_built_exception") (codes "not built")

abbrev pub is_refused : Outcome → Bool
is_refused Created = false
is_refused Conflict = true
is_refused NotBuilt = true

unfoldable pub not_built : Reply
not_built = record { status = 400; tree = error_tree 400 (codes "not_built_exception") (codes "not built") }

unfoldable pub bad_moment : Reply
bad_moment = record { status = 400; tree = error_tree 400 (codes "illegal_argument_exception") (codes "bad moment") }

unfoldable pub count_reply : ℕ → Reply
count_reply count = record { status = 200; tree = Object (member (codes "count") (Num (pos count)) ∷ []) }

abbrev pub bulk_tree : Bool → List Out → Out
bulk_tree errors items = Object (member (codes "errors") (Flag errors) ∷ member (codes "items") (array items) ∷ [])

unfoldable pub bulk_reply : List Outcome → Reply
bulk_reply outcomes = record { status = 200; tree = bulk_tree (list_any is_refused outcomes) (map item_of outcomes) }

-- the two requests that are answered, byte for byte
abbrev pub asked_by : List ℕ → Asked
asked_by line =
    if bytes_eq line (codes "GET /m/_count") then Count
    else (if bytes_eq line (codes "POST /m/_bulk") then Bulk else Other)

abbrev pub bulk_to : List Document → Option (List (List ℕ)) → Reply
bulk_to documents None = not_built
bulk_to documents (Some sources) = bulk_reply (outcomes_of documents sources)

abbrev pub bulk_after : List Document → Option (List (List ℕ)) → List Document
bulk_after documents None = documents
bulk_after documents (Some sources) = documents_after documents sources

-- the reply to a request, and the documents after it
abbrev pub reply_as : Asked → List Document → List ℕ → Reply
reply_as Count documents body = count_reply (length documents)
reply_as Bulk documents body = bulk_to documents (bulk_sources body)
reply_as Other documents body = not_built

abbrev pub after_as : Asked → List Document → List ℕ → List Document
after_as Count documents body = documents
after_as Bulk documents body = bulk_after documents (bulk_sources body)
after_as Other documents body = documents

unfoldable pub reply_to : List Document → List ℕ → List ℕ → Reply
reply_to documents line body = reply_as (asked_by line) documents body

unfoldable pub after : List Document → List ℕ → List ℕ → List Document
after documents line body = after_as (asked_by line) documents body

-- the moment that a text says, unless it is earlier than the present
unfoldable pub moment_in : List ℕ → Option ℤ
moment_in text = if is_utf8 text then instant_of text else None

abbrev pub unless_earlier : ℤ → ℤ → Option ℤ
unless_earlier now moment = if int_le now moment then Some moment else None

abbrev pub not_before : ℤ → Option ℤ → Option ℤ
not_before now None = None
not_before now (Some moment) = unless_earlier now moment

-- a moment that is taken has no reply
abbrev pub moment_reply : Option ℤ → Option Reply
moment_reply None = Some bad_moment
moment_reply (Some moment) = None

abbrev pub moved : ℤ → Option ℤ → ℤ
moved now None = now
moved now (Some moment) = moment

-- the machine without documents, at moment 0
abbrev pub empty_machine : Machine
empty_machine = record { now = pos 0; documents = [] }

-- what a unit leaves, and what an event that was opened so leaves behind its step: a moment is followed by no unit
unfoldable pub unit : Machine → Machine
unit machine = machine

abbrev pub rest_of : Opening → Machine → Machine
rest_of opening.Moment machine = machine
rest_of opening.Request machine = unit machine

-- the machine's reply to an event, and its step
abbrev pub reply_of : Machine → Event → Option Reply
reply_of machine (Moment text) = moment_reply (not_before machine.now (moment_in text))
reply_of machine (Request line body) = Some (reply_to machine.documents line body)

abbrev pub stepped_of : Machine → Event → Machine
stepped_of machine (Moment text) = record { now = moved machine.now (not_before machine.now (moment_in text)); documents = machine.documents }
stepped_of machine (Request line body) = record { now = machine.now; documents = after machine.documents line body }

unfoldable pub act_of : Machine → Event → Act Machine
act_of machine event = record {
  reply = option_map reply_line (reply_of machine event);
  stepped = stepped_of machine event;
  after = rest_of (opening_of event) (stepped_of machine event);
  wrote = false;
}

-- without memory for a step it stays as it was, and it never asks its keeper
abbrev pub Stays : Machine → Event → KeepError → Machine → Type 0
Stays machine event keep_error.NoMemory state = state ≡ machine
Stays machine event keep_error.Failed state = ⊥

-- no table is its image
abbrev pub NoImage : Machine → Table → Type 0
NoImage machine table = ⊥

abbrev pub script_play : Play Machine
script_play = record { act = act_of; left = Stays; image = NoImage }

-- where a run begins: the empty machine, over an empty table
abbrev pub empty_standing : Standing Machine
empty_standing = record { state = empty_machine; table = Some [] }
