-- What requests that are accepted answer and leave, through the step, on the machine of `Examples`.
use Rattle.std.specs.Fmt.{digits}
use Rattle.std.proofs.Common.{◌≡◌, ℕ, pos, List, [], ◌∷◌, Some, None, true, false, refl, codes}
use Rattle.index_names.specs.Patterns.{pattern_takes}
use Rattle.index_names.specs.Backing.{backing_name}
use Rattle.reply_json.specs.Trees as tree
use Rattle.reply_json.specs.declared.out.Out.{Out, Null, Flag, Num, Word as Quoted, List as Listed, Object}
use Rattle.rest_request.specs.Message as asked
use Rattle.serde_json.specs.Data.{Data}
use Rattle.stream_catalog.specs.Indices.{folded_mapping}
use Rattle.stream_catalog.specs.Plain.{PlainStream}
use Rattle.stream_catalog.specs.Streams.{created, next_name, rolled_over}
use Rattle.stream_catalog.specs.Ways.{Way}
use Rattle.stream_catalog.specs.declared.facts.HeldIndex.{HeldIndex}
use Rattle.time_text.specs.Printed.{day_text, instant_text}
use Rattle.ts_mapping.specs.Faults.{refusal_of}
use Rattle.ts_mapping.specs.Templates.{template_of}
use Rattle.ts_mapping.specs.declared.templates.Template.{Template}
use Rattle.tsds_service.specs.declared.causes.Cause.TheVariants as cause
use Rattle.tsds_service.specs.Causes.{refused}
use Rattle.tsds_service.specs.Examples.{mapping, first_facts, last_facts, template, stream, two, machine, second, names, plain, move_one, folding}
use Rattle.tsds_service.specs.Machine.{Machine}
use Rattle.tsds_service.specs.Questions.{Searching}
use Rattle.tsds_service.specs.Replies.{ack, blocked_reply, rolled_reply, tasks_reply}
use Rattle.tsds_service.specs.Requests.{unchanged, put_template, put_stream, get_stream, delete_stream, rollover, block, delete_index, modify, step_of}

-- ---- a stream of two members: the first folded, under a name that stands behind that of the other, and the second not

abbrev folded_facts : HeldIndex
folded_facts = record (first_facts true) { name = codes "f"; interval = Some second; mapping = folded_mapping true mapping }

abbrev folded_stream : PlainStream
folded_stream = record (stream None) { facts = record { name = codes "s"; template = codes "t"; generation = 2; members = codes "f" ∷ codes "b" ∷ [] } }

abbrev folded : Machine
folded = record plain {
  catalog = record (two false None []) {
    streams = folded_stream ∷ [];
    indices = record { facts = last_facts; rows = [] } ∷ record { facts = folded_facts; rows = [] } ∷ [];
  };
}

-- members stand by their windows; a null where there is no interval
abbrev told_stream : Out
told_stream = Object (
    tree.member (codes "name") (Quoted (codes "s"))
    ∷ tree.member (codes "timestamp_field") (Object (tree.member (codes "name") (Quoted (codes "@timestamp")) ∷ []))
    ∷ tree.member (codes "indices") (Listed (
    Object (
    tree.member (codes "index_name") (Quoted (codes "f"))
    ∷ tree.member (codes "start") (Quoted (instant_text (pos 0)))
    ∷ tree.member (codes "end") (Quoted (instant_text (pos 10000)))
    ∷ tree.member (codes "fixed_interval") (Quoted (codes "1s"))
    ∷ tree.member (codes "blocked") (Flag true) ∷ [])
    ∷ Object (
    tree.member (codes "index_name") (Quoted (codes "b"))
    ∷ tree.member (codes "start") (Quoted (instant_text (pos 10000)))
    ∷ tree.member (codes "end") (Quoted (instant_text (pos 20000)))
    ∷ tree.member (codes "fixed_interval") Null
    ∷ tree.member (codes "blocked") (Flag false) ∷ []) ∷ []))
    ∷ tree.member (codes "generation") (Num (pos 2))
    ∷ tree.member (codes "template") (Quoted (codes "t")) ∷ [])

pub stream_told : get_stream folded (codes "s") ≡ unchanged folded (record { status = 200; body = Object (tree.member (codes "data_streams") (Listed (told_stream ∷ [])) ∷ []) })
unfolding digits
stream_told = refl

-- an index and a template are no streams
pub stream_of_index : get_stream folded (codes "b") ≡ unchanged folded (refused (cause.NoSuchName (codes "b")))
stream_of_index = refl

pub stream_of_template : get_stream folded (codes "t") ≡ unchanged folded (refused (cause.NoSuchName (codes "t")))
stream_of_template = refl

-- ---- a block

pub blocked_tree : blocked_reply (codes "a") ≡ record {
  status = 200;
  body = Object (
      tree.member (codes "acknowledged") (Flag true)
      ∷ tree.member (codes "indices") (Listed (Object (tree.member (codes "name") (Quoted (codes "a")) ∷ tree.member (codes "blocked") (Flag true) ∷ []) ∷ [])) ∷ []);
}
blocked_tree = refl

pub block_taken : block plain (codes "a") ≡ record { reply = blocked_reply (codes "a"); machine = machine true None []; wrote = false }
block_taken = refl

-- also where it took no documents
pub block_again : block (machine true None []) (codes "a") ≡ unchanged (machine true None []) (blocked_reply (codes "a"))
block_again = refl

-- a stream is no index
pub block_of_stream : block plain (codes "s") ≡ unchanged plain (refused (cause.NoSuchName (codes "s")))
block_of_stream = refl

-- ---- templates and streams

-- of a body that gives this template, which looks further ahead
abbrev renewed : Template
renewed = record template { look_ahead = pos 120000 }

pub template_taken : (body : Data) → template_of (codes "t") body ≡ renewed →
    put_template plain (codes "t") body None ≡ record { reply = ack; machine = record plain { catalog = record (two false None []) { templates = renewed ∷ [] } }; wrote = false }
template_taken body is = rw is refl

abbrev streamless : Machine
streamless = record plain { catalog = record { templates = template ∷ []; streams = []; indices = []; tasks = [] } }

pub stream_made : put_stream streamless (codes "s") ≡ record { reply = ack; machine = record streamless { catalog = created streamless.catalog (codes "s") (pos 15000) }; wrote = false }
unfolding pattern_takes backing_name day_text
stream_made = refl

pub stream_gone : delete_stream (folding 1) (codes "s") ≡ record { reply = ack; machine = streamless; wrote = false }
stream_gone = refl

pub stream_not_gone : delete_stream plain (codes "a") ≡ unchanged plain (refused (cause.NoSuchName (codes "a")))
stream_not_gone = refl

-- the reply names the write index before and after
pub rolled : rollover plain (codes "s") ≡ record {
  reply = rolled_reply (record { old = codes "b"; new = next_name (stream None) (pos 15000) });
  machine = record plain { catalog = rolled_over (two false None []) (codes "s") (pos 15000) };
  wrote = false;
}
unfolding backing_name day_text
rolled = refl

pub rolled_nowhere : rollover plain (codes "b") ≡ unchanged plain (refused (cause.NoSuchName (codes "b")))
rolled_nowhere = refl

-- ---- indices

-- an index that goes leaves its stream, and takes its task along
pub index_gone : delete_index (folding 1) (codes "a") ≡ record {
  reply = ack;
  machine = record plain {
    catalog = record {
      templates = template ∷ [];
      streams = record (stream None) { facts = record { name = codes "s"; template = codes "t"; generation = 2; members = codes "b" ∷ [] } } ∷ [];
      indices = record { facts = last_facts; rows = [] } ∷ [];
      tasks = [];
    };
  };
  wrote = false;
}
index_gone = refl

pub index_not_gone : delete_index plain (codes "s") ≡ unchanged plain (refused (cause.NoSuchName (codes "s")))
index_not_gone = refl

-- a member that is taken out stays as an index; one that comes back stands where its window is
pub moved_out : (modify (folding 1) (move_one (codes "remove_backing_index") (codes "a"))).reply ≡ ack
moved_out = refl

pub moved_out_names : names (modify (folding 1) (move_one (codes "remove_backing_index") (codes "a"))).machine.catalog ≡ codes "a" ∷ codes "b" ∷ []
moved_out_names = refl

pub moved_back : modify (modify plain (move_one (codes "remove_backing_index") (codes "a"))).machine (move_one (codes "add_backing_index") (codes "a")) ≡ unchanged plain ack
moved_back = refl

-- ---- which request asks for which of these, at the present that it comes with

pub asked_template : (searching : Searching) (way : Way) (m : Machine) (name : List ℕ) (body : Data) → step_of searching way m (asked.put_template name body) ≡ put_template m name body (refusal_of body)
asked_template searching way m name body = refl

pub asked_stream : (searching : Searching) (way : Way) (m : Machine) (name : List ℕ) → step_of searching way m (asked.get_stream name) ≡ get_stream m name
asked_stream searching way m name = refl

pub asked_tasks : (searching : Searching) (way : Way) → step_of searching way (folding 1) asked.tasks ≡ unchanged (folding 1) (tasks_reply (folding 1).catalog)
asked_tasks searching way = refl
