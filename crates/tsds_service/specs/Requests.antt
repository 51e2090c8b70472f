-- What a machine replies to a request at a moment, and what it is then: one step.
use Rattle.std.specs.Prelude.{ℕ, ℤ, Bool, true, false, List, [], Option, Some, None, Result, Ok, Err, if◌then◌else◌}
use Rattle.std.specs.Option.{option_map}
use Rattle.bulk_json.specs.declared.items.Item.{Item}
use Rattle.downsample_fold.specs.declared.intervals.IntervalError.TheVariants.{NotGreater, NotMultiple}
use Rattle.lifecycle_swap.specs.Bodies.{lifecycle_of}
use Rattle.rest_request.specs.Message as asked
use Rattle.rest_request.specs.Message.{Message}
use Rattle.serde_json.specs.Data.{Data}
use Rattle.stream_catalog.specs.Indices.{block_refusal, blocked_in, downsample_refusal, downsampled, delete_refusal, index_deleted}
use Rattle.stream_catalog.specs.Lists.{when, on_found, with_found, stream_named, facts_named, index_named}
use Rattle.stream_catalog.specs.Moves.{moves_refusal, moved_all}
use Rattle.stream_catalog.specs.Names.{is_taken}
use Rattle.stream_catalog.specs.Plain.{PlainCatalog, PlainFacts, facts_of}
use Rattle.stream_catalog.specs.Runs.{lifecycle_run}
use Rattle.stream_catalog.specs.Streams.{template_refusal, template_put, create_refusal, created, named_refusal, stream_deleted, life_set, write_name, rollover_refusal, rolled_over, rolled_names}
use Rattle.stream_catalog.specs.Ways.{Way}
use Rattle.stream_catalog.specs.declared.answers.Refusal.{Refusal}
use Rattle.stream_catalog.specs.declared.answers.Refusal.TheVariants as of_catalog
use Rattle.time_text.specs.declared.intervals.Interval.{Interval}
use Rattle.ts_mapping.specs.Faults.{refusal_of}
use Rattle.ts_mapping.specs.Templates.{template_of}
use Rattle.ts_mapping.specs.declared.faults.Fault.{Fault}
use Rattle.tsds_service.specs.Bodies.{fixed_interval_of, moves_of}
use Rattle.tsds_service.specs.Bulk.{items_of, outcomes_of, after_items, bulk_reply}
use Rattle.tsds_service.specs.declared.causes.Cause.TheVariants as cause
use Rattle.tsds_service.specs.Causes.{refused}
use Rattle.tsds_service.specs.declared.causes.Cause.{Cause}
use Rattle.tsds_service.specs.Machine.{Machine, see}
use Rattle.tsds_service.specs.Questions.{Searching, facts_in, samples_of, target_of, get_reply}
use Rattle.tsds_service.specs.Replies.{ack, interval_word, stream_reply, rolled_reply, blocked_reply, ran_reply, tasks_reply}
use Rattle.tsds_service.specs.declared.layer_causes.About.{About}
use Rattle.tsds_service.specs.declared.reply.Reply.{Reply}

-- a reply, the machine then, and whether its records were written
pub record Stepped : Type 0 where
  pub reply : Reply
  pub machine : Machine
  pub wrote : Bool

abbrev pub see_stepped : Stepped → Stepped
see_stepped s = record s { machine = see s.machine }

-- ---- answers

-- a reply that leaves the machine as it is
abbrev pub unchanged : Machine → Reply → Stepped
unchanged m reply = record { reply = reply; machine = m; wrote = false }

-- a reply, and another catalogue
abbrev pub changed : Machine → Reply → PlainCatalog → Stepped
changed m reply catalog = record { reply = reply; machine = record m { catalog = catalog }; wrote = false }

-- where there is a cause it is told and all stays
abbrev pub unless : Option Cause → Machine → Stepped → Stepped
unless None m answer = answer
unless (Some c) m answer = unchanged m (refused c)

-- ---- causes of what a catalogue refuses

-- what a refusal is told as
abbrev pub catalog_cause : About → Refusal → Cause
catalog_cause a (of_catalog.NoSuchName name) = cause.NoSuchName name
catalog_cause a (of_catalog.NameTaken name) = cause.NameTaken name
catalog_cause a of_catalog.NoTemplate = cause.NoTemplate a.name
catalog_cause a of_catalog.Reserved = cause.Reserved a.name
catalog_cause a (of_catalog.IsWriteIndex stream index) = cause.IsWriteIndex index stream
catalog_cause a of_catalog.NotBlocked = cause.NotBlocked a.index
catalog_cause a (of_catalog.Interval (NotGreater had asked)) = cause.NotGreater a.by a.had
catalog_cause a (of_catalog.Interval (NotMultiple had asked)) = cause.NotMultiple a.by a.had
catalog_cause a (of_catalog.NotMember stream index) = cause.NotMember index stream
catalog_cause a (of_catalog.IsMember stream index) = cause.IsMember index stream
catalog_cause a (of_catalog.OtherMapping stream index) = cause.OtherMapping index stream
catalog_cause a (of_catalog.BadWindow stream index) = cause.BadWindow index stream
catalog_cause a (of_catalog.Limit what) = cause.Limit what
catalog_cause a of_catalog.TimeOver = cause.TimeOver a.index
catalog_cause a (of_catalog.ChangedField path index) = cause.ChangedField path index

-- what asks for a new name alone
abbrev pub about_name : List ℕ → About
about_name name = record { name = name; index = []; by = []; had = [] }

abbrev pub about_index : List ℕ → About
about_index index = record { name = []; index = index; by = []; had = [] }

abbrev pub caused : About → Option Refusal → Option Cause
caused a refusal = option_map (catalog_cause a) refusal

-- ---- templates and streams

abbrev pub put_template : Machine → List ℕ → Data → Option Fault → Stepped
put_template m name body (Some fault) = unchanged m (refused (cause.BadTemplate fault.kind fault.path))
put_template m name body None =
    unless (caused (about_name name) (template_refusal (facts_of m.catalog) (template_of name body))) m
    (changed m ack (template_put m.catalog (template_of name body)))

abbrev pub put_stream : Machine → List ℕ → Stepped
put_stream m name =
    unless (caused (about_name name) (create_refusal (facts_of m.catalog) name m.now)) m (changed m ack (created m.catalog name m.now))

abbrev pub get_stream : Machine → List ℕ → Stepped
get_stream m name = with_found (stream_named name m.catalog.streams) (unchanged m (refused (cause.NoSuchName name))) (λ s. unchanged m (stream_reply (facts_of m.catalog) s))

abbrev pub delete_stream : Machine → List ℕ → Stepped
delete_stream m name = unless (caused (about_name name) (named_refusal (facts_of m.catalog) name)) m (changed m ack (stream_deleted m.catalog name))

-- the write index of a stream
abbrev pub write_index : PlainFacts → List ℕ → List ℕ
write_index f name = with_found (stream_named name f.streams) [] write_name

abbrev pub rollover : Machine → List ℕ → Stepped
rollover m name =
    let f = facts_of m.catalog in
    unless (caused (about_index (write_index f name)) (rollover_refusal f name m.now)) m
    (changed m (rolled_reply (rolled_names f name m.now)) (rolled_over m.catalog name m.now))

abbrev pub put_lifecycle : Machine → List ℕ → Data → Stepped
put_lifecycle m name body =
    unless (caused (about_name name) (named_refusal (facts_of m.catalog) name)) m
    (with_found (lifecycle_of body) (unchanged m (refused cause.BadBody)) (λ life. changed m ack (life_set m.catalog name life)))

-- ---- indices

abbrev pub block : Machine → List ℕ → Stepped
block m n = unless (caused (about_index n) (block_refusal (facts_of m.catalog) n)) m (changed m (blocked_reply n) (blocked_in m.catalog n))

abbrev pub delete_index : Machine → List ℕ → Stepped
delete_index m n = unless (caused (about_index n) (delete_refusal (facts_of m.catalog) n)) m (changed m ack (index_deleted m.catalog n))

-- the interval that an index has, as it is written
abbrev pub had_word : PlainFacts → List ℕ → List ℕ
had_word f n = with_found (facts_named n f.indices) [] (λ i. with_found i.interval [] interval_word)

abbrev pub about_fold : PlainFacts → List ℕ → List ℕ → Interval → About
about_fold f source target by = record { name = target; index = source; by = interval_word by; had = had_word f source }

-- names are looked at before the body, and the rest behind it
abbrev pub fold_names_refusal : PlainFacts → List ℕ → List ℕ → Option Refusal
fold_names_refusal f source target = on_found (facts_named source f.indices) (of_catalog.NoSuchName source) (λ i. when (is_taken target f) (of_catalog.NameTaken target))

abbrev pub downsample_by : Way → Machine → List ℕ → List ℕ → Option Interval → Stepped
downsample_by way m source target None = unless (caused (about_name target) (fold_names_refusal (facts_of m.catalog) source target)) m (unchanged m (refused cause.BadBody))
downsample_by way m source target (Some by) =
    unless (caused (about_fold (facts_of m.catalog) source target by) (downsample_refusal (facts_of m.catalog) source target by)) m
    (changed m ack (downsampled way m.catalog source target by))

abbrev pub modify : Machine → Data → Stepped
modify m body =
    with_found (moves_of body) (unchanged m (refused cause.BadBody)) (λ moves.
    unless (caused (about_name []) (moves_refusal (facts_of m.catalog) moves)) m (changed m ack (moved_all m.catalog moves)))

-- ---- documents

abbrev pub bulk : Way → Machine → Result (List Item) Cause → Stepped
bulk way m (Err cause) = unchanged m (refused cause)
bulk way m (Ok items) = changed m (bulk_reply items (outcomes_of way m.catalog items)) (after_items way m.catalog items)

-- ---- questions

abbrev pub search : Searching → Way → Machine → List ℕ → Option Data → Stepped
search searching way m name body =
    unchanged m (with_found (target_of m.catalog name) (refused (cause.NoSuchName name)) (λ is. searching.search m.now (facts_in is) (samples_of way is) body))

abbrev pub count : Searching → Way → Machine → List ℕ → Option Data → Stepped
count searching way m name body =
    unchanged m (with_found (target_of m.catalog name) (refused (cause.NoSuchName name)) (λ is. searching.count m.now (facts_in is) (samples_of way is) body))

abbrev pub get_document : Way → Machine → List ℕ → List ℕ → Stepped
get_document way m n id = unchanged m (with_found (index_named n m.catalog.indices) (refused (cause.NoSuchName n)) (λ i. get_reply way i id))

-- ---- tasks and records

abbrev pub run_lifecycle : Machine → Stepped
run_lifecycle m = let run = lifecycle_run m.catalog m.now in changed m (ran_reply run.ran) run.catalog

-- the image of the machine is written, where it keeps records
abbrev pub flush : Machine → Stepped
flush m = if m.kept then record { reply = ack; machine = m; wrote = true } else unchanged m (refused cause.NoData)

-- ---- all requests

abbrev pub step_of : Searching → Way → Machine → Message → Stepped
step_of searching way m (asked.put_template name body) = put_template m name body (refusal_of body)
step_of searching way m (asked.put_stream name) = put_stream m name
step_of searching way m (asked.get_stream name) = get_stream m name
step_of searching way m (asked.delete_stream name) = delete_stream m name
step_of searching way m (asked.bulk path body) = bulk way m (items_of path body)
step_of searching way m (asked.rollover name) = rollover m name
step_of searching way m (asked.block n) = block m n
step_of searching way m (asked.downsample source target body) = downsample_by way m source target (fixed_interval_of body)
step_of searching way m (asked.modify body) = modify m body
step_of searching way m (asked.delete_index n) = delete_index m n
step_of searching way m (asked.put_lifecycle name body) = put_lifecycle m name body
step_of searching way m asked.run_lifecycle = run_lifecycle m
step_of searching way m asked.tasks = unchanged m (tasks_reply m.catalog)
step_of searching way m (asked.search_rows name body) = search searching way m name body
step_of searching way m (asked.count_rows name body) = count searching way m name body
step_of searching way m (asked.get_doc n id) = get_document way m n id
step_of searching way m asked.flush = flush m

-- the moment becomes the present, whatever is replied
unfoldable pub step : Searching → Way → Machine → Message → ℤ → Stepped
step searching way m message now = step_of searching way (record m { now = now }) message
