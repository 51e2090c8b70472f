-- Replies to requests that are accepted.
use Rattle.std.specs.Prelude.{ℕ, pos, true, List, [], ◌∷◌, map, length, codes, Option, Some, None}
use Rattle.std.specs.List.{filter_map}
use Rattle.downsample_fold.specs.Laws.{series_of}
use Rattle.reply_json.specs.Trees.{member}
use Rattle.reply_json.specs.declared.out.Member.{Member}
use Rattle.reply_json.specs.declared.out.Out.{Out, Null, Flag, Num, Word, List as list, Object}
use Rattle.stream_catalog.specs.Lists.{with_found, facts_named, index_named}
use Rattle.stream_catalog.specs.Plain.{PlainStream, PlainCatalog, PlainFacts}
use Rattle.stream_catalog.specs.declared.answers.Ran.{Ran}
use Rattle.stream_catalog.specs.declared.answers.Rolled.{Rolled}
use Rattle.stream_catalog.specs.declared.facts.HeldIndex.{HeldIndex}
use Rattle.stream_catalog.specs.declared.facts.StreamFacts.{StreamFacts}
use Rattle.stream_catalog.specs.declared.facts.TaskFacts.{TaskFacts}
use Rattle.time_text.specs.Interval.{interval_text}
use Rattle.time_text.specs.Printed.{instant_text}
use Rattle.time_text.specs.declared.intervals.Interval.{Interval}
use Rattle.tsds_service.specs.declared.reply.Reply.{Reply}

abbrev pub accepted : List Member → Reply
accepted members = record { status = 200; body = Object members }

abbrev pub acknowledged : Member
acknowledged = member (codes "acknowledged") (Flag true)

-- {"acknowledged":true}
abbrev pub ack : Reply
ack = accepted (acknowledged ∷ [])

abbrev pub interval_word : Interval → List ℕ
interval_word by = interval_text by.number by.unit

abbrev pub interval_tree : Option Interval → Out
interval_tree None = Null
interval_tree (Some by) = Word (interval_word by)

-- ---- streams

abbrev pub member_tree : HeldIndex → Out
member_tree i = Object (
    member (codes "index_name") (Word i.name)
    ∷ member (codes "start") (Word (instant_text i.start))
    ∷ member (codes "end") (Word (instant_text i.end))
    ∷ member (codes "fixed_interval") (interval_tree i.interval)
    ∷ member (codes "blocked") (Flag i.blocked) ∷ [])

-- a stream, with the trees of its members by the starts of their windows
abbrev pub stream_tree : StreamFacts → List Out → Out
stream_tree s members = Object (
    member (codes "name") (Word s.name)
    ∷ member (codes "timestamp_field") (Object (member (codes "name") (Word (codes "@timestamp")) ∷ []))
    ∷ member (codes "indices") (list members)
    ∷ member (codes "generation") (Num (pos s.generation))
    ∷ member (codes "template") (Word s.template) ∷ [])

abbrev pub stream_told : StreamFacts → List Out → Reply
stream_told s members = accepted (member (codes "data_streams") (list (stream_tree s members ∷ [])) ∷ [])

-- members stand by the starts of their windows
abbrev pub member_trees : PlainFacts → PlainStream → List Out
member_trees f s = map member_tree (filter_map (λ n. facts_named n f.indices) s.facts.members)

abbrev pub stream_reply : PlainFacts → PlainStream → Reply
stream_reply f s = stream_told s.facts (member_trees f s)

abbrev pub rolled_reply : Rolled → Reply
rolled_reply r = accepted (
    acknowledged
    ∷ member (codes "old_index") (Word r.old)
    ∷ member (codes "new_index") (Word r.new)
    ∷ member (codes "rolled_over") (Flag true) ∷ [])

-- ---- indices

abbrev pub blocked_reply : List ℕ → Reply
blocked_reply n = accepted (
    acknowledged
    ∷ member (codes "indices") (list (Object (member (codes "name") (Word n) ∷ member (codes "blocked") (Flag true) ∷ []) ∷ [])) ∷ [])

-- ---- tasks

abbrev pub ran_reply : Ran → Reply
ran_reply r = accepted (
    acknowledged
    ∷ member (codes "extended") (Num (pos r.extended))
    ∷ member (codes "deleted") (Num (pos r.deleted))
    ∷ member (codes "started") (Num (pos r.started)) ∷ [])

-- how many series the index of a task has
abbrev pub series_count : PlainCatalog → TaskFacts → ℕ
series_count c t = with_found (index_named t.index c.indices) 0 (λ i. length (series_of i.rows))

-- a task, where its index has so many series
abbrev pub task_tree : TaskFacts → ℕ → Out
task_tree t series = Object (
    member (codes "action") (Word (codes "downsample"))
    ∷ member (codes "index") (Word t.index)
    ∷ member (codes "target") (Word t.target)
    ∷ member (codes "fixed_interval") (Word (interval_word t.by))
    ∷ member (codes "done") (Num (pos t.done))
    ∷ member (codes "series") (Num (pos series)) ∷ [])

abbrev pub tasks_listed : List Out → Reply
tasks_listed trees = accepted (member (codes "tasks") (list trees) ∷ [])

-- the oldest task first
abbrev pub tasks_reply : PlainCatalog → Reply
tasks_reply c = tasks_listed (map (λ t. task_tree t (series_count c t)) c.tasks)
