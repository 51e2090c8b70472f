-- The definitions on small machines, worked out: two rows in one index of two members.
use Rattle.std.proofs.Common.{◌≡◌, Bool, ℕ, pos, List, [], ◌∷◌, Option, Some, None, true, false, refl, arith, codes, ◌≤◌, ◌*◌}
use Rattle.std.specs.Prelude.{ℤ, map, length, not, nat_le, ◌&&◌, Ok, Err}
use Rattle.std.specs.Fmt.{digits}
use Rattle.std.specs.Option.{is_some, option_map}
use Rattle.edge_face.specs.Limits.{last_instant}
use Rattle.row_cells.specs.declared.scalars.Scalar.TheVariants.{Whole, Word}
use Rattle.row_cells.specs.declared.rows.Cell.TheVariants.{Absent, One}
use Rattle.row_cells.specs.declared.rows.Row.{Row}
use Rattle.row_cells.specs.declared.schemas.FieldType.TheVariants.{Date, Keyword, Long, Integer}
use Rattle.row_cells.specs.declared.schemas.Role.TheVariants.{Time, Dimension, Counter, Gauge}
use Rattle.row_cells.specs.declared.schemas.Schema.{Schema}
use Rattle.time_text.specs.declared.intervals.Interval.{Interval}
use Rattle.time_text.specs.declared.units.Unit.TheVariants.{S}
use Rattle.time_text.specs.Bucket.{bucket_start}
use Rattle.time_text.specs.Count.{longest}
use Rattle.time_text.specs.Printed.{day_text}
use Rattle.index_names.specs.Backing.{backing_name, downsample_name}
use Rattle.index_names.specs.Patterns.{pattern_takes}
use Rattle.downsample_fold.specs.Direct.{down}
use Rattle.lifecycle_swap.specs.declared.lifecycles.Lifecycle.{Lifecycle}
use Rattle.ts_mapping.specs.declared.templates.Mapping.{Mapping}
use Rattle.ts_mapping.specs.declared.templates.Template.{Template}
use Rattle.stream_catalog.specs.declared.answers.Refusal.{Refusal}
use Rattle.stream_catalog.specs.declared.answers.Refusal.TheVariants.{NoSuchName, NameTaken, NoTemplate, Reserved, IsWriteIndex, NotBlocked, NotMember, IsMember, OtherMapping, BadWindow, Limit, TimeOver, ChangedField}
use Rattle.stream_catalog.specs.declared.answers.What.TheVariants.{Templates, Streams, Indices, Generations}
use Rattle.stream_catalog.specs.declared.answers.PickError.TheVariants.{NoWindow, Blocked}
use Rattle.stream_catalog.specs.declared.answers.Move.TheVariants.{Remove, Add}
use Rattle.stream_catalog.specs.declared.facts.HeldIndex.{HeldIndex}
use Rattle.stream_catalog.specs.declared.facts.TaskFacts.{TaskFacts}
use Rattle.stream_catalog.specs.Plain.{PlainStream, PlainCatalog, PlainFacts, facts_of}
use Rattle.stream_catalog.specs.Ways.{plain_way, seen_way, see_catalog, kept_rows}
use Rattle.stream_catalog.specs.Indices.{block_refusal, downsample_refusal, folded_mapping, downsampled, delete_refusal, index_deleted}
use Rattle.stream_catalog.specs.FactTests.{are_facts_sound}
use Rattle.stream_catalog.specs.Lists.{when, first_refusal, template_name, template_named}
use Rattle.stream_catalog.specs.Limits.{most_templates, most_streams, most_indices}
use Rattle.stream_catalog.specs.Names.{is_taken, template_for}
use Rattle.stream_catalog.specs.Moves.{moves_refusal, moved_all}
use Rattle.stream_catalog.specs.Puts.{put_into, picked_by}
use Rattle.stream_catalog.specs.Runs.{lifecycle_run}
use Rattle.stream_catalog.specs.Streams.{template_refusal, create_refusal, first_name, created, named_refusal, stream_deleted, rollover_refusal, next_name, rolled_over}
use Rattle.stream_catalog.specs.Units.{unit_of}

abbrev pub schema : Schema
schema = record {
  fields = record { path = codes "@timestamp"; kind = Date; role = Time }
      ∷ record { path = codes "host"; kind = Keyword; role = Dimension }
      ∷ record { path = codes "req"; kind = Long; role = Counter } ∷ [];
  routing = 1 ∷ [];
  folded = false;
  rises = true;
}

abbrev pub mapping : Mapping
mapping = record { strict = true; shards = 1; schema = schema }

-- the keys of hosts a and b
abbrev key : ℕ → List ℕ
key host = 0 ∷ 4 ∷ 104 ∷ 111 ∷ 115 ∷ 116 ∷ 1 ∷ 0 ∷ 1 ∷ host ∷ []

abbrev row_at : ℕ → ℕ → ℕ → Row
row_at host time value = record { key = key host; time = pos time; count = 1; cells = Absent ∷ One (Word (host ∷ [])) ∷ One (Whole (pos value)) ∷ [] }

abbrev pub seconds : (n : ℕ) → 1 ≤ n * 1000 → n * 1000 ≤ longest → Interval
seconds n some few = record { number = n; unit = S; in_range = (some, few) }

abbrev pub second : Interval
second = seconds 1 (omega arith) (omega arith)

abbrev pub old_facts : Bool → HeldIndex
old_facts blocked = record { name = codes "a"; origin = codes "a"; template = codes "t"; start = pos 0; end = pos 10000; blocked = blocked; interval = None; mapping = mapping }

abbrev pub new_facts : HeldIndex
new_facts = record { name = codes "b"; origin = codes "b"; template = codes "t"; start = pos 10000; end = pos 20000; blocked = false; interval = None; mapping = mapping }

abbrev pub template : Template
template = record { name = codes "t"; patterns = codes "s" ∷ []; priority = 0; strict = true; shards = 1; look_back = pos 60000; look_ahead = pos 60000; schema = schema }

abbrev pub stream : Option Lifecycle → PlainStream
stream life = record { facts = record { name = codes "s"; template = codes "t"; generation = 2; members = codes "a" ∷ codes "b" ∷ [] }; life = life }

abbrev pub two : Bool → Option Lifecycle → List TaskFacts → PlainCatalog
two blocked life tasks = record {
  templates = template ∷ [];
  streams = stream life ∷ [];
  indices = record { facts = old_facts blocked; rows = row_at 98 1100 3 ∷ row_at 97 1500 7 ∷ [] } ∷ record { facts = new_facts; rows = [] } ∷ [];
  tasks = tasks;
}

abbrev numbers : PlainCatalog → List ℕ
numbers c = map (λ i. length i.rows) c.indices

abbrev pub index_names : PlainCatalog → List (List ℕ)
index_names c = map (λ i. i.facts.name) c.indices

abbrev pub windows : PlainCatalog → List (ℤ × ℤ)
windows c = map {B = ℤ × ℤ} (λ i. (i.facts.start, i.facts.end)) c.indices

-- a put, in either way
pub put_plain : numbers (put_into plain_way (two false None []) (codes "b") (row_at 97 11000 1)) ≡ 2 ∷ 1 ∷ []
put_plain = refl

pub put_seen : put_into seen_way (see_catalog (two false None [])) (codes "a") (row_at 97 1600 1) ≡ see_catalog (put_into plain_way (two false None []) (codes "a") (row_at 97 1600 1))
put_seen = refl

-- a plain machine keeps rows as they came, and what is seen of it keeps them by series, the latest first
abbrev times_of : PlainCatalog → List (List ℤ)
times_of c = map (λ i. map (λ r. r.time) i.rows) c.indices

pub put_behind : times_of (put_into plain_way (two false None []) (codes "a") (row_at 97 1200 1)) ≡ (pos 1100 ∷ pos 1500 ∷ pos 1200 ∷ []) ∷ [] ∷ []
put_behind = refl

pub put_between : times_of (put_into seen_way (see_catalog (two false None [])) (codes "a") (row_at 97 1200 1)) ≡ (pos 1500 ∷ pos 1200 ∷ pos 1100 ∷ []) ∷ [] ∷ []
put_between = refl

-- which member takes a time
pub picked : picked_by (two false None []) (stream None) (pos 10000) ≡ Ok (record { facts = new_facts; rows = [] })
picked = refl

pub not_picked : picked_by (two false None []) (stream None) (pos 20000) ≡ Err NoWindow
not_picked = refl

pub picked_blocked : picked_by (two true None []) (stream None) (pos 9999) ≡ Err Blocked
picked_blocked = refl

-- refusals of folds, in their order
pub fold_of_open : downsample_refusal (facts_of (two false None [])) (codes "a") (codes "c") second ≡ Some NotBlocked
fold_of_open = refl

pub fold_of_write : downsample_refusal (facts_of (two true None [])) (codes "b") (codes "c") second ≡ Some (IsWriteIndex (codes "s") (codes "b"))
fold_of_write = refl

pub fold_onto : downsample_refusal (facts_of (two true None [])) (codes "a") (codes "s") second ≡ Some (NameTaken (codes "s"))
fold_onto = refl

pub fold_taken : downsample_refusal (facts_of (two true None [])) (codes "a") (codes "c") second ≡ None
fold_taken = refl

-- what is seen of a fold is the fold of what is seen
pub fold_seen : see_catalog (downsampled plain_way (two true None []) (codes "a") (codes "c") second) ≡ downsampled seen_way (see_catalog (two true None [])) (codes "a") (codes "c") second
unfolding down bucket_start
fold_seen = refl

-- a task of two series: after one unit all is as before, after two the fold stands in the stream
abbrev pub task_of : List ℕ → List ℕ → ℕ → Bool → TaskFacts
task_of index target done rises = record { index = index; target = target; by = second; done = done; rises = rises }

abbrev folding : ℕ → PlainCatalog
folding done = two true None (task_of (codes "a") (codes "f") done true ∷ [])

pub unit_first : unit_of plain_way (folding 0) ≡ folding 1
unfolding unit_of
unit_first = refl

pub unit_last : index_names (unit_of plain_way (folding 1)) ≡ codes "b" ∷ codes "f" ∷ []
unfolding unit_of
unit_last = refl

pub unit_member : map (λ (s : PlainStream). s.facts.members) (unit_of plain_way (folding 1)).streams ≡ (codes "f" ∷ codes "b" ∷ []) ∷ []
unfolding unit_of
unit_member = refl

pub unit_seen : see_catalog (unit_of plain_way (folding 1)) ≡ unit_of seen_way (see_catalog (folding 1))
unfolding unit_of down bucket_start
unit_seen = refl

-- a fold has the mark of its task, whatever its index had
pub unit_mark : map (λ i. i.facts.mapping.schema.rises) (unit_of plain_way (two true None (task_of (codes "a") (codes "f") 1 false ∷ []))).indices ≡ true ∷ false ∷ []
unfolding unit_of
unit_mark = refl

-- of two tasks the oldest goes on, and goes with its last series; the other waits
abbrev folding_both : ℕ → PlainCatalog
folding_both done = two true None (task_of (codes "a") (codes "f") done true ∷ task_of (codes "b") (codes "g") 0 true ∷ [])

pub unit_oldest : unit_of plain_way (folding_both 0) ≡ folding_both 1
unfolding unit_of
unit_oldest = refl

pub unit_other : (unit_of plain_way (folding_both 1)).tasks ≡ task_of (codes "b") (codes "g") 0 true ∷ []
unfolding unit_of
unit_other = refl

-- moves: the write index stays; what was taken out is no member; it may come back
pub move_write : moves_refusal (facts_of (two true None [])) (Remove (codes "s") (codes "a") ∷ Remove (codes "s") (codes "b") ∷ []) ≡ Some (IsWriteIndex (codes "s") (codes "b"))
move_write = refl

pub move_twice : moves_refusal (facts_of (two true None [])) (Remove (codes "s") (codes "a") ∷ Remove (codes "s") (codes "a") ∷ []) ≡ Some (NotMember (codes "s") (codes "a"))
move_twice = refl

pub move_back : moved_all (two true None []) (Remove (codes "s") (codes "a") ∷ Add (codes "s") (codes "a") ∷ []) ≡ two true None []
move_back = refl

-- a removal ends the task
pub move_ends : (moved_all (folding 1) (Remove (codes "s") (codes "a") ∷ [])).tasks ≡ []
move_ends = refl

-- deletions
pub delete_write : delete_refusal (facts_of (two true None [])) (codes "b") ≡ Some (IsWriteIndex (codes "s") (codes "b"))
delete_write = refl

pub deleted_task : (index_deleted (folding 1) (codes "a")).tasks ≡ []
deleted_task = refl

pub deleted_one_task : (index_deleted (folding_both 0) (codes "a")).tasks ≡ task_of (codes "b") (codes "g") 0 true ∷ []
deleted_one_task = refl

pub all_gone : numbers (stream_deleted (folding 1) (codes "s")) ≡ []
all_gone = refl

-- a first index begins as far before the present as its template looks back, at the earliest at 0, and ends as far behind it as that looks ahead
abbrev pub streamless : PlainCatalog
streamless = record { templates = template ∷ []; streams = []; indices = []; tasks = [] }

pub created_window : windows (created streamless (codes "s") (pos 100000)) ≡ (pos 40000, pos 160000) ∷ []
unfolding pattern_takes
created_window = refl

pub created_early : windows (created streamless (codes "s") (pos 15000)) ≡ (pos 0, pos 75000) ∷ []
unfolding pattern_takes
created_early = refl

-- a new write index begins where the last one ends, also where the present is behind that, and reaches as far ahead of the later
-- of both as its template looks
pub rolled_late : windows (rolled_over (two false None []) (codes "s") (pos 25000)) ≡ (pos 20000, pos 85000) ∷ (pos 0, pos 10000) ∷ (pos 10000, pos 20000) ∷ []
unfolding backing_name day_text
rolled_late = refl

pub rolled_early : windows (rolled_over (two false None []) (codes "s") (pos 15000)) ≡ (pos 20000, pos 80000) ∷ (pos 0, pos 10000) ∷ (pos 10000, pos 20000) ∷ []
unfolding backing_name day_text
rolled_early = refl

-- a lifecycle run extends the write index, and starts a fold, or deletes where the retention is over
abbrev pub keeping : Option Lifecycle
keeping = Some (record { retention = None; rounds = record { after = second; by = second } ∷ [] })

abbrev dropping : Option Lifecycle
dropping = Some (record { retention = Some second; rounds = [] })

pub run_starts : (lifecycle_run (two false keeping []) (pos 15000)).ran ≡ record { extended = 1; deleted = 0; started = 1 }
unfolding lifecycle_run
run_starts = refl

pub run_deletes : (lifecycle_run (two false dropping []) (pos 15000)).ran ≡ record { extended = 1; deleted = 1; started = 0 }
unfolding lifecycle_run
run_deletes = refl

pub run_too_soon : (lifecycle_run (two false keeping []) (pos 10999)).ran ≡ record { extended = 1; deleted = 0; started = 0 }
unfolding lifecycle_run
run_too_soon = refl

pub run_task : map (λ (t : TaskFacts). t.target) (lifecycle_run (two false keeping []) (pos 15000)).catalog.tasks ≡ downsample_name second (codes "a") ∷ []
unfolding lifecycle_run
run_task = refl

-- ages count from the end of a window, and a round comes at the very age that it names; it folds by its interval, not by that age
abbrev keeping_later : Option Interval → Option Lifecycle
keeping_later retention = Some (record { retention = retention; rounds = record { after = seconds 3 (omega arith) (omega arith); by = seconds 2 (omega arith) (omega arith) } ∷ [] })

pub run_before_bound : (lifecycle_run (two false (keeping_later None) []) (pos 12999)).ran ≡ record { extended = 1; deleted = 0; started = 0 }
unfolding lifecycle_run
run_before_bound = refl

pub run_at_bound : (lifecycle_run (two false (keeping_later None) []) (pos 13000)).ran ≡ record { extended = 1; deleted = 0; started = 1 }
unfolding lifecycle_run
run_at_bound = refl

pub run_interval : map (λ (t : TaskFacts). t.by.number) (lifecycle_run (two false (keeping_later None) []) (pos 13000)).catalog.tasks ≡ 2 ∷ []
unfolding lifecycle_run
run_interval = refl

-- retention is looked at before rounds, and it too comes at its very age
abbrev after_four : Option Lifecycle
after_four = keeping_later (Some (seconds 4 (omega arith) (omega arith)))

pub run_folds_first : (lifecycle_run (two false after_four []) (pos 13999)).ran ≡ record { extended = 1; deleted = 0; started = 1 }
unfolding lifecycle_run
run_folds_first = refl

pub run_retention_wins : (lifecycle_run (two false after_four []) (pos 14000)).ran ≡ record { extended = 1; deleted = 1; started = 0 }
unfolding lifecycle_run
run_retention_wins = refl

-- one run that extends, deletes and starts: of three members the write index ends later, the oldest one goes, and the one between
-- is folded; what went is no member, and what is folded is blocked
abbrev oldest_facts : HeldIndex
oldest_facts = record (old_facts false) { name = codes "0"; origin = codes "0"; end = pos 5000 }

abbrev between_facts : HeldIndex
between_facts = record (old_facts false) { start = pos 5000 }

abbrev three : PlainCatalog
three = record (two false None []) {
  streams = record {
    facts = record { name = codes "s"; template = codes "t"; generation = 3; members = codes "0" ∷ codes "a" ∷ codes "b" ∷ [] };
    life = keeping_later (Some (seconds 8 (omega arith) (omega arith)));
  } ∷ [];
  indices = record { facts = oldest_facts; rows = [] } ∷ record { facts = between_facts; rows = [] } ∷ record { facts = new_facts; rows = [] } ∷ [];
}

pub run_all : (lifecycle_run three (pos 15000)).ran ≡ record { extended = 1; deleted = 1; started = 1 }
unfolding lifecycle_run
run_all = refl

pub run_all_windows : windows (lifecycle_run three (pos 15000)).catalog ≡ (pos 5000, pos 10000) ∷ (pos 10000, pos 75000) ∷ []
unfolding lifecycle_run
run_all_windows = refl

pub run_all_members : map (λ (s : PlainStream). s.facts.members) (lifecycle_run three (pos 15000)).catalog.streams ≡ (codes "a" ∷ codes "b" ∷ []) ∷ []
unfolding lifecycle_run
run_all_members = refl

pub run_all_blocked : map (λ i. i.facts.blocked) (lifecycle_run three (pos 15000)).catalog.indices ≡ true ∷ false ∷ []
unfolding lifecycle_run
run_all_blocked = refl

-- what a task keeps before the swap is the fold of its first series, in row order: the one of host a
pub kept_first : map (λ (r : Row). r.key) (kept_rows (task_of (codes "a") (codes "f") 1 true) (record { facts = old_facts true; rows = row_at 98 1100 3 ∷ row_at 97 1500 7 ∷ [] })) ≡ key 97 ∷ []
unfolding down bucket_start
kept_first = refl

-- ---- the mark of a fold: whether its counters keep their rise

abbrev marks : PlainCatalog → List Bool
marks c = map (λ i. i.facts.mapping.schema.rises) c.indices

-- a fold of raw rows rises; that of a folded index whose counters keep no rise doesn't
abbrev risen_out : Option Lifecycle → PlainCatalog
risen_out life = record (two true life []) {
  indices = record { facts = record (old_facts true) { interval = Some second; mapping = folded_mapping false mapping }; rows = [] } ∷ record { facts = new_facts; rows = [] } ∷ [];
}

pub fold_rises : marks (downsampled plain_way (two true None []) (codes "a") (codes "c") second) ≡ true ∷ true ∷ true ∷ []
fold_rises = refl

pub fold_keeps_mark : marks (downsampled plain_way (risen_out None) (codes "a") (codes "c") (seconds 2 (omega arith) (omega arith))) ≡ false ∷ true ∷ false ∷ []
fold_keeps_mark = refl

-- so with the task that a lifecycle run starts on each, and with what takes the index's place
abbrev task_marks : PlainCatalog → List Bool
task_marks c = map (λ (t : TaskFacts). t.rises) c.tasks

pub run_rises : task_marks (lifecycle_run (two true keeping []) (pos 15000)).catalog ≡ true ∷ []
unfolding lifecycle_run
run_rises = refl

pub run_keeps_mark : task_marks (lifecycle_run (risen_out (keeping_later None)) (pos 15000)).catalog ≡ false ∷ []
unfolding lifecycle_run
run_keeps_mark = refl

pub swap_keeps_mark : marks (unit_of plain_way (lifecycle_run (risen_out (keeping_later None)) (pos 15000)).catalog) ≡ true ∷ false ∷ []
unfolding lifecycle_run unit_of
swap_keeps_mark = refl

-- ---- a unit on an index without rows: the fold takes its place at once, without rows

abbrev folding_none : PlainCatalog
folding_none = two true None (task_of (codes "b") (codes "g") 0 true ∷ [])

pub unit_none : index_names (unit_of plain_way folding_none) ≡ codes "a" ∷ codes "g" ∷ []
unfolding unit_of
unit_none = refl

pub unit_none_rows : numbers (unit_of plain_way folding_none) ≡ 2 ∷ 0 ∷ []
unfolding unit_of
unit_none_rows = refl

pub unit_none_member : map (λ (s : PlainStream). s.facts.members) (unit_of plain_way folding_none).streams ≡ (codes "a" ∷ codes "g" ∷ []) ∷ []
unfolding unit_of
unit_none_member = refl

pub unit_none_task : (unit_of plain_way folding_none).tasks ≡ []
unfolding unit_of
unit_none_task = refl

-- ---- a run over two streams, with a task under way: streams go by their names, and new tasks stand behind those that are there

abbrev pub other_stream : PlainStream
other_stream = record { facts = record { name = codes "r"; template = codes "t"; generation = 2; members = codes "p" ∷ codes "q" ∷ [] }; life = keeping }

abbrev other_facts : List ℕ → HeldIndex → HeldIndex
other_facts name facts = record facts { name = name; origin = name }

abbrev pub two_streams : PlainCatalog
two_streams = record (two false keeping (task_of (codes "z") (codes "y") 0 true ∷ [])) {
  streams = other_stream ∷ stream keeping ∷ [];
  indices = record { facts = old_facts false; rows = [] } ∷ record { facts = new_facts; rows = [] } ∷ record { facts = other_facts (codes "p") (old_facts false); rows = [] }
      ∷ record { facts = other_facts (codes "q") new_facts; rows = [] } ∷ record { facts = other_facts (codes "z") (old_facts true); rows = [] } ∷ [];
}

pub run_two : (lifecycle_run two_streams (pos 15000)).ran ≡ record { extended = 2; deleted = 0; started = 2 }
unfolding lifecycle_run digits
run_two = refl

pub run_two_tasks : map (λ (t : TaskFacts). t.index) (lifecycle_run two_streams (pos 15000)).catalog.tasks ≡ codes "z" ∷ codes "p" ∷ codes "a" ∷ []
unfolding lifecycle_run digits
run_two_tasks = refl

pub run_two_streams : map (λ (s : PlainStream). s.facts.name) (lifecycle_run two_streams (pos 15000)).catalog.streams ≡ codes "r" ∷ codes "s" ∷ []
unfolding lifecycle_run digits
run_two_streams = refl

-- ---- the template of a new stream: the greatest priority, and of those the least name, wherever it stands

abbrev template_of : List ℕ → ℕ → List ℕ → Template
template_of name priority pattern = record template { name = name; priority = priority; patterns = pattern ∷ [] }

abbrev chosen : List Template → Option (List ℕ)
chosen ts = option_map template_name (template_for (codes "s") ts)

pub chosen_greater : chosen (template_of (codes "a") 1 (codes "s") ∷ template_of (codes "b") 2 (codes "s") ∷ []) ≡ Some (codes "b")
unfolding pattern_takes
chosen_greater = refl

pub chosen_least : chosen (template_of (codes "a") 2 (codes "s") ∷ template_of (codes "b") 2 (codes "s") ∷ []) ≡ Some (codes "a")
unfolding pattern_takes
chosen_least = refl

pub chosen_least_behind : chosen (template_of (codes "b") 2 (codes "s") ∷ template_of (codes "a") 2 (codes "s") ∷ []) ≡ Some (codes "a")
unfolding pattern_takes
chosen_least_behind = refl

-- one that doesn't match isn't asked
pub chosen_matching : chosen (template_of (codes "a") 1 (codes "s") ∷ template_of (codes "b") 2 (codes "x") ∷ []) ≡ Some (codes "a")
unfolding pattern_takes
chosen_matching = refl

-- ---- each refusal of a new stream, in order; where two hold the first one is told

abbrev at_present : PlainFacts → List ℕ → Option Refusal
at_present f name = create_refusal f name (pos 15000)

pub create_taken : at_present (facts_of (two false None [])) (codes "s") ≡ Some (NameTaken (codes "s"))
create_taken = refl

pub create_taken_first : at_present (facts_of (two true None (task_of (codes "a") (codes "downsample-x") 0 true ∷ []))) (codes "downsample-x") ≡ Some (NameTaken (codes "downsample-x"))
create_taken_first = refl

-- reserved, though no template takes it either
pub create_reserved : at_present (facts_of streamless) (codes "downsample-x") ≡ Some Reserved
create_reserved = refl

pub create_without : at_present (facts_of streamless) (codes "x") ≡ Some NoTemplate
unfolding pattern_takes
create_without = refl

-- no template is told whatever the numbers of streams and indices are
pub create_without_first : (f : PlainFacts) → is_taken (codes "x") f ≡ false → is_some (template_for (codes "x") f.templates) ≡ false → at_present f (codes "x") ≡ Some NoTemplate
create_without_first f free none = rw (free, none) refl

-- too many streams, whatever the number of indices is; too many indices, whether or not the first one's name is taken
pub create_many_streams : (f : PlainFacts) → is_taken (codes "s") f ≡ false → is_some (template_for (codes "s") f.templates) ≡ true → nat_le most_streams (length f.streams) ≡ true →
    at_present f (codes "s") ≡ Some (Limit Streams)
create_many_streams f free there full = rw (free, there, full) refl

pub create_many_indices : (f : PlainFacts) → is_taken (codes "s") f ≡ false → is_some (template_for (codes "s") f.templates) ≡ true → nat_le most_streams (length f.streams) ≡ false →
    nat_le most_indices (length f.indices) ≡ true → at_present f (codes "s") ≡ Some (Limit Indices)
create_many_indices f free there room full = rw (free, there, room, full) refl

pub create_first_taken : (f : PlainFacts) → is_taken (codes "s") f ≡ false → is_some (template_for (codes "s") f.templates) ≡ true → nat_le most_streams (length f.streams) ≡ false →
    nat_le most_indices (length f.indices) ≡ false → is_taken (first_name (codes "s") (pos 15000)) f ≡ true → at_present f (codes "s") ≡ Some (NameTaken (first_name (codes "s") (pos 15000)))
create_first_taken f free there few room taken = rw (free, there, few, room, taken) refl

pub create_free : at_present (facts_of streamless) (codes "s") ≡ None
unfolding pattern_takes backing_name day_text
create_free = refl

-- ---- each refusal of a rollover

abbrev rolling : ℤ → ℕ → List HeldIndex → PlainFacts
rolling end generation is = record (facts_of (two false None [])) {
  streams = record { facts = record { name = codes "s"; template = codes "t"; generation = generation; members = codes "b" ∷ [] }; life = None } ∷ [];
  indices = record new_facts { end = end } ∷ is;
}

abbrev roll : PlainFacts → Option Refusal
roll f = rollover_refusal f (codes "s") (pos 15000)

pub roll_nowhere : rollover_refusal (facts_of (two false None [])) (codes "b") (pos 15000) ≡ Some (NoSuchName (codes "b"))
roll_nowhere = refl

-- no time is left, also where no generation is
pub roll_over : (is : List HeldIndex) → roll (rolling last_instant 999_999 is) ≡ Some TimeOver
roll_over is = refl

-- no generation is left, however many indices there are
pub roll_generations : (is : List HeldIndex) → roll (rolling (pos 20000) 999_999 is) ≡ Some (Limit Generations)
roll_generations is = refl

-- too many indices, whatever their names
pub roll_indices : (is : List HeldIndex) → nat_le most_indices (length (record new_facts { end = pos 20000 } ∷ is)) ≡ true → roll (rolling (pos 20000) 999_998 is) ≡ Some (Limit Indices)
roll_indices is full = rw full refl

pub roll_taken : (is : List HeldIndex) → nat_le most_indices (length (record new_facts { end = pos 20000 } ∷ is)) ≡ false →
    is_taken (next_name (stream None) (pos 15000)) (rolling (pos 20000) 2 is) ≡ true → roll (rolling (pos 20000) 2 is) ≡ Some (NameTaken (next_name (stream None) (pos 15000)))
roll_taken is room taken = rw (room, taken) refl

pub roll_free : roll (rolling (pos 20000) 2 []) ≡ None
unfolding backing_name day_text
roll_free = refl

-- ---- each refusal of a member that is put into a stream

-- beside the two members of s an index in no stream, and one in a stream of its own
abbrev beside : List ℕ → ℤ → ℤ → PlainFacts
beside template start end = record (facts_of (two true None [])) {
  streams = stream None ∷ record { facts = record { name = codes "v"; template = codes "u"; generation = 1; members = codes "w" ∷ [] }; life = None } ∷ [];
  indices = old_facts true ∷ new_facts ∷ record (old_facts true) { name = codes "l"; template = template; start = start; end = end }
      ∷ record (old_facts false) { name = codes "w"; template = codes "u" } ∷ [];
}

abbrev add : List ℕ → List ℕ → PlainFacts → Option Refusal
add stream index f = moves_refusal f (Add stream index ∷ [])

pub add_nowhere : add (codes "x") (codes "y") (beside (codes "t") (pos 20000) (pos 30000)) ≡ Some (NoSuchName (codes "x"))
add_nowhere = refl

pub add_nothing : add (codes "s") (codes "y") (beside (codes "t") (pos 20000) (pos 30000)) ≡ Some (NoSuchName (codes "y"))
add_nothing = refl

pub add_own : add (codes "s") (codes "a") (beside (codes "t") (pos 20000) (pos 30000)) ≡ Some (IsMember (codes "s") (codes "a"))
add_own = refl

-- a member of another stream, also where it is of another template
pub add_of_other : add (codes "s") (codes "w") (beside (codes "t") (pos 20000) (pos 30000)) ≡ Some (IsMember (codes "v") (codes "w"))
add_of_other = refl

-- of another template, also where its window doesn't fit
pub add_mapped : add (codes "s") (codes "l") (beside (codes "u") (pos 0) (pos 1)) ≡ Some (OtherMapping (codes "s") (codes "l"))
add_mapped = refl

-- a window that overlaps a member's by one instant, and one behind the write index's
pub add_overlap : add (codes "s") (codes "l") (beside (codes "t") (pos 9999) (pos 10000)) ≡ Some (BadWindow (codes "s") (codes "l"))
add_overlap = refl

pub add_behind : add (codes "s") (codes "l") (beside (codes "t") (pos 20000) (pos 30000)) ≡ Some (BadWindow (codes "s") (codes "l"))
add_behind = refl

pub take_nowhere : moves_refusal (beside (codes "t") (pos 0) (pos 1)) (Remove (codes "x") (codes "a") ∷ []) ≡ Some (NoSuchName (codes "x"))
take_nowhere = refl

-- ---- each refusal of a template

-- the fields of hosts and of counts under other types or roles
abbrev remapped : List ℕ → Schema → Template
remapped name other = record template { name = name; schema = other }

abbrev other_count : Schema
other_count = record schema {
  fields = record { path = codes "@timestamp"; kind = Date; role = Time }
      ∷ record { path = codes "host"; kind = Keyword; role = Dimension }
      ∷ record { path = codes "req"; kind = Integer; role = Counter } ∷ [];
}

abbrev other_both : Schema
other_both = record schema {
  fields = record { path = codes "@timestamp"; kind = Date; role = Time }
      ∷ record { path = codes "host"; kind = Long; role = Dimension }
      ∷ record { path = codes "req"; kind = Long; role = Gauge } ∷ [];
}

-- the first index of its name is told, and of two paths the least
pub put_changed : template_refusal (facts_of (two false None [])) (remapped (codes "t") other_count) ≡ Some (ChangedField (codes "req") (codes "a"))
put_changed = refl

pub put_changed_least : template_refusal (facts_of (two false None [])) (remapped (codes "t") other_both) ≡ Some (ChangedField (codes "host") (codes "a"))
put_changed_least = refl

-- a changed field is told before a limit
pub put_changed_first : (ts : List Template) →
    template_refusal (record (facts_of (two false None [])) { templates = ts }) (remapped (codes "t") other_count) ≡ Some (ChangedField (codes "req") (codes "a"))
put_changed_first ts = refl

-- another name may map the path as it likes
pub put_other : template_refusal (facts_of (two false None [])) (remapped (codes "u") other_both) ≡ None
put_other = refl

-- a new one past the limit; one that is there may always be replaced
pub put_many : (ts : List Template) → option_map template_name (template_named (codes "u") ts) ≡ None → nat_le most_templates (length ts) ≡ true →
    template_refusal (record (facts_of streamless) { templates = ts }) (remapped (codes "u") schema) ≡ Some (Limit Templates)
put_many ts none full = by_found (template_named (codes "u") ts) none
  where
    by_found : (o : Option Template) → option_map template_name o ≡ None → first_refusal (when (not (is_some o) && nat_le most_templates (length ts)) (Limit Templates) ∷ []) ≡ Some (Limit Templates)
    by_found None none = rw full refl
    by_found (Some t) none = cc

pub put_again : (ts : List Template) → template_refusal (record (facts_of streamless) { templates = template ∷ ts }) (remapped (codes "t") schema) ≡ None
put_again ts = refl

-- ---- names that nothing has

pub no_stream : named_refusal (facts_of (two false None [])) (codes "a") ≡ Some (NoSuchName (codes "a"))
no_stream = refl

pub no_index : block_refusal (facts_of (two false None [])) (codes "s") ≡ Some (NoSuchName (codes "s"))
no_index = refl

pub delete_nothing : delete_refusal (facts_of (two false None [])) (codes "s") ≡ Some (NoSuchName (codes "s"))
delete_nothing = refl

pub fold_of_nothing : downsample_refusal (facts_of (two false None [])) (codes "s") (codes "b") second ≡ Some (NoSuchName (codes "s"))
fold_of_nothing = refl

-- a reserved name, also of a write index's fold
pub fold_reserved : downsample_refusal (facts_of (two false None [])) (codes "b") (codes "downsample-c") second ≡ Some Reserved
fold_reserved = refl

-- ---- the test of facts takes a fold that is under way, and none of an index that takes documents; nor two of one index

pub tested : are_facts_sound (facts_of (two true None (task_of (codes "a") (codes "f") 0 true ∷ []))) ≡ true
tested = refl

pub tested_open : are_facts_sound (facts_of (two true None (task_of (codes "b") (codes "f") 0 true ∷ []))) ≡ false
tested_open = refl

pub tested_twice : are_facts_sound (facts_of (two true None (task_of (codes "a") (codes "f") 0 true ∷ task_of (codes "a") (codes "g") 0 true ∷ []))) ≡ false
tested_twice = refl
