-- The laws that tie a plain catalogue to what is seen of it.
use Rattle.std.specs.Prelude.{◌≡◌, ◌⊎◌, ◌↔◌, ℕ, ℤ, ◌≤◌, ◌<◌, ◌+◌, ◌++◌, Bool, true, false, List, [], ◌∷◌, map, length, Option, None, Some, IsTrue}
use Rattle.std.specs.List.{slice_get}
use Rattle.std.specs.Option.{option_map}
use Rattle.row_cells.specs.declared.rows.Row.{Row}
use Rattle.row_cells.specs.Each.{Each}
use Rattle.row_cells.specs.Joining.{FieldsAgree}
use Rattle.row_cells.specs.RowLists.{AreDistinct, has_place, in_row_order}
use Rattle.time_text.specs.Instant.{IsInstant}
use Rattle.time_text.specs.declared.intervals.Interval.{Interval}
use Rattle.time_text.specs.Interval.{ms_of}
use Rattle.downsample_fold.specs.Direct.{down}
use Rattle.downsample_fold.specs.Laws.{series_of}
use Rattle.downsample_fold.specs.Places.{rows_of}
use Rattle.index_names.specs.Backing.{downsample_name}
use Rattle.index_names.specs.Names.{is_stream_name, is_target_name}
use Rattle.index_names.specs.Reading.{IsBackingName}
use Rattle.lifecycle_swap.specs.Lifecycles.{IsLifecycle}
use Rattle.lifecycle_swap.specs.declared.lifecycles.Lifecycle.{Lifecycle}
use Rattle.ts_mapping.specs.Facts.{IsMapping, IsTemplate}
use Rattle.ts_mapping.specs.declared.templates.Template.{Template}
use Rattle.stream_catalog.specs.declared.answers.Move.{Move}
use Rattle.stream_catalog.specs.declared.answers.Move.TheVariants.{Remove}
use Rattle.stream_catalog.specs.declared.facts.TaskFacts.{TaskFacts}
use Rattle.stream_catalog.specs.Plain.{PlainIndex, PlainStream, PlainCatalog, PlainFacts, facts_of}
use Rattle.stream_catalog.specs.Ways.{Way, plain_way, seen_way, see_index, see_catalog, task_schema, kept_rows}
use Rattle.stream_catalog.specs.Limits.{longest_fold_name}
use Rattle.stream_catalog.specs.Lists.{stream_named, index_named}
use Rattle.stream_catalog.specs.Streams.{template_refusal, template_put, create_refusal, created, stream_deleted, life_set, write_name, next_name, rollover_refusal, rolled_over}
use Rattle.stream_catalog.specs.Indices.{task_index, folded_index, blocked_in, delete_refusal, downsample_refusal, downsampled, index_deleted}
use Rattle.stream_catalog.specs.Moves.{moves_refusal, moved_by, moved_all}
use Rattle.stream_catalog.specs.Puts.{MayPut, put_into}
use Rattle.stream_catalog.specs.Runs.{Running, lifecycle_run}
use Rattle.stream_catalog.specs.Units.{with_renamed, unit_of}
use Rattle.stream_catalog.specs.WellNamed.{IsWellNamed}
use Rattle.stream_catalog.specs.FactTests.{are_facts_sound, are_well_named}
use Rattle.stream_catalog.specs.Sound.{AreFactsSound, times, IsHeld, IsIndexSound, IsSoundCatalog, IsSeenCatalog}

-- what is seen of a sound catalogue is sound, and seen again itself
abbrev pub SeenAgain : Type 0
SeenAgain = (c : PlainCatalog) → IsSoundCatalog c → IsSeenCatalog (see_catalog c)

-- seeing leaves facts, so each refusal is the same
abbrev pub FactsStay : Type 0
FactsStay = (c : PlainCatalog) → facts_of (see_catalog c) ≡ facts_of c

-- a change that commutes with seeing
abbrev pub GoesThrough : (PlainCatalog → PlainCatalog) → Type 0
GoesThrough change = (c : PlainCatalog) → see_catalog (change c) ≡ change (see_catalog c)

-- changes that have nothing to do with rows
pub record ChangesGoThrough : Type 0 where
  pub template_put : (t : Template) → GoesThrough (λ c. template_put c t)
  pub created : (name : List ℕ) (now : ℤ) → GoesThrough (λ c. created c name now)
  pub stream_deleted : (name : List ℕ) → GoesThrough (λ c. stream_deleted c name)
  pub life_set : (name : List ℕ) (life : Lifecycle) → GoesThrough (λ c. life_set c name life)
  pub rolled_over : (name : List ℕ) (now : ℤ) → GoesThrough (λ c. rolled_over c name now)
  pub blocked : (n : List ℕ) → GoesThrough (λ c. blocked_in c n)
  pub moved : (moves : List Move) → GoesThrough (λ c. moved_all c moves)
  pub index_deleted : (n : List ℕ) → GoesThrough (λ c. index_deleted c n)

abbrev pub see_running : Running → Running
see_running r = record r { catalog = see_catalog r.catalog }

-- a lifecycle run asks for facts alone
abbrev pub RunsGoThrough : Type 0
RunsGoThrough = (c : PlainCatalog) (now : ℤ) → see_running (lifecycle_run c now) ≡ lifecycle_run (see_catalog c) now

-- the index of this name may take the row
abbrev pub TakesRow : PlainCatalog → List ℕ → Row → Type 0
TakesRow c n row = (i : PlainIndex) → index_named n c.indices ≡ Some i → MayPut i.facts i.rows row

-- a folded index takes no documents
abbrev pub IsShut : Option Interval → Bool → Type 0
IsShut None blocked = Unit {0}
IsShut (Some by) blocked = blocked ≡ true

-- an index that shows what is put into it: it is raw or shut, and no two of its rows are of one series and time
pub record ShowsPuts (i : PlainIndex) : Type 0 where
  pub shut : IsShut i.facts.interval i.facts.blocked
  pub distinct : AreDistinct i.rows

-- the index of this name takes documents, and has no row of this one's series and time
abbrev pub FindsPlace : PlainCatalog → List ℕ → Row → Type 0
FindsPlace c n row = (i : PlainIndex) → index_named n c.indices ≡ Some i → (i.facts.blocked ≡ false) × (has_place row.key row.time i.rows ≡ false)

abbrev pub PutsGoThrough : Type 0
PutsGoThrough = (c : PlainCatalog) (n : List ℕ) (row : Row) → Each ShowsPuts c.indices → FindsPlace c n row →
    see_catalog (put_into plain_way c n row) ≡ put_into seen_way (see_catalog c) n row

abbrev pub PutsKeepShowing : Type 0
PutsKeepShowing = (c : PlainCatalog) (n : List ℕ) (row : Row) → Each ShowsPuts c.indices → FindsPlace c n row → Each ShowsPuts (put_into plain_way c n row).indices

abbrev pub SoundShows : Type 0
SoundShows = (c : PlainCatalog) → IsSoundCatalog c → Each ShowsPuts c.indices

-- an index is found by its name in what is seen where it is in the catalogue
abbrev pub LookupsStay : Type 0
LookupsStay = (c : PlainCatalog) (n : List ℕ) → index_named n (see_catalog c).indices ≡ option_map see_index (index_named n c.indices)

-- an index of a sound catalogue is sound
abbrev pub FoundIsSound : Type 0
FoundIsSound = (c : PlainCatalog) (n : List ℕ) (i : PlainIndex) → IsSoundCatalog c → index_named n c.indices ≡ Some i → IsIndexSound i

-- and its facts are sound
abbrev pub FoundIsHeld : Type 0
FoundIsHeld = (c : PlainCatalog) (n : List ℕ) (i : PlainIndex) → IsSoundCatalog c → index_named n c.indices ≡ Some i → IsHeld (facts_of c) i.facts

-- two indices of one template's name map no path in two ways
abbrev pub FoundAgree : Type 0
FoundAgree = (c : PlainCatalog) (m n : List ℕ) (i j : PlainIndex) → IsSoundCatalog c → index_named m c.indices ≡ Some i → index_named n c.indices ≡ Some j → i.facts.template ≡ j.facts.template →
    FieldsAgree i.facts.mapping.schema.fields j.facts.mapping.schema.fields

-- places and numbers of rows don't ask for their order
pub record RowTestsStay : Type 0 where
  pub place : (key : List ℕ) (time : ℤ) (rows : List Row) → has_place key time (in_row_order rows) ≡ has_place key time rows
  pub number : (rows : List Row) → length (in_row_order rows) ≡ length rows

-- what is shown of an index has the series of its rows
abbrev pub SeriesStay : Type 0
SeriesStay = (i : PlainIndex) → IsIndexSound i → series_of (see_index i).rows ≡ series_of i.rows

abbrev pub DownsamplesGoThrough : Type 0
DownsamplesGoThrough = (c : PlainCatalog) (source target : List ℕ) (by : Interval) → IsSoundCatalog c → downsample_refusal (facts_of c) source target by ≡ None →
    see_catalog (downsampled plain_way c source target by) ≡ downsampled seen_way (see_catalog c) source target by

abbrev pub UnitsGoThrough : Type 0
UnitsGoThrough = (c : PlainCatalog) → IsSoundCatalog c → see_catalog (unit_of plain_way c) ≡ unit_of seen_way (see_catalog c)

-- what a task keeps of what is shown is what it keeps of all rows
abbrev pub TasksKeep : Type 0
TasksKeep = (c : PlainCatalog) → IsSoundCatalog c → Each (λ task. (i : PlainIndex) → index_named task.index c.indices ≡ Some i → kept_rows task (see_index i) ≡ kept_rows task i) c.tasks

-- ---- what units, rollovers and removals leave

-- the fold of one series of a task's index
abbrev pub series_rows : TaskFacts → PlainIndex → List ℕ → List Row
series_rows task i key = down (task_schema task i.facts) (rows_of key i.rows) (ms_of task.by)

-- the oldest task, its index, and the series that it folds next
pub record IsNext (c : PlainCatalog) (task : TaskFacts) (i : PlainIndex) (key : List ℕ) : Type 0 where
  pub rest : List TaskFacts
  pub oldest : c.tasks ≡ task ∷ rest
  pub there : index_named task.index c.indices ≡ Some i
  pub next : slice_get (series_of i.rows) task.done ≡ Some key

-- a task that goes on keeps the fold of one series more, behind those that it kept
abbrev pub UnitsGoOn : Type 0
UnitsGoOn = (c : PlainCatalog) (task t : TaskFacts) (ts : List TaskFacts) (i : PlainIndex) (key : List ℕ) → IsSoundCatalog c → IsNext c task i key →
    (unit_of plain_way c).tasks ≡ t ∷ ts → t.index ≡ task.index → kept_rows t i ≡ kept_rows task i ++ series_rows task i key

-- what takes the place of a task's index shows what the task kept, and the fold of the last series behind it
abbrev pub UnitsEnd : Type 0
UnitsEnd = (c : PlainCatalog) (task : TaskFacts) (i j : PlainIndex) (key : List ℕ) → IsSoundCatalog c → IsNext c task i key →
    index_named task.target (unit_of plain_way c).indices ≡ Some j → (see_index j).rows ≡ kept_rows task i ++ series_rows task i key

-- a task with more than one series to go counts one of them, and all else stays
abbrev pub UnitsCount : Type 0
UnitsCount = (c : PlainCatalog) (task : TaskFacts) (rest : List TaskFacts) (i : PlainIndex) → c.tasks ≡ task ∷ rest → index_named task.index c.indices ≡ Some i →
    task.done + 1 < length (series_of i.rows) → unit_of plain_way c ≡ record c { tasks = record task { done = task.done + 1 } ∷ rest }

-- its fold is there in the place of its index, in streams too, and the task is gone
pub record IsFinished (c : PlainCatalog) (task : TaskFacts) (rest : List TaskFacts) (i : PlainIndex) : Type 0 where
  pub tasks : (unit_of plain_way c).tasks ≡ rest
  pub there : index_named task.target (unit_of plain_way c).indices ≡ Some (folded_index plain_way task.target task.rises task.by i)
  pub gone : index_named task.index (unit_of plain_way c).indices ≡ None
  pub streams : (unit_of plain_way c).streams ≡ map (with_renamed task.index task.target) c.streams

-- so it is behind a unit where one series was left, or none
abbrev pub UnitsFinish : Type 0
UnitsFinish = (c : PlainCatalog) (task : TaskFacts) (rest : List TaskFacts) (i : PlainIndex) → IsSoundCatalog c → c.tasks ≡ task ∷ rest → index_named task.index c.indices ≡ Some i →
    length (series_of i.rows) ≤ task.done + 1 → IsFinished c task rest i

-- the window of a new write index begins where that of the one before it ends
abbrev pub RolloversJoin : Type 0
RolloversJoin = (c : PlainCatalog) (name : List ℕ) (now : ℤ) (s : PlainStream) (w n : PlainIndex) → rollover_refusal (facts_of c) name now ≡ None →
    stream_named name c.streams ≡ Some s → index_named (write_name s) c.indices ≡ Some w → index_named (next_name s now) (rolled_over c name now).indices ≡ Some n →
    n.facts.start ≡ w.facts.end

-- once an index was taken out of its stream no task folds it, whatever moves come before and behind
abbrev pub RemovalsEndTasks : Type 0
RemovalsEndTasks = (f : PlainFacts) (stream index : List ℕ) (before after : List Move) → times index (map task_index (moved_by f (before ++ Remove stream index ∷ after)).tasks) ≡ 0

-- ---- what tasks keep stays

-- whatever has the name of a task's index before and after, the task keeps the same rows of it
abbrev pub KeepsTasks : PlainCatalog → PlainCatalog → Type 0
KeepsTasks c d = Each (λ t. (i j : PlainIndex) → index_named t.index c.indices ≡ Some i → index_named t.index d.indices ≡ Some j → kept_rows t j ≡ kept_rows t i) c.tasks

abbrev pub IsOneOf : TaskFacts → List TaskFacts → Type 0
IsOneOf t [] = ⊥
IsOneOf t (u ∷ us) = (t ≡ u) ⊎ IsOneOf t us

-- so it is with each change, in either way; a new task comes with a lifecycle run alone, and keeps nothing yet
pub record TaskRowsStay : Type 0 where
  pub templates : (c : PlainCatalog) (t : Template) → KeepsTasks c (template_put c t)
  pub creations : (c : PlainCatalog) (name : List ℕ) (now : ℤ) → create_refusal (facts_of c) name now ≡ None → KeepsTasks c (created c name now)
  pub stream_deletions : (c : PlainCatalog) (name : List ℕ) → KeepsTasks c (stream_deleted c name)
  pub lives : (c : PlainCatalog) (name : List ℕ) (life : Lifecycle) → KeepsTasks c (life_set c name life)
  pub rollovers : (c : PlainCatalog) (name : List ℕ) (now : ℤ) → rollover_refusal (facts_of c) name now ≡ None → KeepsTasks c (rolled_over c name now)
  pub blocks : (c : PlainCatalog) (n : List ℕ) → KeepsTasks c (blocked_in c n)
  pub puts : (way : Way) (c : PlainCatalog) (n : List ℕ) (row : Row) → IsSoundCatalog c → TakesRow c n row → KeepsTasks c (put_into way c n row)
  pub downsamples : (way : Way) (c : PlainCatalog) (source target : List ℕ) (by : Interval) → downsample_refusal (facts_of c) source target by ≡ None →
      KeepsTasks c (downsampled way c source target by)
  pub deletions : (c : PlainCatalog) (n : List ℕ) → KeepsTasks c (index_deleted c n)
  pub moves : (c : PlainCatalog) (moves : List Move) → KeepsTasks c (moved_all c moves)
  pub units : (way : Way) (c : PlainCatalog) → IsSoundCatalog c → KeepsTasks c (unit_of way c)
  pub runs : (c : PlainCatalog) (now : ℤ) → KeepsTasks c (lifecycle_run c now).catalog
  pub begun : (c : PlainCatalog) (now : ℤ) → Each (λ t. IsOneOf t c.tasks ⊎ (t.done ≡ 0)) (lifecycle_run c now).catalog.tasks
  pub new : (t : TaskFacts) (i : PlainIndex) → t.done ≡ 0 → kept_rows t i ≡ []

-- ---- names stay well formed, in either way

pub record NamesKeep : Type 0 where
  pub seen : (c : PlainCatalog) → IsWellNamed c → IsWellNamed (see_catalog c)
  pub templates : (c : PlainCatalog) (t : Template) → IsTrue (is_stream_name t.name) → IsWellNamed c → IsWellNamed (template_put c t)
  pub creations : (c : PlainCatalog) (name : List ℕ) (now : ℤ) → IsTrue (is_stream_name name) → IsInstant now → IsWellNamed c → IsWellNamed (created c name now)
  pub stream_deletions : (c : PlainCatalog) (name : List ℕ) → IsWellNamed c → IsWellNamed (stream_deleted c name)
  pub lives : (c : PlainCatalog) (name : List ℕ) (life : Lifecycle) → IsWellNamed c → IsWellNamed (life_set c name life)
  pub rollovers : (c : PlainCatalog) (name : List ℕ) (now : ℤ) → IsInstant now → rollover_refusal (facts_of c) name now ≡ None → IsWellNamed c → IsWellNamed (rolled_over c name now)
  pub blocks : (c : PlainCatalog) (n : List ℕ) → IsWellNamed c → IsWellNamed (blocked_in c n)
  pub puts : (way : Way) (c : PlainCatalog) (n : List ℕ) (row : Row) → IsWellNamed c → IsWellNamed (put_into way c n row)
  pub downsamples : (way : Way) (c : PlainCatalog) (source target : List ℕ) (by : Interval) → IsTrue (is_target_name target) → IsWellNamed c → IsWellNamed (downsampled way c source target by)
  pub deletions : (c : PlainCatalog) (n : List ℕ) → IsWellNamed c → IsWellNamed (index_deleted c n)
  pub moves : (c : PlainCatalog) (moves : List Move) → IsWellNamed c → IsWellNamed (moved_all c moves)
  pub units : (way : Way) (c : PlainCatalog) → IsWellNamed c → IsWellNamed (unit_of way c)
  pub runs : (c : PlainCatalog) (now : ℤ) → IsWellNamed c → IsWellNamed (lifecycle_run c now).catalog
  -- what a lifecycle folds to has the name of a target, which isn't long
  pub folds : (by : Interval) (origin : List ℕ) → IsBackingName origin → IsTrue (is_target_name (downsample_name by origin)) × (length (downsample_name by origin) ≤ longest_fold_name)

-- ---- sound catalogues stay sound

abbrev pub PutsKeepSound : Type 0
PutsKeepSound = (c : PlainCatalog) (n : List ℕ) (row : Row) → IsSoundCatalog c → TakesRow c n row → IsSoundCatalog (put_into plain_way c n row)

abbrev pub BlocksKeepSound : Type 0
BlocksKeepSound = (c : PlainCatalog) (n : List ℕ) → IsSoundCatalog c → IsSoundCatalog (blocked_in c n)

abbrev pub DownsamplesKeepSound : Type 0
DownsamplesKeepSound = (c : PlainCatalog) (source target : List ℕ) (by : Interval) → IsSoundCatalog c → downsample_refusal (facts_of c) source target by ≡ None →
    IsSoundCatalog (downsampled plain_way c source target by)

abbrev pub UnitsKeepSound : Type 0
UnitsKeepSound = (c : PlainCatalog) → IsSoundCatalog c → IsSoundCatalog (unit_of plain_way c)

abbrev pub LivesKeepSound : Type 0
LivesKeepSound = (c : PlainCatalog) (name : List ℕ) (life : Lifecycle) → IsLifecycle life → IsSoundCatalog c → IsSoundCatalog (life_set c name life)

abbrev pub StreamDeletionsKeepSound : Type 0
StreamDeletionsKeepSound = (c : PlainCatalog) (name : List ℕ) → IsSoundCatalog c → IsSoundCatalog (stream_deleted c name)

abbrev pub DeletionsKeepSound : Type 0
DeletionsKeepSound = (c : PlainCatalog) (n : List ℕ) → IsSoundCatalog c → delete_refusal (facts_of c) n ≡ None → IsSoundCatalog (index_deleted c n)

abbrev pub TemplatesKeepSound : Type 0
TemplatesKeepSound = (c : PlainCatalog) (t : Template) → IsTemplate t → IsSoundCatalog c → template_refusal (facts_of c) t ≡ None → IsSoundCatalog (template_put c t)

abbrev pub CreationsKeepSound : Type 0
CreationsKeepSound = (c : PlainCatalog) (name : List ℕ) (now : ℤ) → IsInstant now → IsSoundCatalog c → create_refusal (facts_of c) name now ≡ None → IsSoundCatalog (created c name now)

abbrev pub RolloversKeepSound : Type 0
RolloversKeepSound = (c : PlainCatalog) (name : List ℕ) (now : ℤ) → IsInstant now → IsSoundCatalog c → rollover_refusal (facts_of c) name now ≡ None → IsSoundCatalog (rolled_over c name now)

abbrev pub MovesKeepSound : Type 0
MovesKeepSound = (c : PlainCatalog) (moves : List Move) → IsSoundCatalog c → moves_refusal (facts_of c) moves ≡ None → IsSoundCatalog (moved_all c moves)

abbrev pub RunsKeepSound : Type 0
RunsKeepSound = (c : PlainCatalog) (now : ℤ) → IsSoundCatalog c → IsSoundCatalog (lifecycle_run c now).catalog

-- ---- tests

-- Which facts are sound is decided one by one: each template and each mapping by the call that ts_mapping has for it (is_template,
-- is_mapping), and all else by one test.
abbrev pub FactsAreTested : Type 0
FactsAreTested = (f : PlainFacts) → (Each IsTemplate f.templates × Each (λ i. IsMapping i.mapping) f.indices × IsTrue (are_facts_sound f)) ↔ AreFactsSound f

-- So are names: each origin of an index by the call that index_names has for it (is_backing_name), and all else by one test.
abbrev pub NamesAreTested : Type 0
NamesAreTested = (c : PlainCatalog) → (Each (λ i. IsBackingName i.facts.origin) c.indices × IsTrue (are_well_named c)) ↔ IsWellNamed c

-- ---- what the code keeps

-- a change that goes through seeing, and keeps a catalogue sound
abbrev pub Refines : (Way → PlainCatalog → PlainCatalog) → PlainCatalog → Type 0
Refines change c = (see_catalog (change plain_way c) ≡ change seen_way (see_catalog c)) × IsSoundCatalog (change plain_way c)

-- such a change leaves what is seen of a catalogue
abbrev pub Keeps : Type 0
Keeps = (change : Way → PlainCatalog → PlainCatalog) (c : PlainCatalog) → IsSeenCatalog c → Refines change c → IsSeenCatalog (change seen_way c)
