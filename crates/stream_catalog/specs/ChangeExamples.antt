-- What single changes leave, on the machine of `Examples`: what they are about is changed, and all else is as it was.
use Rattle.std.proofs.Common.{◌≡◌, Bool, ℕ, pos, List, [], ◌∷◌, Some, None, true, false, refl, codes}
use Rattle.std.specs.Prelude.{ℤ, ◌++◌, map}
use Rattle.index_names.specs.Patterns.{pattern_takes}
use Rattle.index_names.specs.Backing.{backing_name}
use Rattle.time_text.specs.Printed.{day_text}
use Rattle.lifecycle_swap.specs.declared.lifecycles.Lifecycle.{Lifecycle}
use Rattle.row_cells.specs.declared.schemas.FieldType.TheVariants.{Date, Keyword, Long}
use Rattle.row_cells.specs.declared.schemas.Role.TheVariants.{Time, Dimension, Counter, Gauge}
use Rattle.row_cells.specs.declared.schemas.Schema.{Schema}
use Rattle.ts_mapping.specs.declared.templates.Template.{Template}
use Rattle.stream_catalog.specs.Examples.{schema, mapping, second, old_facts, new_facts, template, stream, two, index_names, windows, task_of, keeping, other_stream, two_streams, streamless}
use Rattle.stream_catalog.specs.Indices.{blocked_in, downsampled}
use Rattle.stream_catalog.specs.Lists.{stream_name}
use Rattle.stream_catalog.specs.Plain.{PlainStream, PlainCatalog}
use Rattle.stream_catalog.specs.Runs.{lifecycle_run}
use Rattle.stream_catalog.specs.Streams.{template_put, created, first_name, stream_deleted, life_set, next_name, rolled_over}
use Rattle.stream_catalog.specs.Units.{unit_of}
use Rattle.stream_catalog.specs.Ways.{plain_way}
use Rattle.stream_catalog.specs.declared.facts.HeldIndex.{HeldIndex}

-- ---- a block: the index takes no documents, and all else stays; so also where it took none

abbrev blocks : PlainCatalog → List Bool
blocks c = map (λ i. i.facts.blocked) c.indices

pub block_first : blocks (blocked_in (two false None []) (codes "a")) ≡ true ∷ false ∷ []
block_first = refl

pub block_last : blocks (blocked_in (two false None []) (codes "b")) ≡ false ∷ true ∷ []
block_last = refl

pub block_alone : blocked_in (two false None []) (codes "a") ≡ two true None []
block_alone = refl

pub block_again : blocked_in (two true None []) (codes "a") ≡ two true None []
block_again = refl

-- ---- a fold has the window, template and origin of its index; it has the interval, is blocked, and keeps the form of its kind

abbrev fold_facts : List ℕ → HeldIndex
fold_facts name = record (old_facts true) { name = name; interval = Some second; mapping = record mapping { schema = record schema { folded = true } } }

abbrev held : PlainCatalog → List HeldIndex
held c = map (λ i. i.facts) c.indices

abbrev membered : PlainCatalog → List (List (List ℕ))
membered c = map (λ (s : PlainStream). s.facts.members) c.streams

-- asked for, it stands beside its index and in no stream
pub fold_beside : held (downsampled plain_way (two true None []) (codes "a") (codes "c") second) ≡ old_facts true ∷ new_facts ∷ fold_facts (codes "c") ∷ []
fold_beside = refl

pub fold_of_none : membered (downsampled plain_way (two true None []) (codes "a") (codes "c") second) ≡ (codes "a" ∷ codes "b" ∷ []) ∷ []
fold_of_none = refl

-- by a task, it stands in the place of its index, and in its stream
pub swap_facts : held (unit_of plain_way (two true None (task_of (codes "a") (codes "f") 1 true ∷ []))) ≡ new_facts ∷ fold_facts (codes "f") ∷ []
unfolding unit_of
swap_facts = refl

pub swap_member : membered (unit_of plain_way (two true None (task_of (codes "a") (codes "f") 1 true ∷ []))) ≡ (codes "f" ∷ codes "b" ∷ []) ∷ []
unfolding unit_of
swap_member = refl

-- ---- a template that is put

abbrev called : List ℕ → Template
called name = record template { name = name }

-- the same name with a higher priority and another look-ahead
abbrev renewed : Template
renewed = record template { priority = 5; look_ahead = pos 120000 }

abbrev with_templates : List Template → PlainCatalog
with_templates ts = record (two false None []) { templates = ts }

-- one of the same name is replaced, and all else stays
pub put_replaces : template_put (two false None []) renewed ≡ with_templates (renewed ∷ [])
put_replaces = refl

-- in its place, whatever stands beside it
pub put_in_place : template_put (with_templates (called (codes "a") ∷ template ∷ called (codes "u") ∷ [])) renewed ≡ with_templates (called (codes "a") ∷ renewed ∷ called (codes "u") ∷ [])
put_in_place = refl

-- another one comes beside it, by its name
pub put_before : template_put (two false None []) (called (codes "a")) ≡ with_templates (called (codes "a") ∷ template ∷ [])
put_before = refl

pub put_behind : template_put (two false None []) (called (codes "u")) ≡ with_templates (template ∷ called (codes "u") ∷ [])
put_behind = refl

-- a name stands before the longer ones that begin with it
pub put_between : template_put (with_templates (called (codes "t-1") ∷ called (codes "u") ∷ [])) template ≡ with_templates (template ∷ called (codes "t-1") ∷ called (codes "u") ∷ [])
put_between = refl

-- ---- a lifecycle: of the stream named alone

pub life_first : (life : Lifecycle) → life_set (two false None []) (codes "s") life ≡ two false (Some life) []
life_first life = refl

-- it takes the place of another one
pub life_replaces : (life : Lifecycle) → life_set (two false keeping []) (codes "s") life ≡ two false (Some life) []
life_replaces life = refl

pub life_alone : (life : Lifecycle) → life_set two_streams (codes "s") life ≡ record two_streams { streams = other_stream ∷ stream (Some life) ∷ [] }
life_alone life = refl

pub life_of_other : (life : Lifecycle) → life_set two_streams (codes "r") life ≡ record two_streams { streams = record other_stream { life = Some life } ∷ stream keeping ∷ [] }
life_of_other life = refl

-- ---- a stream that goes takes its members and their tasks along, and nothing else

abbrev folding_two : PlainCatalog
folding_two = record two_streams { tasks = task_of (codes "z") (codes "y") 0 true ∷ task_of (codes "p") (codes "x") 0 true ∷ [] }

pub gone_streams : (stream_deleted folding_two (codes "r")).streams ≡ stream keeping ∷ []
gone_streams = refl

pub gone_indices : index_names (stream_deleted folding_two (codes "r")) ≡ codes "a" ∷ codes "b" ∷ codes "z" ∷ []
gone_indices = refl

pub gone_tasks : (stream_deleted folding_two (codes "r")).tasks ≡ task_of (codes "z") (codes "y") 0 true ∷ []
gone_tasks = refl

pub gone_templates : (stream_deleted folding_two (codes "r")).templates ≡ template ∷ []
gone_templates = refl

-- ---- a new stream

abbrev at_first : PlainCatalog
at_first = created streamless (codes "s") (pos 100000)

-- its first index has the day and the generation in its name
pub created_name : index_names at_first ≡ (codes ".ds-s-" ++ (day_text (pos 100000) ++ codes "-000001")) ∷ []
unfolding pattern_takes backing_name day_text
created_name = refl

-- the index is of its template, takes documents, and has no rows
abbrev first_facts : HeldIndex
first_facts = record {
  name = first_name (codes "s") (pos 100000);
  origin = first_name (codes "s") (pos 100000);
  template = codes "t";
  start = pos 40000;
  end = pos 160000;
  blocked = false;
  interval = None;
  mapping = mapping;
}

pub created_index : at_first.indices ≡ record { facts = first_facts; rows = [] } ∷ []
unfolding pattern_takes
created_index = refl

-- the stream has this index alone, and no lifecycle
pub created_stream : at_first.streams ≡ record { facts = record { name = codes "s"; template = codes "t"; generation = 1; members = first_name (codes "s") (pos 100000) ∷ [] }; life = None } ∷ []
unfolding pattern_takes
created_stream = refl

-- of two templates that match that of the greater priority
pub created_of : map (λ (s : PlainStream). s.facts.template) (created (record streamless { templates = template ∷ record (called (codes "u")) { priority = 1 } ∷ [] }) (codes "s") (pos 100000)).streams ≡ codes "u" ∷ []
unfolding pattern_takes
created_of = refl

-- beside others it stands by its name
pub created_beside : map stream_name (created (with_templates (record template { patterns = codes "*" ∷ [] } ∷ [])) (codes "r") (pos 100000)).streams ≡ codes "r" ∷ codes "s" ∷ []
unfolding pattern_takes
created_beside = refl

-- and its index by its own
pub created_among : index_names (created (with_templates (record template { patterns = codes "*" ∷ [] } ∷ [])) (codes "r") (pos 100000)) ≡ first_name (codes "r") (pos 100000) ∷ codes "a" ∷ codes "b" ∷ []
unfolding pattern_takes backing_name
created_among = refl

-- ---- a rollover, where the template was put again: it looks further ahead, has more shards, isn't strict, maps a path more, and
-- wouldn't take the stream's name any more

abbrev wider : Schema
wider = record schema {
  fields = record { path = codes "@timestamp"; kind = Date; role = Time }
      ∷ record { path = codes "cpu"; kind = Long; role = Gauge }
      ∷ record { path = codes "host"; kind = Keyword; role = Dimension }
      ∷ record { path = codes "req"; kind = Long; role = Counter } ∷ [];
  routing = 2 ∷ [];
}

abbrev widened : Template
widened = record template { patterns = codes "x" ∷ []; strict = false; shards = 4; look_ahead = pos 120000; schema = wider }

abbrev rolled : ℤ → PlainCatalog
rolled now = rolled_over (template_put (two false None []) widened) (codes "s") now

pub rolled_name : index_names (rolled (pos 25000)) ≡ (codes ".ds-s-" ++ (day_text (pos 25000) ++ codes "-000003")) ∷ codes "a" ∷ codes "b" ∷ []
unfolding backing_name day_text
rolled_name = refl

-- the stream counts a generation more, and the new index is its last member
pub rolled_stream : (rolled (pos 25000)).streams ≡ record (stream None) { facts = record { name = codes "s"; template = codes "t"; generation = 3; members = codes "a" ∷ codes "b" ∷ next_name (stream None) (pos 25000) ∷ [] } } ∷ []
rolled_stream = refl

-- the window begins where the last one ends; mapping and look-ahead are those of the template as it is now
abbrev next_facts : ℤ → HeldIndex
next_facts now = record {
  name = next_name (stream None) now;
  origin = next_name (stream None) now;
  template = codes "t";
  start = pos 20000;
  end = pos 145000;
  blocked = false;
  interval = None;
  mapping = record { strict = false; shards = 4; schema = wider };
}

-- the indices that are there keep their own
pub rolled_index : held (rolled (pos 25000)) ≡ next_facts (pos 25000) ∷ old_facts false ∷ new_facts ∷ []
unfolding backing_name day_text
rolled_index = refl

-- where the present is before the end of the last window, the new one ends as far behind that
pub rolled_sooner : windows (rolled (pos 15000)) ≡ (pos 20000, pos 140000) ∷ (pos 0, pos 10000) ∷ (pos 10000, pos 20000) ∷ []
unfolding backing_name day_text
rolled_sooner = refl

-- tasks and templates stay
pub rolled_tasks : (rolled_over (two false None (task_of (codes "z") (codes "y") 0 true ∷ [])) (codes "s") (pos 25000)).tasks ≡ task_of (codes "z") (codes "y") 0 true ∷ []
rolled_tasks = refl

pub rolled_templates : (rolled (pos 25000)).templates ≡ widened ∷ []
rolled_templates = refl

-- a lifecycle run too extends by the look-ahead of now
pub run_extends : windows (lifecycle_run (template_put (two false None []) widened) (pos 15000)).catalog ≡ (pos 0, pos 10000) ∷ (pos 10000, pos 135000) ∷ []
unfolding lifecycle_run
run_extends = refl
