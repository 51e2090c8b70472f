-- Which catalogues are sound.
use Rattle.std.specs.Prelude.{◌≡◌, ℕ, suc, ℤ, pos, ◌+ℤ◌, ◌≤ℤ◌, ◌<ℤ◌, ◌<◌, ◌≤◌, ◌%◌, ◌⊎◌, Bool, List, [], ◌∷◌, map, length, Option, Some, None, true, false, if◌then◌else◌, bytes_eq}
use Rattle.std.specs.List.{flat_map}
use Rattle.row_cells.specs.declared.rows.Row.{Row}
use Rattle.row_cells.specs.declared.schemas.Field.{Field}
use Rattle.row_cells.specs.declared.schemas.Schema.{Schema}
use Rattle.row_cells.specs.Each.{Each}
use Rattle.row_cells.specs.Fitting.{folded_form}
use Rattle.row_cells.specs.Joining.{FieldsAgree}
use Rattle.row_cells.specs.KeyedRows.{IsRowOf}
use Rattle.row_cells.specs.Limits.{most_documents}
use Rattle.row_cells.specs.RowLists.{AreDistinct, documents}
use Rattle.time_text.specs.declared.intervals.Interval.{Interval}
use Rattle.time_text.specs.Bucket.{bucket_start}
use Rattle.time_text.specs.Instant.{IsInstant}
use Rattle.time_text.specs.Interval.{ms_of}
use Rattle.downsample_fold.specs.Conditions.{AllAtStarts}
use Rattle.downsample_fold.specs.Intervals.{interval_fault}
use Rattle.downsample_fold.specs.Laws.{series_of, KeysAscend}
use Rattle.index_names.specs.Backing.{greatest_generation}
use Rattle.lifecycle_swap.specs.Lifecycles.{IsLifecycle}
use Rattle.lifecycle_swap.specs.declared.lifecycles.Lifecycle.{Lifecycle}
use Rattle.ts_mapping.specs.Facts.{IsMapping, IsTemplate}
use Rattle.ts_mapping.specs.declared.templates.Template.{Template}
use Rattle.stream_catalog.specs.declared.facts.HeldIndex.{HeldIndex}
use Rattle.stream_catalog.specs.Plain.{PlainIndex, PlainStream, PlainCatalog, PlainFacts, facts_of}
use Rattle.stream_catalog.specs.Ways.{see_catalog}
use Rattle.stream_catalog.specs.Lists.{template_name, stream_name, facts_name, template_named, facts_named, index_named}
use Rattle.stream_catalog.specs.Limits.{most_templates, most_streams, most_indices}
use Rattle.stream_catalog.specs.Names.{names_of}

-- ---- the rows of an index

abbrev pub raw_form : Schema → Schema
raw_form schema = record schema { folded = false }

abbrev pub IsWithin : ℤ → ℤ → ℤ → Type 0
IsWithin start end t = (start ≤ℤ t) × (t <ℤ end)

-- the rows of documents, with times in the window
pub record AreRaw (schema : Schema) (start end : ℤ) (rows : List Row) : Type 0 where
  pub each : Each (IsRowOf (raw_form schema)) rows
  pub within : Each (λ row. IsWithin start end row.time) rows

-- a bucket of n milliseconds that begins at b meets a window
abbrev pub Meets : ℕ → ℤ → ℤ → ℤ → Type 0
Meets n start end b = (b <ℤ end) × (start <ℤ (b +ℤ pos n))

-- rows folded by some divisor of n, whose buckets of n milliseconds meet the window
pub record AreFolds (schema : Schema) (start end : ℤ) (n : ℕ) (rows : List Row) : Type 0 where
  pub by : ℕ
  pub some : 0 < by
  pub divides : n % by ≡ 0
  pub each : Each (IsRowOf (folded_form schema)) rows
  pub starts : AllAtStarts by rows
  pub meet : Each (λ row. Meets n start end (bucket_start n row.time)) rows

-- by whether there is an interval
abbrev pub AreRows : Option Interval → Schema → ℤ → ℤ → List Row → Type 0
AreRows None schema start end rows = AreRaw schema start end rows
AreRows (Some by) schema start end rows = AreRaw schema start end rows ⊎ AreFolds schema start end (ms_of by) rows

-- rows of the index's form, no two of one series and time, for at most 16,777,216 documents
pub record IsIndexSound (i : PlainIndex) : Type 0 where
  pub rows : AreRows i.facts.interval i.facts.mapping.schema i.facts.start i.facts.end i.rows
  pub distinct : AreDistinct i.rows
  pub few : documents i.rows ≤ most_documents

-- ---- facts

-- an index has an interval exactly where its schema is folded, and then it is blocked; a raw schema rises
abbrev pub IsKind : Option Interval → Bool → Schema → Type 0
IsKind None blocked schema = (schema.folded ≡ false) × (schema.rises ≡ true)
IsKind (Some by) blocked schema = (schema.folded ≡ true) × (blocked ≡ true)

abbrev pub IsThere : {A : Type 0} → Option A → Type 0
IsThere None = ⊥
IsThere (Some a) = Unit {0}

-- an index by itself, and the template that it names
pub record IsHeld (f : PlainFacts) (i : HeldIndex) : Type 0 where
  pub begins : IsInstant i.start
  pub ends : IsInstant i.end
  pub some : i.start <ℤ i.end
  pub mapping : IsMapping i.mapping
  pub kind : IsKind i.interval i.blocked i.mapping.schema
  pub template : IsThere (template_named i.template f.templates)

abbrev pub IsMemberOf : List ℕ → Option HeldIndex → Type 0
IsMemberOf template None = ⊥
IsMemberOf template (Some i) = i.template ≡ template

-- the window of one ends at the latest where the next begins
abbrev pub EndsBefore : Option HeldIndex → Option HeldIndex → Type 0
EndsBefore (Some a) (Some b) = a.end ≤ℤ b.start
EndsBefore a b = ⊥

abbrev pub WindowsFollow : List (Option HeldIndex) → Type 0
WindowsFollow [] = Unit {0}
WindowsFollow (a ∷ []) = Unit {0}
WindowsFollow (a ∷ b ∷ rest) = EndsBefore a b × WindowsFollow (b ∷ rest)

abbrev pub IsLife : Option Lifecycle → Type 0
IsLife None = Unit {0}
IsLife (Some life) = IsLifecycle life

-- a stream has a template and one or more members of it, whose windows stand one behind the other
pub record IsStreamSound (f : PlainFacts) (s : PlainStream) : Type 0 where
  pub generation : s.facts.generation ≤ greatest_generation
  pub life : IsLife s.life
  pub template : IsThere (template_named s.facts.template f.templates)
  pub some : 0 < length s.facts.members
  pub members : Each (λ m. IsMemberOf s.facts.template (facts_named m f.indices)) s.facts.members
  pub windows : WindowsFollow (map (λ m. facts_named m f.indices) s.facts.members)

-- a folded index keeps its mark
abbrev pub KeepsMark : Option Interval → Bool → Bool → Type 0
KeepsMark None had rises = Unit {0}
KeepsMark (Some by) had rises = rises ≡ had

-- a task's index is blocked, and may be folded by the task's interval
abbrev pub IsTaskOf : Interval → Bool → Option HeldIndex → Type 0
IsTaskOf by rises None = ⊥
IsTaskOf by rises (Some i) = (i.blocked ≡ true) × (interval_fault i.interval by ≡ None) × KeepsMark i.interval i.mapping.schema.rises rises

-- how often a name stands in a list
abbrev pub times : List ℕ → List (List ℕ) → ℕ
times n [] = 0
times n (m ∷ ms) = if bytes_eq m n then suc (times n ms) else times n ms

-- no name stands twice
abbrev pub AreOnce : List (List ℕ) → Type 0
AreOnce ns = (n : List ℕ) → times n ns ≤ 1

-- how a template's name has its fields mapped
pub record Form : Type 0 where
  pub template : List ℕ
  pub fields : List Field

abbrev pub form_of : HeldIndex → Form
form_of i = record { template = i.template; fields = i.mapping.schema.fields }

abbrev pub template_form : Template → Form
template_form t = record { template = t.name; fields = t.schema.fields }

-- under one name no path is mapped in two ways
abbrev pub Agrees : Form → Form → Type 0
Agrees a b = a.template ≡ b.template → FieldsAgree a.fields b.fields

abbrev pub AllAgree : List Form → List Form → Type 0
AllAgree xs ys = Each (λ x. Each (Agrees x) ys) xs

pub record AreFactsSound (f : PlainFacts) : Type 0 where
  pub templates : Each IsTemplate f.templates
  pub indices : Each (IsHeld f) f.indices
  pub streams : Each (IsStreamSound f) f.streams
  pub tasks : Each (λ t. IsTaskOf t.by t.rises (facts_named t.index f.indices)) f.tasks
  pub indices_agree : AllAgree (map form_of f.indices) (map form_of f.indices)
  pub templates_agree : AllAgree (map form_of f.indices) (map template_form f.templates)
  -- lists stand by names
  pub template_order : KeysAscend (map template_name f.templates)
  pub stream_order : KeysAscend (map stream_name f.streams)
  pub index_order : KeysAscend (map facts_name f.indices)
  -- no name of a stream, an index or a fold under way is given twice; an index is in one stream and has one task at most
  pub names_once : AreOnce (names_of f)
  pub members_once : AreOnce (flat_map (λ s. s.facts.members) f.streams)
  pub tasks_once : AreOnce (map (λ t. t.index) f.tasks)
  pub few_templates : length f.templates ≤ most_templates
  pub few_streams : length f.streams ≤ most_streams
  pub few_indices : length f.indices ≤ most_indices

-- ---- catalogues

-- a task has a series to go, or its index has none
abbrev pub IsUnderWay : ℕ → Option PlainIndex → Type 0
IsUnderWay done None = ⊥
IsUnderWay done (Some i) = (done < length (series_of i.rows)) ⊎ ((done ≡ 0) × (length (series_of i.rows) ≡ 0))

pub record IsSoundCatalog (c : PlainCatalog) : Type 0 where
  pub facts : AreFactsSound (facts_of c)
  pub indices : Each IsIndexSound c.indices
  pub tasks : Each (λ t. IsUnderWay t.done (index_named t.index c.indices)) c.tasks

-- what is seen of a sound catalogue
pub record IsSeenCatalog (c : PlainCatalog) : Type 0 where
  pub sound : IsSoundCatalog c
  pub again : see_catalog c ≡ c
