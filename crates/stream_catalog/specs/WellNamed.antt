-- Which names stand in a catalogue.
use Rattle.std.specs.Prelude.{IsTrue}
use Rattle.row_cells.specs.Each.{Each}
use Rattle.index_names.specs.Names.{is_stream_name, is_target_name, is_index_name}
use Rattle.index_names.specs.Reading.{IsBackingName}
use Rattle.ts_mapping.specs.declared.templates.Template.{Template}
use Rattle.stream_catalog.specs.declared.facts.TaskFacts.{TaskFacts}
use Rattle.stream_catalog.specs.Plain.{PlainIndex, PlainStream, PlainCatalog}

abbrev pub IsTemplateNamed : Template → Type 0
IsTemplateNamed t = IsTrue (is_stream_name t.name)

abbrev pub IsStreamNamed : PlainStream → Type 0
IsStreamNamed s = IsTrue (is_stream_name s.facts.name)

-- an index has a name of its own, and that of the backing index that it is or was folded from
abbrev pub IsIndexNamed : PlainIndex → Type 0
IsIndexNamed i = IsTrue (is_index_name i.facts.name) × IsBackingName i.facts.origin

-- what a task folds to has the name of a target, which begins with a letter or a digit
abbrev pub IsTaskNamed : TaskFacts → Type 0
IsTaskNamed t = IsTrue (is_target_name t.target)

-- each name is well formed, also those that running tasks are going to give
pub record IsWellNamed (c : PlainCatalog) : Type 0 where
  pub templates : Each IsTemplateNamed c.templates
  pub streams : Each IsStreamNamed c.streams
  pub indices : Each IsIndexNamed c.indices
  pub tasks : Each IsTaskNamed c.tasks
