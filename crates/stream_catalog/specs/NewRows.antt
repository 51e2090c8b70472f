-- Rows of indices that are to come, for private clauses.
use Rattle.std.specs.Prelude.{◌≡◌, ℕ, ℤ, List, [], Some}
use Rattle.ts_mapping.specs.declared.templates.Template.{Template}
use Rattle.tsds_index.specs.Spread.{rows_of}
use Rattle.stream_catalog.specs.declared.facts.HeldIndex.{HeldIndex}
use Rattle.stream_catalog.specs.declared.held_rows.HeldRows.{HeldRows}
use Rattle.stream_catalog.specs.Lists.{facts_named, stream_named, template_named}
use Rattle.stream_catalog.specs.Plain.{PlainFacts, PlainStream}
use Rattle.stream_catalog.specs.Streams.{next_name, write_name}

-- no rows, under the name of a stream's next write index, of the schema of the stream's template
pub record IsForNext (f : PlainFacts) (n : List ℕ) (now : ℤ) (rows : HeldRows) : Type 0 where
  pub stream : PlainStream
  pub template : Template
  pub write : HeldIndex
  pub found : stream_named n f.streams ≡ Some stream
  pub taken : template_named stream.facts.template f.templates ≡ Some template
  pub last : facts_named (write_name stream) f.indices ≡ Some write
  pub name : rows.name ≡ next_name stream now
  pub schema : rows.index.schema ≡ template.schema
  pub empty : rows_of rows.index ≡ []
