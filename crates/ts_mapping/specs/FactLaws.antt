-- What is known of mappings follows from what is known of templates.
use Rattle.ts_mapping.specs.Facts.{IsMapping, IsTemplate}
use Rattle.ts_mapping.specs.Ranges.{mapping_of}
use Rattle.ts_mapping.specs.declared.templates.Template.{Template}

-- what an index keeps of a template is a mapping
pub mapping_is : (t : Template) → IsTemplate t → IsMapping (mapping_of t)
mapping_is t is = record { shards = is.ranges.shards; schema = is.schema }
