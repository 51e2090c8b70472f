-- The laws of rows and the documents that stand for them.
use Rattle.std.specs.Prelude.{◌≡◌, ◌≤◌, Bool, false, List, Some}
use Rattle.std.specs.declared.result.Result.TheVariants.{Ok}
use Rattle.row_cells.specs.Each.{Each}
use Rattle.row_cells.specs.KeyedRows.{IsShortList}
use Rattle.row_cells.specs.Limits.{longest_list}
use Rattle.row_cells.specs.declared.rows.Cell.{Cell}
use Rattle.row_cells.specs.declared.schemas.Schema.{Schema}
use Rattle.row_cells.specs.declared.rows.Row.{Row}
use Rattle.row_cells.specs.Fitting.{CellsFit, Fits}
use Rattle.serde_json.specs.Data.{Data}
use Rattle.json_walk.specs.Counted.{leaf_count}
use Rattle.json_walk.specs.Tree.{tree_of}
use Rattle.reply_json.specs.Reply.{text}
use Rattle.ts_mapping.specs.Schemas.{IsTemplateSchema}
use Rattle.synthetic_source.specs.Document.{document_cells}
use Rattle.synthetic_source.specs.Normal.{norm}
use Rattle.synthetic_source.specs.Replies.{out_of}
use Rattle.synthetic_source.specs.Rows.{IsTyped}
use Rattle.synthetic_source.specs.Shallow.{AreShallow, HaveSmallSums}

-- the document that a raw row of a template's schema stands for has no fault, whether or not mappings are strict, and its
-- row has the time and the cells that the row has
abbrev pub RebuiltTypes : Type 0
RebuiltTypes = (schema : Schema) (row : Row) (strict : Bool) → IsTemplateSchema schema → schema.folded ≡ false → Fits schema row → IsTyped schema strict (norm schema row) (record { time = row.time; cells = row.cells })

-- whatever row that document types as stands for the same document
abbrev pub RebuiltSettles : Type 0
RebuiltSettles = (schema : Schema) (row again : Row) (strict : Bool) → IsTemplateSchema schema → schema.folded ≡ false → Fits schema row
    → IsTyped schema strict (norm schema row) (record { time = again.time; cells = again.cells }) → norm schema again ≡ norm schema row

-- the cells of a document without fault fit the schema, and where its leaves are few enough, so are the values of its labels
abbrev pub CellsOfDocumentsFit : Type 0
CellsOfDocumentsFit = (schema : Schema) (strict : Bool) (d : Data) (cells : List Cell) → IsTemplateSchema schema → leaf_count d ≤ longest_list
    → document_cells schema strict d ≡ Ok cells → CellsFit false schema.rises 1 schema.fields cells × Each IsShortList cells

-- the printed text of a row of a raw schema is read as its normal form
abbrev pub PrintedReadsBack : Type 0
PrintedReadsBack = (schema : Schema) (row : Row) → IsTemplateSchema schema → Fits schema row → AreShallow schema.fields → schema.folded ≡ false → tree_of (text (out_of (norm schema row))) ≡ Some (norm schema row)

-- and so is that of a row of any schema whose sums are small
abbrev pub PrintedFoldReadsBack : Type 0
PrintedFoldReadsBack = (schema : Schema) (row : Row) → IsTemplateSchema schema → Fits schema row → AreShallow schema.fields → HaveSmallSums row.cells → tree_of (text (out_of (norm schema row))) ≡ Some (norm schema row)
