-- What a segment in memory holds, and the rows that it stands for.
use Rattle.std.specs.Prelude.{◌≡◌, ℕ, ℤ, ◌+◌, unsigned_abs, List, [], ◌∷◌, map}
use Rattle.row_cells.specs.declared.schemas.Schema.{Schema}
use Rattle.row_cells.specs.declared.rows.Row.{Row}
use Rattle.row_cells.specs.Mapped.{IsMapped}
use Rattle.row_cells.specs.declared.rows.Cell.{Cell}
use Rattle.index_segment.specs.declared.forms.Form.{Form}
use Rattle.column_block.specs.declared.kinds.Values.{Values}
use Rattle.index_segment.specs.Columns.{cells_from, columns_of}
use Rattle.index_segment.specs.Directory.{keys_of, sizes_of, spread, starts_from}
use Rattle.index_segment.specs.Forms.{forms_of}
use Rattle.row_cells.specs.Heads.{heads_in}
use Rattle.row_cells.specs.KeyedRows.{AreRowsOf}
use Rattle.index_segment.specs.Spelling.{counted, times_of, counts_of}

-- a schema and rows
pub record Held : Type 0 where
  pub schema : Schema
  pub rows : List Row

-- a row by its key, time, count, and the place at which columns have it
abbrev pub row_from : Schema → List Values → ℕ → List ℕ → ℤ → ℤ → Row
row_from schema columns k key time count = record {
  key = key;
  time = time;
  count = unsigned_abs count;
  cells = cells_from (forms_of schema) (heads_in schema.fields key) columns 0 k;
}

abbrev pub rows_from : Schema → List Values → ℕ → List (List ℕ) → List ℤ → List ℤ → List Row
rows_from schema columns k (key ∷ keys) (time ∷ times) (count ∷ counts) = row_from schema columns k key time count ∷ rows_from schema columns (k + 1) keys times counts
rows_from schema columns k keys times counts = []

-- rows of one series
abbrev pub series_rows : List ℕ → List Form → List Cell → List Values → ℕ → List ℤ → List ℤ → List Row
series_rows key forms heads columns k (time ∷ times) (count ∷ counts) = record {
  key = key;
  time = time;
  count = unsigned_abs count;
  cells = cells_from forms heads columns 0 k;
} ∷ series_rows key forms heads columns (k + 1) times counts
series_rows key forms heads columns k times counts = []

-- the sizes of whole numbers
abbrev pub plain : List ℤ → List ℕ
plain ns = map unsigned_abs ns

-- the rows that keys with their numbers of rows, times, counts and columns stand for
unfoldable pub rows_held : Schema → List (List ℕ) → List ℤ → List ℤ → List ℤ → List Values → List Row
rows_held schema keys sizes times counts columns = rows_from schema columns 0 (spread keys (plain sizes)) times counts

-- each part is that of the rows
pub record Packs (schema : Schema) (rows : List Row) (keys : List (List ℕ)) (starts : List ℕ) (sizes times counts : List ℤ) (columns : List Values) : Type 0 where
  pub mapped : IsMapped schema
  pub rows_are : AreRowsOf schema rows
  pub keys_are : keys ≡ keys_of rows
  pub starts_are : starts ≡ starts_from 0 (sizes_of rows)
  pub sizes_are : sizes ≡ counted (sizes_of rows)
  pub times_are : times ≡ times_of rows
  pub counts_are : counts ≡ counts_of rows
  pub columns_are : columns ≡ columns_of schema rows
