-- The bytes of a segment.
use Rattle.std.specs.Prelude.{◌≡◌, ℕ, ℤ, pos, List, [], ◌∷◌, ◌++◌, length, map}
use Rattle.std.specs.Int.{w32, to_be_bytes}
use Rattle.std.specs.List.{flat_map}
use Rattle.row_cells.specs.declared.schemas.Schema.{Schema}
use Rattle.row_cells.specs.declared.rows.Row.{Row}
use Rattle.row_cells.specs.Dimensions.{text_bytes}
use Rattle.column_block.specs.declared.kinds.Values.{Values}
use Rattle.packed_lists.specs.Nums.{IsNums}
use Rattle.column_block.specs.Spelling.{Spells}
use Rattle.index_segment.specs.Columns.{columns_of}
use Rattle.index_segment.specs.Directory.{keys_of, sizes_of}
use Rattle.row_cells.specs.KeyedRows.{AreRowsOf}

-- "TSS1"
abbrev pub mark : List ℕ
mark = 84 ∷ 83 ∷ 83 ∷ 49 ∷ []

-- the mark, how many rows and how many series there are, and the keys, each behind two bytes of length
abbrev pub head_bytes : ℕ → List (List ℕ) → List ℕ
head_bytes rows keys = mark ++ (to_be_bytes w32 rows ++ (to_be_bytes w32 (length keys) ++ flat_map text_bytes keys))

-- whole numbers as a list has them
abbrev pub counted : List ℕ → List ℤ
counted ns = map (λ n. pos n) ns

abbrev pub times_of : List Row → List ℤ
times_of rows = map (λ row. row.time) rows

abbrev pub counts_of : List Row → List ℤ
counts_of rows = map (λ row. pos row.count) rows

-- what stands in front of the columns: the head, how many rows each series has, and each row's time and count of documents
pub record IsFrontOf (rows : ℕ) (keys : List (List ℕ)) (sizes times counts : List ℤ) (bytes : List ℕ) : Type 0 where
  pub size_bytes : List ℕ
  pub time_bytes : List ℕ
  pub count_bytes : List ℕ
  pub sizes_are : IsNums sizes size_bytes
  pub times_are : IsNums times time_bytes
  pub counts_are : IsNums counts count_bytes
  pub joined : bytes ≡ head_bytes rows keys ++ (size_bytes ++ (time_bytes ++ count_bytes))

abbrev pub IsFront : List Row → List ℕ → Type 0
IsFront rows bytes = IsFrontOf (length rows) (keys_of rows) (counted (sizes_of rows)) (times_of rows) (counts_of rows) bytes

-- the bytes of columns, one behind the other
abbrev pub AreColumns : List Values → List ℕ → Type 0
AreColumns [] bytes = bytes ≡ []
AreColumns (column ∷ columns) bytes = (front rest : List ℕ) × Spells column front × AreColumns columns rest × (bytes ≡ front ++ rest)

-- the bytes are those of the rows
pub record Spell (schema : Schema) (rows : List Row) (bytes : List ℕ) : Type 0 where
  pub front : List ℕ
  pub back : List ℕ
  pub front_is : IsFront rows front
  pub back_is : AreColumns (columns_of schema rows) back
  pub joined : bytes ≡ front ++ back

-- the bytes are a segment of the schema, with these rows
pub record IsSegmentOf (schema : Schema) (rows : List Row) (bytes : List ℕ) : Type 0 where
  pub rows_are : AreRowsOf schema rows
  pub spelled : Spell schema rows bytes
