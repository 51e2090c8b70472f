-- Rows that are put, and which index takes them.
use Rattle.std.specs.Prelude.{◌≡◌, ℕ, ℤ, Bool, ◌&&◌, true, false, int_le, int_lt, nat_le, List, length, Option, Some, None, Result, Ok, Err, if◌then◌else◌}
use Rattle.std.specs.List.{find}
use Rattle.row_cells.specs.declared.rows.Row.{Row}
use Rattle.stream_catalog.specs.declared.answers.PickError.{PickError}
use Rattle.stream_catalog.specs.declared.answers.PickError.TheVariants.{NoWindow, Blocked}
use Rattle.stream_catalog.specs.declared.facts.HeldIndex.{HeldIndex}
use Rattle.stream_catalog.specs.Plain.{PlainIndex, PlainStream, PlainCatalog}
use Rattle.stream_catalog.specs.Ways.{Way}
use Rattle.stream_catalog.specs.Lists.{updated, index_name, members_of}
use Rattle.row_cells.specs.KeyedRows.{IsRowOf}
use Rattle.row_cells.specs.Limits.{most_documents}
use Rattle.row_cells.specs.RowLists.{has_place}

-- a window has its start, and not its end
abbrev pub has_time : HeldIndex → ℤ → Bool
has_time i t = int_le i.start t && int_lt t i.end

-- the member whose window has a time
abbrev pub member_at : PlainCatalog → ℤ → PlainStream → Option PlainIndex
member_at c t s = find (λ i. has_time i.facts t) (members_of c s)

abbrev pub picked_from : Option PlainIndex → Result PlainIndex PickError
picked_from None = Err NoWindow
picked_from (Some i) = if i.facts.blocked then Err Blocked else Ok i

-- the member that takes a document of a time
abbrev pub picked_by : PlainCatalog → PlainStream → ℤ → Result PlainIndex PickError
picked_by c s t = picked_from (member_at c t s)

abbrev pub is_full : List Row → Bool
is_full rows = nat_le most_documents (length rows)

-- an index may take a row: it takes documents, its window has the time, the place is free, there is room, and the row is of its schema
pub record MayPut (facts : HeldIndex) (rows : List Row) (row : Row) : Type 0 where
  pub takes : facts.blocked ≡ false
  pub within : has_time facts row.time ≡ true
  pub free : has_place row.key row.time rows ≡ false
  pub room : is_full rows ≡ false
  pub row_of : IsRowOf facts.mapping.schema row

abbrev pub put_into : Way → PlainCatalog → List ℕ → Row → PlainCatalog
put_into way c n row = record c { indices = updated index_name n (λ i. record i { rows = way.added row i.rows }) c.indices }
