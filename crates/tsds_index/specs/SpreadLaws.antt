-- The rows of an index, told by its parts.
use Rattle.std.specs.Prelude.{◌≡◌, ℕ, ◌+◌, List, [], ◌∷◌, ◌++◌, length, sum_by}
use Rattle.std.proofs.Common.{refl, ap, ◌∙◌, arith}
use Rattle.std.proofs.lemmas.List.{length-append}
use Rattle.std.proofs.lemmas.List.Sums.{sum_by-cons}
use Rattle.row_cells.specs.declared.rows.Row.{Row}
use Rattle.row_cells.specs.declared.schemas.Schema.{Schema}
use Rattle.row_cells.specs.PlaceLaws.{documents-append, length-in_row_order}
use Rattle.row_cells.specs.OrderLaws.{documents-in_row_order}
use Rattle.row_cells.specs.RowLists.{documents, in_row_order}
use Rattle.tsds_index.specs.Answers.{restored}
use Rattle.tsds_index.specs.Spread.{Part, Spread, all_rows, newest_first, rows_in, rows_of}

-- how many rows a shard has: those of its buffer, and of each of its lists
abbrev pub part_length : Part → ℕ
part_length p = length p.buffer + sum_by length p.sealed

abbrev pub part_documents : Part → ℕ
part_documents p = documents p.buffer + sum_by documents p.sealed

newest_length : (lists : List (List Row)) → length (newest_first lists) ≡ sum_by length lists
newest_length [] = refl
newest_length (rows ∷ lists) = omega (arith, length-append (newest_first lists) rows, newest_length lists, sum_by-cons length rows lists)

newest_documents : (lists : List (List Row)) → documents (newest_first lists) ≡ sum_by documents lists
newest_documents [] = refl
newest_documents (rows ∷ lists) = omega (arith, documents-append (newest_first lists) rows, newest_documents lists, sum_by-cons documents rows lists)

all_length : (ps : List Part) → length (all_rows ps) ≡ sum_by part_length ps
all_length [] = refl
all_length (p ∷ ps) = omega (arith, length-append (rows_in p) (all_rows ps), length-append p.buffer (newest_first p.sealed), newest_length p.sealed, all_length ps, sum_by-cons part_length p ps)

all_documents : (ps : List Part) → documents (all_rows ps) ≡ sum_by part_documents ps
all_documents [] = refl
all_documents (p ∷ ps) = omega (arith, documents-append (rows_in p) (all_rows ps), documents-append p.buffer (newest_first p.sealed), newest_documents p.sealed, all_documents ps, sum_by-cons part_documents p ps)

-- an index has as many rows as its parts together
pub rows_are_counted : (h : Spread) → length (rows_of h) ≡ sum_by part_length h.parts
unfolding rows_of
rows_are_counted h = length-in_row_order (all_rows h.parts) ∙ all_length h.parts

-- and as many documents
pub documents_are_counted : (h : Spread) → documents (rows_of h) ≡ sum_by part_documents h.parts
unfolding rows_of
documents_are_counted h = documents-in_row_order (all_rows h.parts) ∙ all_documents h.parts

-- lists one behind the other
abbrev pub joined_lists : List (List Row) → List Row
joined_lists [] = []
joined_lists (rows ∷ lists) = rows ++ joined_lists lists

restored_all : (lists : List (List Row)) → all_rows (restored lists) ≡ joined_lists lists
restored_all [] = refl
restored_all (rows ∷ lists) = ap (λ rs. rows ++ rs) (restored_all lists)

-- an index that is restored has the rows of its lists
pub restored_rows : (schema : Schema) (lists : List (List Row)) → rows_of (record { schema = schema; parts = restored lists }) ≡ in_row_order (joined_lists lists)
unfolding rows_of
restored_rows schema lists = ap in_row_order (restored_all lists)

-- sealed shards are restored from their lists alone
pub one_list : (p : Part) (rows : List Row) → p.sealed ≡ rows ∷ [] → p.buffer ≡ [] → rows_in p ≡ rows
one_list p rows sealed empty = let lists = ap newest_first sealed in ap (λ rs. rs ++ newest_first p.sealed) empty ∙ lists
