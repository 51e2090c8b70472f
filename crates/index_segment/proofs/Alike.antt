-- Rows have one spelling.
use Rattle.std.specs.Prelude.{◌≡◌, ℕ, List, [], ◌∷◌, ◌++◌, length}
use Rattle.std.proofs.Common.{ap, sym, ◌∙◌}
use Rattle.row_cells.specs.declared.schemas.Schema.{Schema}
use Rattle.row_cells.specs.declared.rows.Row.{Row}
use Rattle.column_block.specs.declared.kinds.Values.{Values}
use Rattle.packed_lists.specs.Laws.Fronts.{one-nums}
use Rattle.column_block.specs.Spelling.{Spells}
use Rattle.index_segment.specs.Columns.{columns_of}
use Rattle.index_segment.specs.Directory.{keys_of, sizes_of}
use Rattle.index_segment.specs.Spelling.{AreColumns, IsFront, IsSegmentOf, counted, counts_of, head_bytes, times_of}

pub one_front : (rows : List Row) (a b : List ℕ) → IsFront rows a → IsFront rows b → a ≡ b
one_front rows a b x y =
    let head = head_bytes (length rows) (keys_of rows) in
    x.joined
    ∙ (ap (λ l. head ++ (l ++ (x.time_bytes ++ x.count_bytes))) (one-nums (counted (sizes_of rows)) x.size_bytes y.size_bytes x.sizes_are y.sizes_are)
    ∙ (ap (λ l. head ++ (y.size_bytes ++ (l ++ x.count_bytes))) (one-nums (times_of rows) x.time_bytes y.time_bytes x.times_are y.times_are)
    ∙ (ap (λ l. head ++ (y.size_bytes ++ (y.time_bytes ++ l))) (one-nums (counts_of rows) x.count_bytes y.count_bytes x.counts_are y.counts_are)
    ∙ sym y.joined)))

module _ (column : (vs : Values) (a b : List ℕ) → Spells vs a → Spells vs b → a ≡ b) where
  one_columns : (columns : List Values) (a b : List ℕ) → AreColumns columns a → AreColumns columns b → a ≡ b
  one_columns [] a b x y = x ∙ sym y
  one_columns (c ∷ columns) a b (f, r, x, xs, p) (g, s, y, ys, q) = p ∙ (ap (λ l. l ++ r) (column c f g x y) ∙ (ap (λ l. g ++ l) (one_columns columns r s xs ys) ∙ sym q))

  pub one_segment : (schema : Schema) (rows : List Row) (a b : List ℕ) → IsSegmentOf schema rows a → IsSegmentOf schema rows b → a ≡ b
  one_segment schema rows a b x y =
      x.spelled.joined
      ∙ (ap (λ l. l ++ x.spelled.back) (one_front rows x.spelled.front y.spelled.front x.spelled.front_is y.spelled.front_is)
      ∙ (ap (λ l. y.spelled.front ++ l) (one_columns (columns_of schema rows) x.spelled.back y.spelled.back x.spelled.back_is y.spelled.back_is)
      ∙ sym y.spelled.joined))
