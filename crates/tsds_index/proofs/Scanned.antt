-- Rows of a range, gathered segment by segment from the newest on.
use Rattle.std.specs.Prelude.{◌≡◌, ℕ, ℤ, List, [], ◌∷◌, ◌++◌}
use Rattle.std.proofs.Common.{ap, sym, ◌∙◌, append_assoc}
use Rattle.std.proofs.lemmas.List.Elements.{filter-append}
use Rattle.row_cells.specs.declared.rows.Row.{Row}
use Rattle.index_segment.specs.Held.{Held}
use Rattle.index_segment.specs.Looks.{is_within, rows_within}
use Rattle.tsds_index.specs.Segments.{lists_in}
use Rattle.tsds_index.specs.Spread.{newest_first}
use Rattle.tsds_index.proofs.Looked.{newest_is}

pub range_before : (key : List ℕ) (from to : ℤ) (into more rows goal : List Row) (left older : List Held) (s : Held) → left ≡ older ++ s ∷ [] → rows ≡ rows_within key from to s.rows → more ≡ into ++ rows → into ++ rows_within key from to (newest_first (lists_in left)) ≡ goal → more ++ rows_within key from to (newest_first (lists_in older)) ≡ goal
range_before key from to into more rows goal left older s left_is rows_are more_is before =
    ap (λ rs. rs ++ rows_within key from to (newest_first (lists_in older))) (more_is ∙ ap (λ rs. into ++ rs) rows_are)
    ∙ (append_assoc into (rows_within key from to s.rows) (rows_within key from to (newest_first (lists_in older)))
    ∙ (ap (λ rs. into ++ rs) (sym (ap (rows_within key from to) (newest_is left older s left_is) ∙ filter-append (is_within key from to) s.rows (newest_first (lists_in older))))
    ∙ before))
