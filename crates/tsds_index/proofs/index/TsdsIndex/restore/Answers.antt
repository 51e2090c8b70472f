use Rattle.std.proofs.Common.{List, ◌≤◌, ap, length, sym, subst, ◌∙◌}
use Rattle.row_cells.specs.Each.{Each}
use Rattle.row_cells.specs.KeyedRows.{AreRowsOf}
use Rattle.row_cells.specs.Limits.{most_documents}
use Rattle.index_segment.specs.Held.{Held}
use Rattle.tsds_index.specs.Answers.{restored}
use Rattle.tsds_index.specs.Segments.{lists_in}
use Rattle.tsds_index.specs.Spread.{Part, Spread, all_rows}
use Rattle.tsds_index.proofs.Restored.{few_rows, restored_kept, restored_parts}
use Rattle.tsds_index.proofs.index.TsdsIndex.restore.Goals as goal

pub count_rows-rows-requires : goal.count_rows-rows-requires
count_rows-rows-requires c =
    subst (λ (gs : List Held). length (all_rows (restored (lists_in gs))) ≤ most_documents) (sym c.as_slice-2.ensures.value)
    (few_rows c.args.schema c.args.shards.items c.requires.schemas (subst (λ (gs : List Held). Each (λ segment. AreRowsOf segment.schema segment.rows) gs) c.as_slice.ensures.value c.are_known.ensures) c.requires.few)

pub invariant_of-result : goal.invariant_of-result
invariant_of-result c =
    restored_kept c.args.schema c.in_ok-made.made.items c.args.shards.items c.count_rows-rows.result (record { sealed = c.in_ok-made.ensures.sealed; buffers = c.in_ok-made.ensures.buffers }) c.requires.schema c.requires.some c.requires.few_shards c.requires.schemas
    (subst (λ (gs : List Held). Each (λ segment. AreRowsOf segment.schema segment.rows) gs) c.as_slice.ensures.value c.are_known.ensures) c.requires.routed c.requires.few
    (c.count_rows-rows.ensures ∙ ap (λ (gs : List Held). length (all_rows (restored (lists_in gs)))) c.as_slice-2.ensures.value)

pub returns : goal.returns
returns c =
    let of_parts : List Part → Spread = λ ps. record { schema = c.args.schema; parts = ps } in
    ap of_parts (restored_parts c.in_ok-made.made.items c.args.shards.items (record { sealed = c.in_ok-made.ensures.sealed; buffers = c.in_ok-made.ensures.buffers }))
