use Rattle.std.proofs.Common.{[], ◌∷◌, ◌∙◌, subst}
use Rattle.row_cells.specs.Each.{Each}
use Rattle.row_cells.specs.KeyedRows.{IsRowOf}
use Rattle.row_cells.specs.PlaceLaws.{each_parts}
use Rattle.probe_index.proofs.filling.put_rows.Goals as goal

pub loop-row-preserved-then-not-branch : goal.loop-row-preserved-then-not-branch
loop-row-preserved-then-not-branch c = record {
  same = c.put_row.ensures ∙ c.loop-row.invariant.same;
  rows = (each_parts (IsRowOf c.args.index.now.schema) c.in-Some.rest.now (c.in-Some.row.now ∷ []) (subst (Each (IsRowOf c.args.index.now.schema)) c.in-Some.ensures.cases.0 c.loop-row.invariant.rows)).0;
}

pub loop-row-preserved : goal.loop-row-preserved
loop-row-preserved c = record {
  same = c.put_row.ensures ∙ c.loop-row.invariant.same;
  rows = (each_parts (IsRowOf c.args.index.now.schema) c.in-Some.rest.now (c.in-Some.row.now ∷ []) (subst (Each (IsRowOf c.args.index.now.schema)) c.in-Some.ensures.cases.0 c.loop-row.invariant.rows)).0;
}
