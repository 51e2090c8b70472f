use Rattle.std.proofs.Common.{drop, map}
use Rattle.ts_mapping.specs.Schemas.{AreTemplateFields}
use Rattle.synthetic_source.specs.Gathered.{AreTimed, slot_leaves}
use Rattle.synthetic_source.proofs.Cells.{GoodOn, FaultyOn}
use Rattle.synthetic_source.proofs.reading.read_cells.Given as goal

abbrev pub invariant-loop-i : goal.invariant-loop-i
invariant-loop-i l = record {
  good : GoodOn (drop l.i l.fields) (drop l.i (map slot_leaves l.slots)) l.cells.items l.fields (map slot_leaves l.slots);
  faulty : FaultyOn (drop l.i l.fields) (drop l.i (map slot_leaves l.slots)) l.i l.fields (map slot_leaves l.slots);
  timed : AreTimed (drop l.i l.fields) (drop l.i (map slot_leaves l.slots));
  left : AreTemplateFields (drop l.i l.fields);
}
