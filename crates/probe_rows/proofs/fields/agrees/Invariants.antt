use Rattle.std.proofs.Common.{◌↔◌, drop}
use Rattle.probe_rows.specs.Agreed.{AgreesWith}
use Rattle.probe_rows.proofs.fields.agrees.Given as goal

abbrev pub invariant-loop-other : goal.invariant-loop-other
invariant-loop-other l = AgreesWith l.others l.field ↔ AgreesWith (drop l.other-index l.others) l.field
