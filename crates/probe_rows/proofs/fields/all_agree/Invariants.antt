use Rattle.std.proofs.Common.{◌↔◌, drop}
use Rattle.probe_rows.specs.Agreed.{AreAgreed}
use Rattle.probe_rows.proofs.fields.all_agree.Given as goal

abbrev pub invariant-loop-field : goal.invariant-loop-field
invariant-loop-field l = AreAgreed l.second l.first ↔ AreAgreed l.second (drop l.field-index l.first)
