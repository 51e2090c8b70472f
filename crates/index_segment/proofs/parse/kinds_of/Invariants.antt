use Rattle.std.proofs.Common.{◌≡◌, ◌++◌, drop}
use Rattle.index_segment.specs.Parts as kept
use Rattle.index_segment.proofs.parse.kinds_of.Given as goal

abbrev pub invariant-loop-form : goal.invariant-loop-form
invariant-loop-form l = l.kinds.items ++ kept.kinds_of (drop l.form-index l.forms) ≡ kept.kinds_of l.forms
