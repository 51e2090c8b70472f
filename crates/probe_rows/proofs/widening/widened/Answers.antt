use Rattle.std.proofs.Common.{refl}
use Rattle.probe_rows.proofs.widening.widened.Goals as goal

pub put_joined-requires-clause-agree : goal.put_joined-requires-clause-agree
put_joined-requires-clause-agree c = (rw c.as_slice.ensures at (rw c.as_slice-2.ensures at c.if-agree.ensures)) refl
