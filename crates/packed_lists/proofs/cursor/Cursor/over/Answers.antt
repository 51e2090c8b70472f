use Rattle.std.proofs.Common.{arith}
use Rattle.packed_lists.specs.Laws.Decodes.{values_at-is}
use Rattle.packed_lists.proofs.cursor.Cursor.over.Goals as goal

pub invariant_of-result : goal.invariant_of-result
invariant_of-result c =
    let (vs, h, n) = c.requires in
    rw (values_at-is c.args.bytes.now c.args.places.now vs h) (record { placed = h; count = n; cached = record { numbers = λ l. absurd (omega (arith, l)); few = omega arith } })

pub returns : goal.returns
returns c = λ vs h. values_at-is c.args.bytes.now c.args.places.now vs h
