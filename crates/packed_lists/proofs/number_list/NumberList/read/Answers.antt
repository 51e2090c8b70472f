use Rattle.std.proofs.Common.{◌∙◌, ap, sym, subst, length, take, ℤ, List}
use Rattle.packed_lists.specs.Decoded.{AreBlocksAt}
use Rattle.packed_lists.specs.Nums.{IsNums}
use Rattle.packed_lists.specs.Laws.Decodes.{values_at-is}
use Rattle.packed_lists.specs.Laws.Founds.{found-nums}
use Rattle.packed_lists.proofs.number_list.NumberList.read.Goals as goal

pub invariant_of-numbers : goal.invariant_of-numbers
invariant_of-numbers c =
    let (vs, h, n) = rw c.in-Some.is at c.in_ok-found.ensures.some in
    let bytes = c.in_ok-from_slice.ensures.items in
    let placed : AreBlocksAt c.in_ok-from_slice.field-0.items c.in-Some.field-0.places.items vs = rw bytes h.placed in
    rw (values_at-is c.in_ok-from_slice.field-0.items c.in-Some.field-0.places.items vs placed)
    (record { spelled = rw bytes (found-nums c.args.bytes.now c.in-Some.field-0.end c.in-Some.field-0.places.items vs h); placed = placed; count = sym n })

pub returns-clause-count : goal.returns-clause-count
returns-clause-count c =
    let (vs, h, n) = rw c.in-Some.is at c.in_ok-found.ensures.some in
    let placed : AreBlocksAt c.in_ok-from_slice.field-0.items c.in-Some.field-0.places.items vs = rw c.in_ok-from_slice.ensures.items h.placed in
    ap (λ (z : List ℤ). length z) (values_at-is c.in_ok-from_slice.field-0.items c.in-Some.field-0.places.items vs placed) ∙ n

pub returns-clause-spelled : goal.returns-clause-spelled
returns-clause-spelled c =
    let (vs, h, n) = rw c.in-Some.is at c.in_ok-found.ensures.some in
    let placed : AreBlocksAt c.in_ok-from_slice.field-0.items c.in-Some.field-0.places.items vs = rw c.in_ok-from_slice.ensures.items h.placed in
    subst (λ z. IsNums z (take c.in-Some.field-0.end c.args.bytes.now)) (sym (values_at-is c.in_ok-from_slice.field-0.items c.in-Some.field-0.places.items vs placed))
    (found-nums c.args.bytes.now c.in-Some.field-0.end c.in-Some.field-0.places.items vs h)
