use Rattle.std.proofs.Common.{ap, ◌++◌, [], subst, sym}
use Rattle.packed_lists.specs.Packing.{IsPacking}
use Rattle.packed_lists.proofs.Writing.{none-packed}
use Rattle.packed_lists.proofs.packer.Packer.new.Goals as goal

pub invariant_of-result : goal.invariant_of-result
invariant_of-result c =
    let r = none-packed c.new.result.items c.new-2.result.items c.new.ensures.items c.new-2.ensures.items in
    subst (λ z. IsPacking c.new.result.items c.new-2.result.items 0 z) (sym r.1) r.0

pub returns : goal.returns
returns c = ap (λ z. z ++ []) (none-packed c.new.result.items c.new-2.result.items c.new.ensures.items c.new-2.ensures.items).1
