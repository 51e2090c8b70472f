use Rattle.std.proofs.Common.{sym, subst}
use Rattle.packed_lists.specs.Packing.{IsPacked}
use Rattle.packed_lists.specs.Laws.Decodes.{values_at-is}
use Rattle.packed_lists.proofs.number_list.NumberList.from_parts.Goals as goal

pub invariant_of-result : goal.invariant_of-result
invariant_of-result c =
    let (vs, h) = c.requires in
    subst (IsPacked c.args.bytes.items c.args.places.items c.args.len) (sym (values_at-is c.args.bytes.items c.args.places.items vs h.placed)) h

pub returns : goal.returns
returns c = λ vs h. values_at-is c.args.bytes.items c.args.places.items vs h.placed
