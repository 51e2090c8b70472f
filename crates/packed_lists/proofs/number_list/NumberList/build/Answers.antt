use Rattle.std.proofs.Common.{◌∙◌, ap, sym, subst, refl, ◌++◌}
use Rattle.packed_lists.specs.Nums.{IsNums}
use Rattle.packed_lists.specs.Laws.Decodes.{values_at-is}
use Rattle.packed_lists.proofs.number_list.NumberList.build.Goals as goal

pub returns : goal.returns
returns c = values_at-is c.put_numbers.new.into.items c.in_ok-places.places.items c.args.values.now c.in_ok-places.ensures.placed

pub invariant_of-result : goal.invariant_of-result
invariant_of-result c =
    let is = values_at-is c.put_numbers.new.into.items c.in_ok-places.places.items c.args.values.now c.in_ok-places.ensures.placed in
    let (nums, h, e) = c.in_ok-places.ensures.spelled in
    rw is (record { spelled = subst (λ z. IsNums c.args.values.now z) (sym (e ∙ ap (λ z. z ++ nums) c.new-bytes.ensures.items)) h; placed = c.in_ok-places.ensures.placed; count = refl })
