use Rattle.std.proofs.Common.{◌≡◌, ◌∙◌, ap, sym, subst, arith, length, ℤ, List}
use Rattle.std.specs.List.{All}
use Rattle.std.proofs.lemmas.Bool.{false≢true}
use Rattle.column_block.specs.Cutting.{IsSize}
use Rattle.packed_lists.specs.Found.{IsFound}
use Rattle.packed_lists.specs.Laws.Founds.{found-places, whole-range, found-one}
use Rattle.column_block.proofs.list_rows.read_sizes.Goals as goal

pub put_range-requires : goal.put_range-requires
put_range-requires c =
    let (ns, h, n) = rw c.in-Some.is at c.in-Ok.ensures.some in
    (ns, rw c.as_slice.ensures.value (found-places c.args.bytes.now c.args.from c.in-Some.found.end c.in-Some.found.places.items ns h), omega arith, omega (arith, n))

pub returns-then-not-are_sizes-clause-bad : goal.returns-then-not-are_sizes-clause-bad
returns-then-not-are_sizes-clause-bad c = λ _ sizes nums rest m all k e.
    let (ns, h, n) = rw c.in-Some.is at c.in-Ok.ensures.some in
    let at = c.in-Ok-put_range.ensures ns (rw c.as_slice.ensures.value (found-places c.args.bytes.now c.args.from c.in-Some.found.end c.in-Some.found.places.items ns h)) in
    let same : c.as_slice-2.result.now ≡ ns = c.as_slice-2.ensures.value ∙ whole-range ns c.put_range.new.into.items c.new-sizes.result.items c.args.rows n c.new-sizes.ensures.items at in
    let one = found-one c.args.bytes.now c.args.from c.in-Some.found.end c.in-Some.found.places.items ns sizes nums rest h (m ∙ sym n) k e in
    absurd (false≢true (c.if-not-are_sizes.ensures.1 (subst (λ z. All IsSize z) (one.0 ∙ sym same) all)))

pub returns-clause-rows : goal.returns-clause-rows
returns-clause-rows c =
    let (ns, h, n) = rw c.in-Some.is at c.in-Ok.ensures.some in
    let at = c.in-Ok-put_range.ensures ns (rw c.as_slice.ensures.value (found-places c.args.bytes.now c.args.from c.in-Some.found.end c.in-Some.found.places.items ns h)) in
    ap (λ (z : List ℤ). length z) (whole-range ns c.put_range.new.into.items c.new-sizes.result.items c.args.rows n c.new-sizes.ensures.items at) ∙ n

pub returns-clause-found : goal.returns-clause-found
returns-clause-found c =
    let (ns, h, n) = rw c.in-Some.is at c.in-Ok.ensures.some in
    let at = c.in-Ok-put_range.ensures ns (rw c.as_slice.ensures.value (found-places c.args.bytes.now c.args.from c.in-Some.found.end c.in-Some.found.places.items ns h)) in
    subst (λ z. IsFound c.args.bytes.now c.args.from c.in-Some.found.end c.in-Some.found.places.items z) (sym (whole-range ns c.put_range.new.into.items c.new-sizes.result.items c.args.rows n c.new-sizes.ensures.items at)) h
