use Rattle.std.proofs.Common.{◌∙◌, ap, sym, subst, arith, refl, List, length, take}
use Rattle.column_block.specs.declared.kinds.Values.TheVariants.{Whole}
use Rattle.column_block.specs.Spelling.{Spells}
use Rattle.column_block.proofs.Presences.{no-ones}
use Rattle.column_block.proofs.Aheads.{front-long}
use Rattle.column_block.proofs.Wholes.{whole-is, read-held, begins-numbers}
use Rattle.column_block.proofs.whole.WholeColumn.read.Goals as goal

pub count_between-count-requires-clause-within : goal.count_between-count-requires-clause-within
count_between-count-requires-clause-within c =
    let (rest, e) = c.if-not-has_presence.ensures.yes refl in
    omega (arith, front-long c.args.rows c.args.bytes.now rest e)

pub find_numbers-requires : goal.find_numbers-requires
find_numbers-requires c =
    let (rest, e) = c.if-not-has_presence.ensures.yes refl in
    omega (arith, front-long c.args.rows c.args.bytes.now rest e, c.div_ceil.ensures)

pub returns-in_default-found-clause-bad : goal.returns-in_default-found-clause-bad
returns-in_default-found-clause-bad c = λ _ vs spelling rest n h e.
    let (ns, nums, more, m, k, f) = begins-numbers c.args.rows c.div_ceil.result vs c.args.bytes.now spelling rest n c.div_ceil.ensures h e in
    c.in-Ok.ensures.none (rw c.in_default-found.is refl) ns nums more (omega (arith, m, c.count_between-count.ensures.count, no-ones c.args.bytes.now)) k f

pub invariant_of-column : goal.invariant_of-column
invariant_of-column c =
    let (vs, h) = read-held c.args.rows c.div_ceil.result c.in-Some.field-0.end c.count_between-count.result c.args.bytes.now c.in-Ok-from_slice.bytes.items c.as_slice.result.now c.in-Some.field-0.places.items c.in-Ok-count_rows.counts.items
    c.requires (c.if-not-has_presence.ensures.yes refl) c.div_ceil.ensures (rw c.in-Some.is at c.in-Ok.ensures.some) c.count_between-count.ensures.count c.in-Ok-from_slice.ensures.items c.as_slice.ensures.value c.in-Ok-count_rows.ensures in
    rw (whole-is _ _ _ _ vs h) h

pub returns-clause-rows : goal.returns-clause-rows
returns-clause-rows c =
    let (vs, h) = read-held c.args.rows c.div_ceil.result c.in-Some.field-0.end c.count_between-count.result c.args.bytes.now c.in-Ok-from_slice.bytes.items c.as_slice.result.now c.in-Some.field-0.places.items c.in-Ok-count_rows.counts.items
    c.requires (c.if-not-has_presence.ensures.yes refl) c.div_ceil.ensures (rw c.in-Some.is at c.in-Ok.ensures.some) c.count_between-count.ensures.count c.in-Ok-from_slice.ensures.items c.as_slice.ensures.value c.in-Ok-count_rows.ensures in
    ap (λ (z : List _). length z) (whole-is _ _ _ _ vs h) ∙ h.length_is

pub returns-clause-spelled : goal.returns-clause-spelled
returns-clause-spelled c =
    let (vs, h) = read-held c.args.rows c.div_ceil.result c.in-Some.field-0.end c.count_between-count.result c.args.bytes.now c.in-Ok-from_slice.bytes.items c.as_slice.result.now c.in-Some.field-0.places.items c.in-Ok-count_rows.counts.items
    c.requires (c.if-not-has_presence.ensures.yes refl) c.div_ceil.ensures (rw c.in-Some.is at c.in-Ok.ensures.some) c.count_between-count.ensures.count c.in-Ok-from_slice.ensures.items c.as_slice.ensures.value c.in-Ok-count_rows.ensures in
    subst (λ z. Spells (Whole z) (take c.in-Some.field-0.end c.args.bytes.now)) (sym (whole-is _ _ _ _ vs h)) (subst (λ z. Spells (Whole vs) z) c.in-Ok-from_slice.ensures.items h.spelled)
