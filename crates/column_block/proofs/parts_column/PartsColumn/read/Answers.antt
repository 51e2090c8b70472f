use Rattle.std.proofs.Common.{◌∙◌, ap, sym, subst, arith, refl, List, length, take}
use Rattle.column_block.specs.declared.kinds.Values.TheVariants.{Parts as PartsOf}
use Rattle.column_block.specs.Presence.{present}
use Rattle.row_cells.specs.Each.{Each}
use Rattle.column_block.specs.Rules.{AreParts}
use Rattle.column_block.specs.Spelling.{Spells}
use Rattle.column_block.proofs.Presences.{no-ones}
use Rattle.column_block.proofs.Aheads.{front-long}
use Rattle.column_block.proofs.PartsColumns.{parts-are, parts-held, begins-parts, found-parts, kept-lent, kept-refused}
use Rattle.column_block.proofs.parts_column.PartsColumn.read.Goals as goal

pub count_between-count-requires-clause-within : goal.count_between-count-requires-clause-within
count_between-count-requires-clause-within c =
    let (rest, e) = c.if-not-has_presence.ensures.yes refl in
    omega (arith, front-long c.args.rows c.args.bytes.now rest e)

pub find_parts-requires : goal.find_parts-requires
find_parts-requires c =
    let (rest, e) = c.if-not-has_presence.ensures.yes refl in
    omega (arith, front-long c.args.rows c.args.bytes.now rest e, c.div_ceil.ensures)

pub returns-in_default-found-clause-bad : goal.returns-in_default-found-clause-bad
returns-in_default-found-clause-bad c = λ _ vs spelling rest n rules h e.
    let (nums, more, m, k, f) = begins-parts c.args.rows c.div_ceil.result vs c.args.bytes.now spelling rest n c.div_ceil.ensures h e in
    c.in-Ok.ensures.none (rw c.in_default-found.is refl) (present vs) nums more (omega (arith, m, c.count_between-count.ensures.count, no-ones c.args.bytes.now)) k f

pub returns-then-not-are_kept-clause-bad : goal.returns-then-not-are_kept-clause-bad
returns-then-not-are_kept-clause-bad c = λ _ vs spelling rest n rules h e.
    let (nums, more, m, k, f) = begins-parts c.args.rows c.div_ceil.result vs c.args.bytes.now spelling rest n c.div_ceil.ensures h e in
    let (ps, found, l) = rw c.in-Some.is at c.in-Ok.ensures.some in
    let same = found-parts c.args.bytes.now c.div_ceil.result c.in-Some.field-0.end c.count_between-count.result c.in-Some.field-0.places ps (present vs) nums more found (omega (arith, l, m, c.count_between-count.ensures.count, no-ones c.args.bytes.now)) k f in
    kept-refused _ c.in-Some.field-0.places _ ps (present vs) c.are_kept.result c.as_slice.ensures found.placed same rules c.are_kept.ensures.no c.if-not-are_kept.true

pub invariant_of-column : goal.invariant_of-column
invariant_of-column c =
    let (vs, h) = parts-held c.args.rows c.div_ceil.result c.in-Some.field-0.end c.count_between-count.result c.args.bytes.now c.in-Ok-from_slice.bytes.items c.as_slice-2.result.now c.in-Some.field-0.places c.in-Ok-count_rows.counts.items
    c.requires (c.if-not-has_presence.ensures.yes refl) c.div_ceil.ensures (rw c.in-Some.is at c.in-Ok.ensures.some) c.count_between-count.ensures.count
    (kept-lent _ _ _ c.as_slice.ensures (c.are_kept.ensures.yes c.if-not-are_kept.false)) c.in-Ok-from_slice.ensures.items c.as_slice-2.ensures.value c.in-Ok-count_rows.ensures in
    rw (parts-are _ _ _ _ vs h) h

pub returns-clause-rows : goal.returns-clause-rows
returns-clause-rows c =
    let (vs, h) = parts-held c.args.rows c.div_ceil.result c.in-Some.field-0.end c.count_between-count.result c.args.bytes.now c.in-Ok-from_slice.bytes.items c.as_slice-2.result.now c.in-Some.field-0.places c.in-Ok-count_rows.counts.items
    c.requires (c.if-not-has_presence.ensures.yes refl) c.div_ceil.ensures (rw c.in-Some.is at c.in-Ok.ensures.some) c.count_between-count.ensures.count
    (kept-lent _ _ _ c.as_slice.ensures (c.are_kept.ensures.yes c.if-not-are_kept.false)) c.in-Ok-from_slice.ensures.items c.as_slice-2.ensures.value c.in-Ok-count_rows.ensures in
    ap (λ (z : List _). length z) (parts-are _ _ _ _ vs h) ∙ h.length_is

pub returns-clause-rules : goal.returns-clause-rules
returns-clause-rules c =
    let (vs, h) = parts-held c.args.rows c.div_ceil.result c.in-Some.field-0.end c.count_between-count.result c.args.bytes.now c.in-Ok-from_slice.bytes.items c.as_slice-2.result.now c.in-Some.field-0.places c.in-Ok-count_rows.counts.items
    c.requires (c.if-not-has_presence.ensures.yes refl) c.div_ceil.ensures (rw c.in-Some.is at c.in-Ok.ensures.some) c.count_between-count.ensures.count
    (kept-lent _ _ _ c.as_slice.ensures (c.are_kept.ensures.yes c.if-not-are_kept.false)) c.in-Ok-from_slice.ensures.items c.as_slice-2.ensures.value c.in-Ok-count_rows.ensures in
    subst (λ z. Each AreParts (present z)) (sym (parts-are _ _ _ _ vs h)) h.rules

pub returns-clause-spelled : goal.returns-clause-spelled
returns-clause-spelled c =
    let (vs, h) = parts-held c.args.rows c.div_ceil.result c.in-Some.field-0.end c.count_between-count.result c.args.bytes.now c.in-Ok-from_slice.bytes.items c.as_slice-2.result.now c.in-Some.field-0.places c.in-Ok-count_rows.counts.items
    c.requires (c.if-not-has_presence.ensures.yes refl) c.div_ceil.ensures (rw c.in-Some.is at c.in-Ok.ensures.some) c.count_between-count.ensures.count
    (kept-lent _ _ _ c.as_slice.ensures (c.are_kept.ensures.yes c.if-not-are_kept.false)) c.in-Ok-from_slice.ensures.items c.as_slice-2.ensures.value c.in-Ok-count_rows.ensures in
    subst (λ z. Spells (PartsOf z) (take c.in-Some.field-0.end c.args.bytes.now)) (sym (parts-are _ _ _ _ vs h)) (subst (λ z. Spells (PartsOf vs) z) c.in-Ok-from_slice.ensures.items h.spelled)
