use Rattle.std.proofs.Common.{◌+◌, drop, sym, ap, ◌∙◌, subst, arith}
use Rattle.row_cells.specs.Fitting.{FieldsAscend}
use Rattle.ts_mapping.specs.Agreeing.{from_path, is_other_first, other_path}
use Rattle.ts_mapping.proofs.Agrees.{found, from_ascends, rest_ascends, walked}
use Rattle.ts_mapping.proofs.Sets.{drop_here}
use Rattle.ts_mapping.proofs.agreeing.first_other.Goals as goal

pub returns-then-is_other_first : goal.returns-then-is_other_first
returns-then-is_other_first c =
    let f = c.field-item.result in
    let second = c.loop-field.second.now in
    let opens = drop_here c.args.first.now c.loop-field.field-index f (omega arith) c.field-item.is in
    let from = c.from_path-second.ensures ∙ ap (λ p. from_path p second) c.as_bytes.ensures in
    let other = ap (is_other_first f) (sym from) ∙ (sym c.is_other_first.ensures ∙ c.if-is_other_first.true) in
    sym (c.loop-field.invariant.rest ∙ (ap (λ xs. other_path xs second) opens ∙ found f (drop (c.loop-field.field-index + 1) c.args.first.now) second c.loop-field.invariant.second_ascends other))

pub loop-field-preserved : goal.loop-field-preserved
loop-field-preserved c =
    let f = c.field-item.result in
    let second = c.loop-field.second.now in
    let rest = drop (c.loop-field.field-index + 1) c.args.first.now in
    let opens = drop_here c.args.first.now c.loop-field.field-index f (omega arith) c.field-item.is in
    let ascends = subst FieldsAscend opens c.loop-field.invariant.first_ascends in
    let from = c.from_path-second.ensures ∙ ap (λ p. from_path p second) c.as_bytes.ensures in
    let alike = ap (is_other_first f) (sym from) ∙ (sym c.is_other_first.ensures ∙ c.if-is_other_first.false) in
    record {
      rest = c.loop-field.invariant.rest ∙ (ap (λ xs. other_path xs second) opens ∙ (walked f rest second ascends c.loop-field.invariant.second_ascends alike ∙ ap (other_path rest) (sym from)));
      first_ascends = rest_ascends f rest ascends;
      second_ascends = subst FieldsAscend (sym from) (from_ascends f.path second c.loop-field.invariant.second_ascends);
    }
