use Rattle.std.proofs.Common.{◌++◌, ◌<◌, ap, sym, subst, ◌∙◌, arith, append_assoc, ◌∷◌, [], length, take}
use Rattle.std.proofs.lemmas.List.{take_more}
use Rattle.index_segment.specs.Spelling.{AreColumns}
use Rattle.index_segment.proofs.Written.{columns_pushed}
use Rattle.index_segment.proofs.write.put_columns.Goals as goal

pub loop-column-preserved : goal.loop-column-preserved
loop-column-preserved c =
    let before = c.loop-column.invariant in
    let i = c.loop-column.column-index in
    let columns = c.args.columns.now in
    let there : i < length columns = omega arith in
    let more = take_more columns i c.column-item.result there ∙ ap (λ x. take i columns ++ x ∷ []) (sym c.column-item.is) in (
      before.0 ++ c.bytes.result.now,
      subst (λ cs. AreColumns cs (before.0 ++ c.bytes.result.now)) (sym more) (columns_pushed (take i columns) c.column-item.result before.0 c.bytes.result.now before.1 c.bytes.ensures.spelled),
      c.in_ok-extend_from_slice.ensures.items ∙ (ap (λ x. x ++ c.bytes.result.now) before.2 ∙ append_assoc c.args.into.now.items before.0 c.bytes.result.now),
    )
