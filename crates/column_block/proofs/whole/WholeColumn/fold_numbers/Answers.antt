use Rattle.std.proofs.Common.{◌≡◌, ◌∙◌, ap, sym, arith, ◌≤◌}
use Rattle.std.proofs.Common.{map}
use Rattle.row_cells.specs.Merging.{parts_of_value}
use Rattle.std.specs.Prelude.{slice_range}
use Rattle.fold_law.specs.Laws.{fold_of}
use Rattle.column_block.specs.Presence.{present}
use Rattle.packed_lists.specs.Laws.Placing.{range-none}
use Rattle.column_block.proofs.Folding.{reach-block, fold-block}
use Rattle.column_block.proofs.whole.WholeColumn.fold_numbers.Goals as goal

pub loop-at-init : goal.loop-at-init
loop-at-init g c = let f = g.F.Fold in record {
  order = omega arith;
  within = λ h. h;
  folded = c.none-folded.ensures ∙ ap (fold_of f.none f.merge f.one) (sym (range-none (map parts_of_value (present c.args.self.now)) c.args.from));
}

pub fold_part-folded-requires-clause-reach : goal.fold_part-folded-requires-clause-reach
fold_part-folded-requires-clause-reach g c =
    reach-block g.met.F.Fold.laws g.F.Fold.one (map parts_of_value (present c.args.self.now)) c.args.from c.loop-at.at c.leave-end.result c.args.to _ c.loop-at.folded c.loop-at.invariant.order (omega (arith, c.leave-end.ensures, c.loop-at-test.true)) (omega (arith, c.leave-end.ensures)) c.requires.reach c.loop-at.invariant.folded

pub loop-at-preserved : goal.loop-at-preserved
loop-at-preserved g c = let up : c.loop-at.at ≤ c.leave-end.result = omega (arith, c.leave-end.ensures, c.loop-at-test.true) in record {
  order = omega (arith, up, c.loop-at.invariant.order);
  within = λ h. omega (arith, c.leave-end.ensures);
  folded = c.fold_part-folded.ensures ∙ fold-block g.met.F.Fold.laws g.F.Fold.one (map parts_of_value (present c.args.self.now)) c.args.from c.loop-at.at c.leave-end.result c.loop-at.folded c.loop-at.invariant.order up c.loop-at.invariant.folded;
}

pub returns : goal.returns
returns g c =
    let f = g.F.Fold in
    let e : c.loop-at.at ≡ c.args.to = omega (arith, c.loop-at-test.false, c.loop-at.invariant.within c.requires.order) in
    c.loop-at.invariant.folded ∙ ap (λ z. fold_of f.none f.merge f.one (slice_range (map parts_of_value (present c.args.self.now)) c.args.from z)) e
