use Rattle.std.proofs.Common.{◌++◌, [], ◌∷◌, take, reverse, arith, ap, sym, ◌∙◌, append_assoc}
use Rattle.index_segment.proofs.Sides.{popped, nothing_left}
use Rattle.index_segment.proofs.pick.move_items.Goals as goal

pub loop-done-preserved : goal.loop-done-preserved
loop-done-preserved g c =
    let all = reverse c.args.from.now in
    let item = c.in-Some.item in
    let r = popped c.loop-done.done all c.loop-done.from c.pop.new.self item c.in-Some.ensures c.loop-done.invariant.from in
    record {
      from = r.0;
      into = c.in_ok-push-in-Some.ensures.ok ∙ (ap (λ xs. xs ++ item ∷ []) c.loop-done.invariant.into ∙ (append_assoc c.args.into.now (take c.loop-done.done all) (item ∷ []) ∙ ap (λ xs. c.args.into.now ++ xs) (sym r.1)));
    }

pub returns-in-None-clause-from : goal.returns-in-None-clause-from
returns-in-None-clause-from g c = let r = nothing_left c.loop-done.done c.args.count (reverse c.args.from.now) c.loop-done.from c.in-None.ensures.0 c.loop-done.invariant.from (omega arith) in ap reverse c.in-None.ensures.1 ∙ sym r.0

pub returns-in-None-clause-into : goal.returns-in-None-clause-into
returns-in-None-clause-into g c = let r = nothing_left c.loop-done.done c.args.count (reverse c.args.from.now) c.loop-done.from c.in-None.ensures.0 c.loop-done.invariant.from (omega arith) in c.loop-done.invariant.into ∙ ap (λ xs. c.args.into.now ++ xs) (sym r.1)
