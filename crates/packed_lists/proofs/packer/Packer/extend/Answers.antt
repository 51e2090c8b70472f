use Rattle.std.proofs.Common.{◌∙◌, ◌++◌, ◌-◌, ap, arith, length, take, drop}
use Rattle.std.proofs.lemmas.List.{append_assoc, length-take, length-drop}
use Rattle.packed_lists.proofs.Writing.{front-more}
use Rattle.packed_lists.proofs.packer.Packer.extend.Goals as goal

pub loop-done-preserved : goal.loop-done-preserved
loop-done-preserved c =
    let vs = c.args.values.now in
    let done = c.loop-done.done in
    let n = c.in_ok-done.field-0 in
    let tail = take (length vs - done) (drop done vs) in
    record {
      within = omega (arith, c.in_ok-done.ensures.some.1, length-take (length vs - done) (drop done vs), length-drop done vs, c.loop-done.invariant.within);
      numbers = c.in_ok-done.ensures.numbers ∙ ap (λ z. z ++ take n tail) c.loop-done.invariant.numbers ∙ append_assoc c.args.self.now (take done vs) (take n tail) ∙ ap (λ z. c.args.self.now ++ z) (front-more vs done n);
    }
