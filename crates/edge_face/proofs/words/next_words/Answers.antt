use Rattle.std.proofs.Common.{◌≡◌, arith, ap, sym, ◌∙◌}
use Rattle.std.specs.Int.{w64, from_be_bytes}
use Rattle.std.specs.Ordering.{ordering_then, nat_cmp}
use Rattle.std.specs.Cmp.Lexicographic.{slice_cmp}
use Rattle.edge_face.proofs.WordOrder.{word_order}
use Rattle.edge_face.proofs.words.next_words.Goals as goal

pub returns-clause-compared : goal.returns-clause-compared
returns-clause-compared c =
    let a = c.in_ok-a.ensures.cases in
    let b = c.in_ok-b.ensures.cases in
    word_order c.args.left.now c.args.right.now c.in_ok-a.a.now c.in_ok-b.b.now c.in_ok-a.left.now c.in_ok-b.right.now (λ i. omega (arith, c.type_inv.left i)) (λ i. omega (arith, c.type_inv.right i)) a.0 a.1 a.2 b.0 b.1 b.2
    ∙ ap (λ o. ordering_then o (slice_cmp nat_cmp c.in_ok-a.left.now c.in_ok-b.right.now)) (let p : c.cmp.result ≡ nat_cmp (from_be_bytes w64 c.in_ok-a.a.now) (from_be_bytes w64 c.in_ok-b.b.now) = cc in sym p)
