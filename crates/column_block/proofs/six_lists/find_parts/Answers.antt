use Rattle.std.proofs.Common.{sym, refl, subst}
use Rattle.column_block.specs.HeldParts.{AreListsFound}
use Rattle.column_block.specs.Spelling.{six_lists}
use Rattle.column_block.proofs.SixLists.{six-again, each-as-long}
use Rattle.column_block.proofs.six_lists.find_parts.Goals as goal

pub returns-in_default-clause-none : goal.returns-in_default-clause-none
returns-in_default-clause-none c = λ _ ps nums rest n h e. c.in_ok-found.ensures.none (rw c.in_default.is refl) (six_lists ps, nums, rest, refl, each-as-long ps c.args.count n, h, e)

pub returns-clause-some : goal.returns-clause-some
returns-clause-some c =
    let (lists, f, n) = rw c.in-Some.is at c.in_ok-found.ensures.some in
    let (ps, same, m) = six-again lists f.nums c.args.count n f.each f.spelled in
    (ps, subst (λ z. AreListsFound c.args.bytes.now c.args.from c.in-Some.found.end c.in-Some.found.places c.args.count z) (sym same) f, m)
