use Rattle.std.proofs.Common.{◌∙◌, arith, subst, pos, length, ◌++◌, ℤ, List, true}
use Rattle.std.proofs.lemmas.Int.{ints}
use Rattle.std.proofs.lemmas.List.{length-set, take_all}
use Rattle.column_block.specs.Worded.{AreMarked}
use Rattle.column_block.proofs.Climbing.{climb-at, marked-row, place-inside}
use Rattle.column_block.proofs.ordinals.mark.Goals as goal

pub index_of-requires-clause-positive : goal.index_of-requires-clause-positive
index_of-requires-clause-positive c = (climb-at (pos (length c.args.seen.now.items)) c.args.row.now c.loop-place.place-index (pos 0) c.requires c.loop-place-test.true).positive

pub index_of-requires-clause-below : goal.index_of-requires-clause-below
index_of-requires-clause-below c = omega (arith, ints, (climb-at (pos (length c.args.seen.now.items)) c.args.row.now c.loop-place.place-index (pos 0) c.requires c.loop-place-test.true).below, c.loop-place.invariant.long)

pub index_mut-requires : goal.index_mut-requires
index_mut-requires c = omega (arith, place-inside (length c.args.seen.now.items) c.args.row.now c.loop-place.place-index c.index_of.result c.requires c.loop-place-test.true c.index_of.ensures.is, c.loop-place.invariant.long)

pub loop-place-preserved : goal.loop-place-preserved
loop-place-preserved c =
    let l = c.loop-place in
    let inside = place-inside (length c.args.seen.now.items) c.args.row.now l.place-index c.index_of.result c.requires c.loop-place-test.true c.index_of.ensures.is in
    record {
      long = length-set l.seen.items c.index_of.result true ∙ l.invariant.long;
      marked = λ numbers m. marked-row numbers c.args.row.now l.seen.items l.place-index c.index_of.result c.loop-place-test.true c.index_of.ensures.is (omega (arith, inside, l.invariant.long)) (l.invariant.marked numbers m);
    }

pub returns-clause-marked : goal.returns-clause-marked
returns-clause-marked c = λ numbers m.
    subst (λ (z : List ℤ). AreMarked (numbers ++ z) c.loop-place.seen.items) (take_all c.loop-place.place-index c.args.row.now c.loop-place-test.false) (c.loop-place.invariant.marked numbers m)
