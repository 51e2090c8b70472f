use Rattle.std.proofs.Common.{◌∙◌, ap, pos, length, ◌++◌, ◌∷◌, [], take}
use Rattle.column_block.specs.Worded.{texts_at}
use Rattle.column_block.proofs.Climbing.{climb-at, copy-more, place-inside}
use Rattle.column_block.proofs.ordinals.copy_texts.Goals as goal

pub index_of-requires-clause-positive : goal.index_of-requires-clause-positive
index_of-requires-clause-positive c = (climb-at (pos (length c.args.texts.now)) c.args.places.now c.loop-place.place-index (pos 0) c.requires c.loop-place-test.true).positive

pub index_of-requires-clause-below : goal.index_of-requires-clause-below
index_of-requires-clause-below c = (climb-at (pos (length c.args.texts.now)) c.args.places.now c.loop-place.place-index (pos 0) c.requires c.loop-place-test.true).below

pub loop-place-preserved : goal.loop-place-preserved
loop-place-preserved c =
    let inside = place-inside (length c.args.texts.now) c.args.places.now c.loop-place.place-index c.index_of.result c.requires c.loop-place-test.true c.index_of.ensures.is in
    c.in_ok-push.ensures.items ∙ ap (λ z. z ++ c.in_ok-copy.field-0 ∷ []) c.loop-place.invariant ∙ ap (λ z. texts_at c.args.texts.now (take c.loop-place.place-index c.args.places.now) ++ z ∷ []) c.in_ok-copy.ensures
    ∙ copy-more c.args.texts.now c.args.places.now c.loop-place.place-index c.index_of.result c.index-texts-index_of.result c.loop-place-test.true c.index_of.ensures.is inside c.index-texts-index_of.is
