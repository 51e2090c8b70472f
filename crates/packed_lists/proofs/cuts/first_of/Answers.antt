use Rattle.std.proofs.Common.{◌∙◌, ◌*◌, take, drop}
use Rattle.std.specs.Int.{w64}
use Rattle.std.proofs.lemmas.Int.{to_z-of_z}
use Rattle.packed_lists.specs.Laws.Placing.{block-of}
use Rattle.packed_lists.proofs.Loading.{begins-at, at-within, part-first}
use Rattle.packed_lists.proofs.cuts.first_of.Goals as goal

pub slice_bounds-first_known-count : goal.slice_bounds-first_known-count
slice_bounds-first_known-count c = let (vs, h) = c.requires.list in at-within c.args.bytes.now _ _ (block-of c.args.bytes.now c.args.places.now vs c.args.block h c.requires.within)

pub slice_bounds-first_known-start : goal.slice_bounds-first_known-start
slice_bounds-first_known-start c = let (vs, h) = c.requires.list in at-within c.args.bytes.now _ _ (block-of c.args.bytes.now c.args.places.now vs c.args.block h c.requires.within)

pub first_known-requires : goal.first_known-requires
first_known-requires c =
    let (vs, h) = c.requires.list in
    (take 128 (drop (128 * c.args.block) vs), begins-at c.args.bytes.now _ _ (block-of c.args.bytes.now c.args.places.now vs c.args.block h c.requires.within))

pub returns : goal.returns
returns c = λ vs h.
    to_z-of_z w64 c.first_known.result (record { sfits = c.first_known.type_inv }) ∙ c.first_known.ensures _ (begins-at c.args.bytes.now _ _ (block-of c.args.bytes.now c.args.places.now vs c.args.block h c.requires.within)) ∙ part-first vs c.args.block
