use Rattle.std.proofs.Common.{◌*◌, subst, take, drop}
use Rattle.column_pack.specs.Summary.{IsSummary}
use Rattle.packed_lists.proofs.Loading.{begins-at, at-within}
use Rattle.packed_lists.specs.Laws.Placing.{block-of, block-range}
use Rattle.packed_lists.proofs.blocks.summary_of.Goals as goal

pub slice_bounds-summary_known-count : goal.slice_bounds-summary_known-count
slice_bounds-summary_known-count c = let (vs, h) = c.requires.list in at-within c.args.bytes.now _ _ (block-of c.args.bytes.now c.args.places.now vs c.args.block h c.requires.within)

pub slice_bounds-summary_known-start : goal.slice_bounds-summary_known-start
slice_bounds-summary_known-start c = let (vs, h) = c.requires.list in at-within c.args.bytes.now _ _ (block-of c.args.bytes.now c.args.places.now vs c.args.block h c.requires.within)

pub summary_known-requires : goal.summary_known-requires
summary_known-requires c =
    let (vs, h) = c.requires.list in
    (take 128 (drop (128 * c.args.block) vs), begins-at c.args.bytes.now _ _ (block-of c.args.bytes.now c.args.places.now vs c.args.block h c.requires.within))

pub returns : goal.returns
returns c = λ vs h.
    subst (λ z. IsSummary z c.summary_known.result) (block-range vs c.args.block)
    (c.summary_known.ensures (take 128 (drop (128 * c.args.block) vs)) (begins-at c.args.bytes.now _ _ (block-of c.args.bytes.now c.args.places.now vs c.args.block h c.requires.within)))
