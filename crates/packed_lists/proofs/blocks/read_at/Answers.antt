use Rattle.packed_lists.proofs.Loading.{begins-at, at-within}
use Rattle.packed_lists.proofs.blocks.read_at.Goals as goal

pub slice_bounds-unpack_known-count : goal.slice_bounds-unpack_known-count
slice_bounds-unpack_known-count c = let (vs, h) = c.requires in at-within c.args.bytes.now c.args.at vs h

pub slice_bounds-unpack_known-start : goal.slice_bounds-unpack_known-start
slice_bounds-unpack_known-start c = let (vs, h) = c.requires in at-within c.args.bytes.now c.args.at vs h

pub unpack_known-requires : goal.unpack_known-requires
unpack_known-requires c = let (vs, h) = c.requires in (vs, begins-at c.args.bytes.now c.args.at vs h)

pub returns : goal.returns
returns c = λ vs h. c.unpack_known.ensures vs (begins-at c.args.bytes.now c.args.at vs h)
