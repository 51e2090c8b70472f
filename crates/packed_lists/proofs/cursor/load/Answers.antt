use Rattle.std.proofs.Common.{◌*◌, take, drop}
use Rattle.packed_lists.specs.Laws.Placing.{block-of}
use Rattle.packed_lists.proofs.Loading.{begins-at, at-within, loaded-now}
use Rattle.packed_lists.proofs.cursor.load.Goals as goal

pub slice_bounds-unpack_known-count : goal.slice_bounds-unpack_known-count
slice_bounds-unpack_known-count c =
    let (vs, h, k) = c.requires.list in
    at-within c.args.bytes.now _ _ (block-of c.args.bytes.now c.args.places.now vs c.args.block h c.requires.within)

pub slice_bounds-unpack_known-start : goal.slice_bounds-unpack_known-start
slice_bounds-unpack_known-start c =
    let (vs, h, k) = c.requires.list in
    at-within c.args.bytes.now _ _ (block-of c.args.bytes.now c.args.places.now vs c.args.block h c.requires.within)

pub unpack_known-cache-requires : goal.unpack_known-cache-requires
unpack_known-cache-requires c =
    let (vs, h, k) = c.requires.list in
    (take 128 (drop (128 * c.args.block) vs), begins-at c.args.bytes.now _ _ (block-of c.args.bytes.now c.args.places.now vs c.args.block h c.requires.within))

pub returns : goal.returns
returns c = λ vs h k.
    let r = c.unpack_known-cache.ensures _ (begins-at c.args.bytes.now _ _ (block-of c.args.bytes.now c.args.places.now vs c.args.block h c.requires.within)) in
    loaded-now vs c.args.block c.unpack_known-cache.result _ c.unpack_known-cache.new.into r.0 r.1
