use Rattle.std.proofs.Common.{◌∙◌, ap, sym, length, take, drop, ◌*◌, ◌++◌, ℤ, List}
use Rattle.packed_lists.specs.Laws.Placing.{block-of, block-range}
use Rattle.packed_lists.proofs.blocks.read_block_of.Goals as goal

pub read_at-requires : goal.read_at-requires
read_at-requires c =
    let (vs, h) = c.requires.list in
    (take 128 (drop (128 * c.args.block) vs), block-of c.args.bytes.now c.args.places.now vs c.args.block h c.requires.within)

pub returns-clause-count : goal.returns-clause-count
returns-clause-count c = λ vs h.
    (c.read_at.ensures (take 128 (drop (128 * c.args.block) vs)) (block-of c.args.bytes.now c.args.places.now vs c.args.block h c.requires.within)).0
    ∙ ap (λ (z : List ℤ). length z) (block-range vs c.args.block)

pub returns-clause-numbers : goal.returns-clause-numbers
returns-clause-numbers c = λ vs h.
    let part = take 128 (drop (128 * c.args.block) vs) in
    let r = c.read_at.ensures part (block-of c.args.bytes.now c.args.places.now vs c.args.block h c.requires.within) in
    r.1 ∙ ap (λ z. part ++ drop z c.args.into.now) (sym r.0) ∙ ap (λ z. z ++ drop c.read_at.result c.args.into.now) (block-range vs c.args.block)
