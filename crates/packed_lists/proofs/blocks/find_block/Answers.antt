use Rattle.std.proofs.Common.{◌≡◌, ◌∙◌, sym, subst, arith, length}
use Rattle.column_pack.specs.Block.{IsBlock}
use Rattle.packed_lists.specs.Laws.Fronts.{take-front, some-same, ok-same, front-shorter}
use Rattle.packed_lists.proofs.blocks.find_block.Goals as goal

pub returns-in_default-clause-none : goal.returns-in_default-clause-none
returns-in_default-clause-none c = λ _ vs block rest n h e. c.in_default.not-Some (length block) (c.block_len.ensures.some vs block rest h e)

pub returns-then-bytes-len-clause-none : goal.returns-then-bytes-len-clause-none
returns-then-bytes-len-clause-none c = λ _ vs block rest n h e.
    let l : c.in-Some.len ≡ length block = some-same c.block_len.result c.in-Some.len (length block) c.in-Some.is (c.block_len.ensures.some vs block rest h e) in
    absurd (omega (arith, front-shorter c.args.bytes.now block rest e))

pub returns-in_default-unpack_block-clause-none : goal.returns-in_default-unpack_block-clause-none
returns-in_default-unpack_block-clause-none c = λ _ vs block rest n h e.
    let l : c.in-Some.len ≡ length block = some-same c.block_len.result c.in-Some.len (length block) c.in-Some.is (c.block_len.ensures.some vs block rest h e) in
    let f = take-front c.args.bytes.now block rest c.in-Some.len e l in
    c.in_default-unpack_block.not-Ok (length vs) (c.unpack_block.ensures.values vs (subst (λ z. IsBlock vs z) (sym f) h)).0

pub returns-then-found-count-clause-none : goal.returns-then-found-count-clause-none
returns-then-found-count-clause-none c = λ _ vs block rest n h e.
    let l : c.in-Some.len ≡ length block = some-same c.block_len.result c.in-Some.len (length block) c.in-Some.is (c.block_len.ensures.some vs block rest h e) in
    let f = take-front c.args.bytes.now block rest c.in-Some.len e l in
    let m : c.in-Ok.found ≡ length vs = ok-same c.unpack_block.result c.in-Ok.found (length vs) c.in-Ok.is (c.unpack_block.ensures.values vs (subst (λ z. IsBlock vs z) (sym f) h)).0 in
    absurd (c.if-found-count.true (m ∙ n))
