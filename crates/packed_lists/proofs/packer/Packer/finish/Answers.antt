use Rattle.std.proofs.Common.{rules, ◌∙◌, arith}
use Rattle.std.proofs.lemmas.List.{length-take-le}
use Rattle.packed_lists.specs.Decoded.{values_at}
use Rattle.packed_lists.proofs.Writing.{packed-last}
use Rattle.packed_lists.proofs.packer.Packer.finish.Goals as goal

pub from_parts-requires-2 : goal.from_parts-requires-2
from_parts-requires-2 c =
    let i = c.self.inside in
    let (block, k, e) = c.in_ok-put_block.ensures.block in
    (_, packed-last i.bytes.items i.places.items _ _ i.filled _ (values_at i.bytes.items i.places.items) _ block c.self.invariant k (length-take-le i.filled i.buffer (search rules)) e c.in_ok-put_block.ensures.place (omega (arith, c.len-2.ensures)))

pub returns : goal.returns
returns c =
    let i = c.self.inside in
    let (block, k, e) = c.in_ok-put_block.ensures.block in
    c.from_parts-2.ensures _ (packed-last i.bytes.items i.places.items _ _ i.filled _ (values_at i.bytes.items i.places.items) _ block c.self.invariant k (length-take-le i.filled i.buffer (search rules)) e c.in_ok-put_block.ensures.place (omega (arith, c.len-2.ensures)))
    ∙ c.self.view_is
