use Rattle.std.proofs.Common.{◌∙◌, ap, ◌++◌, ◌∷◌, [], take, sym, arith}
use Rattle.std.specs.Int.{w64}
use Rattle.std.proofs.lemmas.Int.{to_z-of_z}
use Rattle.std.proofs.lemmas.List.{append_assoc, append-nil, length-set}
use Rattle.packed_lists.specs.Decoded.{values_at}
use Rattle.packed_lists.proofs.Writing.{whole-put, last-set}
use Rattle.packed_lists.proofs.packer.Packer.push.Goals as goal

pub invariant_of-self-2 : goal.invariant_of-self-2
invariant_of-self-2 c =
    let i = c.self.inside in
    let (block, k, e) = c.in_ok-put_block.ensures.block in
    (whole-put i.bytes.items i.places.items _ _ i.filled _ block c.self.invariant k (length-set i.buffer i.filled _ ∙ c.self.told) e c.in_ok-put_block.ensures.place).0

pub returns-clause-ok : goal.returns-clause-ok
returns-clause-ok c =
    let i = c.self.inside in
    let v = c.args.value in
    let done = values_at i.bytes.items i.places.items in
    let (block, k, e) = c.in_ok-put_block.ensures.block in
    let r = (whole-put i.bytes.items i.places.items _ _ i.filled _ block c.self.invariant k (length-set i.buffer i.filled _ ∙ c.self.told) e c.in_ok-put_block.ensures.place).1 in
    append-nil _ ∙ r
    ∙ ap (λ z. done ++ z) (last-set i.buffer i.filled _ c.self.told (omega (arith, c.self.invariant.few, c.if-self.false)))
    ∙ ap (λ z. done ++ (take i.filled i.buffer ++ z ∷ [])) (to_z-of_z w64 v c.ranges.value)
    ∙ sym (append_assoc done (take i.filled i.buffer) (v ∷ []))
    ∙ ap (λ z. z ++ v ∷ []) c.self.view_is
