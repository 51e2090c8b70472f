use Rattle.std.proofs.Common.{◌≡◌, ◌∙◌, ◌+◌, ◌-◌, ap, ◌++◌, take, length, sym, arith}
use Rattle.std.proofs.lemmas.List.{append_assoc, append-nil, length-append, length-take-le}
use Rattle.std.proofs.lemmas.Slice.{take-put_mid}
use borrow.Rule.Slice.PartMut.{put_mid}
use Rattle.packed_lists.specs.Decoded.{values_at}
use Rattle.packed_lists.proofs.Writing.{whole-put, last-mid}
use Rattle.packed_lists.proofs.packer.Packer.extend_within.Goals as goal

pub returns-then-from-count-lt-BLOCK-clause-numbers : goal.returns-then-from-count-lt-BLOCK-clause-numbers
returns-then-from-count-lt-BLOCK-clause-numbers c =
    let i = c.self.inside in
    let vs = c.args.values.now in
    let n = c.min-count.result in
    let done = values_at i.bytes.items i.places.items in
    let len : length (take n vs) ≡ n = length-take-le n vs (omega (arith, c.min-count.ensures)) in
    let copied : c.copy_from_slice.new.self ≡ take n vs = c.copy_from_slice.ensures.after in
    let m : length c.copy_from_slice.new.self ≡ n = ap (λ z. length z) copied ∙ len in
    ap (λ z. done ++ z) (take-put_mid i.filled (i.filled + n - i.filled) i.buffer c.copy_from_slice.new.self (i.filled + n) (ap (λ z. i.filled + z) (sym m)) (omega (arith, c.self.told, c.self.invariant.few)))
    ∙ ap (λ z. done ++ (take i.filled i.buffer ++ z)) copied
    ∙ sym (append_assoc done (take i.filled i.buffer) (take n vs))
    ∙ ap (λ z. z ++ take n vs) c.self.view_is

pub invariant_of-self-2 : goal.invariant_of-self-2
invariant_of-self-2 c =
    let i = c.self.inside in
    let vs = c.args.values.now in
    let n = c.min-count.result in
    let len : length (take n vs) ≡ n = length-take-le n vs (omega (arith, c.min-count.ensures)) in
    let copied : c.copy_from_slice.new.self ≡ take n vs = c.copy_from_slice.ensures.after in
    let m : length c.copy_from_slice.new.self ≡ n = ap (λ z. length z) copied ∙ len in
    let full : i.filled + n ≡ 128 = omega (arith, c.if-from-count-lt-BLOCK.false, c.min-count.ensures, c.self.invariant.few) in
    let mid : put_mid i.filled (i.filled + n - i.filled) i.buffer c.copy_from_slice.new.self ≡ take i.filled i.buffer ++ c.copy_from_slice.new.self = last-mid i.buffer c.copy_from_slice.new.self i.filled (i.filled + n - i.filled) c.self.told (omega (arith, m, full)) (omega (arith, m)) in
    let long : length (take i.filled i.buffer ++ c.copy_from_slice.new.self) ≡ 128 = length-append (take i.filled i.buffer) c.copy_from_slice.new.self ∙ omega (arith, m, full, length-take-le i.filled i.buffer (omega (arith, c.self.told, full))) in
    let (block, k, e) = c.in_ok-put_block.ensures.block in
    (whole-put i.bytes.items i.places.items _ _ i.filled _ block c.self.invariant k (ap (λ z. length z) mid ∙ long) e c.in_ok-put_block.ensures.place).0

pub returns-clause-numbers : goal.returns-clause-numbers
returns-clause-numbers c =
    let i = c.self.inside in
    let vs = c.args.values.now in
    let n = c.min-count.result in
    let done = values_at i.bytes.items i.places.items in
    let len : length (take n vs) ≡ n = length-take-le n vs (omega (arith, c.min-count.ensures)) in
    let copied : c.copy_from_slice.new.self ≡ take n vs = c.copy_from_slice.ensures.after in
    let m : length c.copy_from_slice.new.self ≡ n = ap (λ z. length z) copied ∙ len in
    let full : i.filled + n ≡ 128 = omega (arith, c.if-from-count-lt-BLOCK.false, c.min-count.ensures, c.self.invariant.few) in
    let mid : put_mid i.filled (i.filled + n - i.filled) i.buffer c.copy_from_slice.new.self ≡ take i.filled i.buffer ++ c.copy_from_slice.new.self = last-mid i.buffer c.copy_from_slice.new.self i.filled (i.filled + n - i.filled) c.self.told (omega (arith, m, full)) (omega (arith, m)) in
    let long : length (take i.filled i.buffer ++ c.copy_from_slice.new.self) ≡ 128 = length-append (take i.filled i.buffer) c.copy_from_slice.new.self ∙ omega (arith, m, full, length-take-le i.filled i.buffer (omega (arith, c.self.told, full))) in
    let (block, k, e) = c.in_ok-put_block.ensures.block in
    append-nil _
    ∙ (whole-put i.bytes.items i.places.items _ _ i.filled _ block c.self.invariant k (ap (λ z. length z) mid ∙ long) e c.in_ok-put_block.ensures.place).1
    ∙ ap (λ z. done ++ z) mid
    ∙ ap (λ z. done ++ (take i.filled i.buffer ++ z)) copied
    ∙ sym (append_assoc done (take i.filled i.buffer) (take n vs))
    ∙ ap (λ z. z ++ take n vs) c.self.view_is
