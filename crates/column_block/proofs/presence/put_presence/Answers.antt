use Rattle.std.proofs.Common.{◌∙◌, ap, arith, [], map}
use Rattle.column_pack.specs.Digits.{number}
use Rattle.column_block.specs.Presence.{flags_of, bit}
use Rattle.column_block.proofs.Presences.{presence-front, presence-end}
use Rattle.column_block.proofs.presence.put_presence.Goals as goal

pub loop-left-preserved : goal.loop-left-preserved
loop-left-preserved g c =
    let byte = c.byte_of.ensures ∙ ap (λ z. number 2 (map bit (flags_of z))) (rw (← c.min.ensures) c.split_at.ensures.front) in
    rw (c.in_ok-push.ensures.items, c.split_at.ensures.back, c.min.ensures)
    (presence-front c.loop-left.into.items [] _ c.loop-left.left.now c.byte_of.result c.loop-left-test.true byte c.loop-left.invariant)

pub returns : goal.returns
returns g c = presence-end c.loop-left.into.items _ c.loop-left.left.now (omega (arith, c.loop-left-test.false)) c.loop-left.invariant
