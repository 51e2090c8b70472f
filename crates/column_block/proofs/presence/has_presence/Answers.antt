use Rattle.std.proofs.Common.{◌∙◌, ap, sym, subst, arith, ◌≤◌, ◌^◌, take}
use Rattle.std.specs.Int.{div_ceil}
use Rattle.column_pack.specs.Digits.{number}
use Rattle.column_pack.specs.Laws.Words.{bytes-all}
use Rattle.column_block.proofs.Presences.{presence-found, presence-fits, presence-spares, not-is, is-not}
use Rattle.column_block.proofs.presence.has_presence.Goals as goal

pub returns-then-bytes-size-clause-no : goal.returns-then-bytes-size-clause-no
returns-then-bytes-size-clause-no c = λ flags rest n e.
    absurd (omega (arith, presence-fits flags c.args.bytes.now rest c.div_ceil-size.result e (c.div_ceil-size.ensures ∙ ap (λ z. div_ceil z 8) (sym n)), c.if-bytes-size.true))

pub returns-clause-yes : goal.returns-clause-yes
returns-clause-yes c = λ h.
    presence-found c.args.bytes.now c.args.rows c.div_ceil-size.result c.div_ceil-size.ensures (omega (arith, c.if-bytes-size.false)) (bytes-all c.args.bytes.now c.type_inv.bytes)
    (λ spare. not-is c.has_spare.result (c.has_spare.ensures.1 spare) h)

pub returns-clause-no : goal.returns-clause-no
returns-clause-no c = λ flags rest n e.
    is-not c.has_spare.result (λ h. presence-spares flags c.args.bytes.now rest c.div_ceil-size.result e (c.div_ceil-size.ensures ∙ ap (λ z. div_ceil z 8) (sym n)) (subst (λ z. 2 ^ z ≤ number 256 (take c.div_ceil-size.result c.args.bytes.now)) (sym n) (c.has_spare.ensures.0 h)))
