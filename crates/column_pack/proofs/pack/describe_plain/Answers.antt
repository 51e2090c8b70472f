use Rattle.std.proofs.Common.{◌∙◌, ap, arith, get_or, sym}
use Rattle.column_pack.specs.Block.{turned}
use Rattle.column_pack.proofs.Level.{level-places, level-canonical, turned-twice}
use Rattle.column_pack.proofs.pack.describe_plain.Goals as goal

pub returns-then-not-turns-clause-canonical : goal.returns-then-not-turns-clause-canonical
returns-then-not-turns-clause-canonical c =
    level-canonical c.turn.result c.args.residuals.now (omega (arith, c.requires.same, c.requires.some)) (omega (arith, c.requires.same, c.requires.few)) c.turn.type_inv c.requires.zero

pub returns-then-not-turns-clause-places : goal.returns-then-not-turns-clause-places
returns-then-not-turns-clause-places c =
    let hs = c.args.heights.now in
    level-places (turned c.turn.result) hs c.args.residuals.now c.requires.same (sym c.requires.rises ∙ c.if-not-turns.true) (sym c.requires.falls ∙ c.if-not-turns.true) c.requires.zero
    (ap turned c.turn.ensures ∙ turned-twice (get_or hs 0 0) (omega (arith, c.type_inv.heights 0)))
