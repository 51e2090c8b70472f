use Rattle.column_pack.specs.Laws.Blocks.{same-bools}
use Rattle.column_pack.specs.Laws.Checks.{plain-range, plain-alike}
use Rattle.column_pack.proofs.sound.has_plain_kind.Goals as goal

pub returns-then-spread : goal.returns-then-spread
returns-then-spread c =
    let s = c.args.spread.now in
    let k = c.requires.spread in
    rw c.turn.ensures (plain-range _ c.args.header.now.factor s.greatest c.args.residuals.now s.rises s.falls c.requires.some c.requires.factor k.most k.up k.down (same-bools s.rises s.falls c.if-spread.true))

pub returns-else-spread : goal.returns-else-spread
returns-else-spread c =
    let s = c.args.spread.now in
    let k = c.requires.spread in
    plain-alike _ c.args.header.now.factor c.args.residuals.now s.rises s.falls c.requires.factor k.up k.down c.if-spread.false
