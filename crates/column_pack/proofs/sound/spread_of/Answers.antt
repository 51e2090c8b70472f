use Rattle.std.proofs.Common.{◌^◌, ◌<◌, length, subst}
use Rattle.std.specs.List.{All}
use mathlib.Core.Bool.{not}
use Rattle.column_pack.proofs.Spreads.{flat-spread, some-length, no-length}
use Rattle.column_pack.proofs.sound.spread_of.Goals as goal

pub returns-then-width-eq0 : goal.returns-then-width-eq0
returns-then-width-eq0 c =
    let rs = c.args.residuals.now in
    let b = c.is_empty.result in
    flat-spread rs (not b) (some-length (length rs) b c.is_empty.ensures) (no-length (length rs) b c.is_empty.ensures) (subst (λ w. All (λ r. r < 2 ^ w) rs) c.if-width-eq0.true c.requires.below)
