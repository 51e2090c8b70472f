use Rattle.std.proofs.Common.{◌^◌, ◌<◌, length, subst, ◌≡◌}
use Rattle.std.specs.List.{All}
use Rattle.column_pack.proofs.Spreads.{flat-measure}
use Rattle.column_pack.proofs.known.measure_of.Goals as goal

pub returns-then-width-eq0 : goal.returns-then-width-eq0
returns-then-width-eq0 c =
    let rs = c.args.residuals.now in
    flat-measure rs (subst (λ w. All (λ r. r < 2 ^ w) rs) c.if-width-eq0.true c.requires.below)
