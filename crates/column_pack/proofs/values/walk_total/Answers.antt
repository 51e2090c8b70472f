use Rattle.std.proofs.Common.{◌^◌, ◌<◌, subst}
use Rattle.std.specs.List.{All}
use Rattle.column_pack.proofs.Flat.{flat-total}
use Rattle.column_pack.proofs.values.walk_total.Goals as goal

pub returns-then-header-eq0 : goal.returns-then-header-eq0
returns-then-header-eq0 c = let h = c.args.header.now in flat-total c.args.start h.offset h.factor c.args.residuals.now (subst (λ w. All (λ r. r < 2 ^ w) c.args.residuals.now) c.if-header-eq0.true c.requires.below)
