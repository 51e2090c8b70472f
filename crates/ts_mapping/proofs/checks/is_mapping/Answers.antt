use Rattle.std.proofs.Common.{◌≡◌, ◌↔◌, true, sym, subst}
use Rattle.ts_mapping.specs.Facts.{IsMapping}
use Rattle.ts_mapping.proofs.Tested.{mapping_tested}
use Rattle.ts_mapping.proofs.checks.is_mapping.Goals as goal

pub returns : goal.returns
returns c =
    let m = c.args.mapping.now in
    subst (λ b. (b ≡ true) ↔ IsMapping m) (sym c.in_ok-passes.ensures) (mapping_tested m)
