use Rattle.std.proofs.Common.{◌≡◌, ◌↔◌, true, sym, subst}
use Rattle.ts_mapping.specs.Facts.{IsTemplate}
use Rattle.ts_mapping.proofs.Tested.{template_tested}
use Rattle.ts_mapping.proofs.checks.is_template.Goals as goal

pub returns : goal.returns
returns c =
    let t = c.args.template.now in
    subst (λ b. (b ≡ true) ↔ IsTemplate t) (sym c.in_ok-passes.ensures) (template_tested t)
