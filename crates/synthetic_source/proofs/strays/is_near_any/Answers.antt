use Rattle.std.proofs.Common.{◌∙◌, ◌||◌, ap, sym}
use Rattle.std.specs.List.{list_any}
use Rattle.ts_mapping.specs.Paths.{is_below}
use Rattle.synthetic_source.proofs.Near.{any_near}
use Rattle.synthetic_source.proofs.strays.is_near_any.Goals as goal

pub returns-then-above : goal.returns-then-above
returns-then-above c =
    c.if-above.true
    ∙ (sym (ap (λ b. b || list_any (λ f. is_below f.path c.args.path.now) c.args.fields.now) (sym c.requires.above ∙ c.if-above.true)) ∙ any_near c.args.path.now c.args.fields.now)

pub returns-else-above : goal.returns-else-above
returns-else-above c =
    c.has_below.ensures
    ∙ (sym (ap (λ b. b || list_any (λ f. is_below f.path c.args.path.now) c.args.fields.now) (sym c.requires.above ∙ c.if-above.false)) ∙ any_near c.args.path.now c.args.fields.now)
