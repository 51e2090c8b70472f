use Rattle.std.proofs.Common.{◌∙◌, ap, ap₂}
use Rattle.std.specs.Cmp.Lexicographic.{slice_cmp}
use Rattle.std.specs.Ordering.{is_lt, nat_cmp}
use Rattle.synthetic_source.proofs.Fronts.{rest_order}
use Rattle.synthetic_source.proofs.strays.is_before.Goals as goal

pub returns : goal.returns
returns c =
    c.is_lt.ensures
    ∙ ap is_lt (c.order.ensures
    ∙ (ap₂ (λ a b. slice_cmp nat_cmp a b) c.split_at.ensures.back c.split_at-2.ensures.back
    ∙ rest_order c.args.shared c.args.path.now c.args.other.now c.requires.within c.requires.held c.requires.same))
