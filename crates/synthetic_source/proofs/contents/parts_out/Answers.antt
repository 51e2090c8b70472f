use Rattle.std.proofs.Common.{rules, ap, ◌∙◌}
use Rattle.std.specs.Prelude.{FitsSigned}
use Rattle.std.specs.Int.{w128}
use Rattle.std.proofs.lemmas.Int.{to_z-of_z}
use Rattle.serde_json.specs.Data.{number}
use Rattle.serde_json.specs.Find.{of_integer}
use Rattle.synthetic_source.specs.Replies.{out_of}
use Rattle.synthetic_source.proofs.Numbers.{parts_shown}
use Rattle.synthetic_source.proofs.contents.parts_out.Goals as goal

pub returns : goal.returns
returns c =
    let sum : FitsSigned w128 c.args.parts.now.sum = search rules in
    let count : FitsSigned w128 c.args.parts.now.count = search rules in
    parts_shown c.args.parts.now _ _ _ _ _ _ c.object.ensures c.in_ok-members.ensures c.in_ok-with.ensures c.in_ok-bounds_out.ensures
    (c.number_out.ensures ∙ ap (λ v. out_of (number (of_integer v))) (to_z-of_z w128 c.args.parts.now.sum sum))
    (c.number_out-2.ensures ∙ ap (λ v. out_of (number (of_integer v))) (to_z-of_z w128 c.args.parts.now.count count))
