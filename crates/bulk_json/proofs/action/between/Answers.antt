use Rattle.std.proofs.Common.{◌++◌, ap, ◌∙◌}
use Rattle.bulk_json.specs.Usual.{named_front, named_end}
use Rattle.bulk_json.proofs.UsualLines.{behind_front, before_end}
use Rattle.bulk_json.proofs.action.between.Goals as goal

pub returns : goal.returns
returns c =
    let behind = c.in_ok-behind.ensures.cases in
    let name = c.in_ok-name.ensures.cases in
    behind_front named_front c.args.line.now c.in_ok-behind.behind.now behind.0 behind.1
    ∙ ap (λ s. named_front ++ s) (before_end named_end c.in_ok-behind.behind.now c.in_ok-name.name.now _ name.0 name.1)
