use Rattle.std.proofs.Common.{ap, ◌∙◌}
use Rattle.std.specs.Prelude.{codes}
use Rattle.reply_json.specs.Trees.{error_tree}
use Rattle.tsds_cli.specs.Documents.{not_built}
use Rattle.tsds_cli.proofs.machine.not_built_reply.Goals as goal

pub returns : goal.returns
unfolding not_built
returns c = ap (λ t. record { status = 400; tree = t }) (c.in_ok-tree.ensures ∙ ap (error_tree 400 (codes "not_built_exception")) c.fixed.ensures)
