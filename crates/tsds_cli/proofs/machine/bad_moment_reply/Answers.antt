use Rattle.std.proofs.Common.{ap, ◌∙◌}
use Rattle.std.specs.Prelude.{codes}
use Rattle.reply_json.specs.Trees.{error_tree}
use Rattle.tsds_cli.specs.Documents.{bad_moment}
use Rattle.tsds_cli.proofs.machine.bad_moment_reply.Goals as goal

pub returns : goal.returns
unfolding bad_moment
returns c = ap (λ t. record { status = 400; tree = t }) (c.in_ok-tree.ensures ∙ ap (error_tree 400 (codes "illegal_argument_exception")) c.fixed.ensures)
