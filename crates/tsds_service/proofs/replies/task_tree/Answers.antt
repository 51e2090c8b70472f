use Rattle.std.proofs.Common.{refl}
use Rattle.tsds_service.proofs.replies.task_tree.Goals as goal

pub returns : goal.returns
returns c = rw (c.object.ensures, c.in_ok-members.ensures, c.count_tree-2.ensures, c.in_ok-with-2.ensures, c.count_tree.ensures, c.in_ok-with.ensures, c.in_ok-interval_text.ensures, c.in_ok-fold_members.ensures) refl
