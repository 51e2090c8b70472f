use Rattle.std.proofs.Common.{refl}
use Rattle.tsds_service.proofs.replies.ran_reply.Goals as goal

pub returns : goal.returns
returns c = rw (c.accepted.ensures, c.in_ok-members.ensures, c.count_tree-3.ensures, c.in_ok-with-2.ensures, c.count_tree-2.ensures, c.in_ok-with.ensures, c.count_tree.ensures, c.in_ok-acknowledged.ensures) refl
