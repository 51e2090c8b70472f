use Rattle.std.proofs.Common.{refl}
use Rattle.tsds_service.proofs.replies.member_tree.Goals as goal

pub returns : goal.returns
returns c = rw (c.object.ensures, c.in_ok-members.ensures, c.in_ok-with.ensures, c.in_ok-interval_tree.ensures, c.in_ok-window_members.ensures) refl
