use Rattle.std.proofs.Common.{refl}
use Rattle.tsds_service.proofs.replies.rolled_reply.Goals as goal

pub returns : goal.returns
returns c = rw (c.accepted.ensures, c.in_ok-members.ensures, c.in_ok-with-2.ensures, c.in_ok-with.ensures, c.in_ok-acknowledged.ensures) refl
