use Rattle.std.proofs.Common.{refl}
use Rattle.tsds_service.proofs.replies.blocked_reply.Goals as goal

pub returns : goal.returns
returns c = rw (c.accepted.ensures, c.in_ok-members.ensures, c.in_ok-acknowledged.ensures, c.list.ensures, c.in_ok-push.ensures.items, c.in_ok-indices.ensures.items, c.object.ensures, c.in_ok-blocked.ensures, c.in_ok-with.ensures, c.in_ok-with_capacity.ensures) refl
