use Rattle.std.proofs.Common.{refl}
use Rattle.tsds_service.proofs.replies.stream_reply.Goals as goal

pub returns : goal.returns
returns c = rw (c.accepted.ensures, c.in_ok-members.ensures, c.list.ensures, c.in_ok-push.ensures.items, c.in_ok-streams.ensures.items, c.in_ok-stream_tree.ensures, c.in_ok-with_capacity.ensures) refl
