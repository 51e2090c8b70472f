use Rattle.std.proofs.Common.{refl}
use Rattle.tsds_service.proofs.replies.stream_tree.Goals as goal

pub returns : goal.returns
returns c = rw (c.object.ensures, c.in_ok-members.ensures, c.in_ok-copy.ensures, c.in_ok-with-2.ensures, c.count_tree.ensures, c.from.ensures, c.in_ok-with.ensures, c.list.ensures, c.in_ok-stream_members.ensures) refl
