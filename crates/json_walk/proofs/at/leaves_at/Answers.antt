use Rattle.json_walk.specs.Leaves.{leaves_of}
use Rattle.json_walk.proofs.at.leaves_at.Goals as goal

pub returns : goal.returns
unfolding leaves_of
returns c = rw (c.new-found.ensures.items, c.as_bytes-path.ensures.value) at c.in_ok-gather.ensures
