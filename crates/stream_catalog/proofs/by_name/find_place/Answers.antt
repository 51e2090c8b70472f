use Rattle.std.proofs.Common.{arith}
use Rattle.stream_catalog.proofs.PlaceLemmas.{place-within}
use Rattle.stream_catalog.proofs.by_name.find_place.Goals as goal

pub loop-low-init : goal.loop-low-init
loop-low-init g c = let least = place-within g.T.Named.name_of c.args.name.now c.args.items.now in record { behind = omega arith; before = least; within = omega arith }
