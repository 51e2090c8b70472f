use Rattle.std.proofs.Common.{arith, to_z, of_z, w64}
use Rattle.stream_catalog.proofs.PickLemmas.{begun_within}
use Rattle.stream_catalog.proofs.catalog_facts.CatalogFacts.count_begun.Goals as goal

pub loop-low-init : goal.loop-low-init
loop-low-init c = record { behind = omega arith; before = begun_within c.args.self.now.indices (to_z w64 (of_z w64 c.args.time)) c.requires.some c.args.members.now; within = omega arith }
