use Rattle.std.proofs.Common.{◌≡◌, ◌++◌, drop, take}
use Rattle.stream_catalog.specs.Moves.{insert_member}
use Rattle.stream_catalog.proofs.catalog_facts.CatalogFacts.place_among.Given as goal

abbrev pub invariant-loop-place : goal.invariant-loop-place
invariant-loop-place l = insert_member l.self.indices l.index l.members ≡ take l.place l.members ++ insert_member l.self.indices l.index (drop l.place l.members)
