use Rattle.std.proofs.Common.{◌≡◌, drop}
use Rattle.std.specs.List.{list_any}
use Rattle.stream_catalog.specs.Moves.{meets_member}
use Rattle.stream_catalog.proofs.catalog_facts.CatalogFacts.meets_any.Given as goal

abbrev pub invariant-loop-member : goal.invariant-loop-member
invariant-loop-member l = list_any (meets_member l.self.indices l.index) (drop l.member-index l.members) ≡ list_any (meets_member l.self.indices l.index) l.members
