use Rattle.std.proofs.Common.{◌∙◌, to_z, of_z, w64}
use Rattle.std.proofs.lemmas.Int.{to_z-of_z}
use Rattle.stream_catalog.proofs.PickLemmas.{begun_past, begun_told, begun_upto}
use Rattle.stream_catalog.proofs.catalog_facts.CatalogFacts.has_begun_at.Goals as goal

pub returns-clause-past : goal.returns-clause-past
returns-clause-past c =
    let m = c.index-members-at.result in
    let told = begun_told c.args.self.now.indices c.args.time (to_z w64 (of_z w64 c.args.time)) c.args.members.now c.args.at m c.has_begun.result (to_z-of_z w64 c.args.time c.ranges.time) c.has_begun.ensures c.index-members-at.is in
    λ is. begun_past c.args.self.now.indices c.args.time c.requires.windows.some c.args.members.now c.args.at m c.requires.windows.follow c.requires.within (told ∙ is)

pub returns-clause-upto : goal.returns-clause-upto
returns-clause-upto c =
    let m = c.index-members-at.result in
    let told = begun_told c.args.self.now.indices c.args.time (to_z w64 (of_z w64 c.args.time)) c.args.members.now c.args.at m c.has_begun.result (to_z-of_z w64 c.args.time c.ranges.time) c.has_begun.ensures c.index-members-at.is in
    λ is. begun_upto c.args.self.now.indices c.args.time c.requires.windows.some c.args.members.now c.args.at m c.requires.within (told ∙ is)
