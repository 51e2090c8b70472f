use Rattle.std.proofs.Common.{◌∙◌, to_z, of_z, w64}
use Rattle.std.proofs.lemmas.Int.{to_z-of_z}
use Rattle.stream_catalog.proofs.PickLemmas.{picked_index, picked_refused, told_pick, windows_held}
use Rattle.stream_catalog.proofs.catalog.Catalog.pick.Goals as goal

pub pick-requires : goal.pick-requires
pick-requires c = windows_held c.self.inside.facts c.self.inside.rows c.args.self.now c.args.stream.now c.self.invariant c.self.view_is c.requires

pub returns-in-Ok-clause-found : goal.returns-in-Ok-clause-found
returns-in-Ok-clause-found c =
    picked_index c.args.self.now c.args.stream.now c.args.time c.in-Ok.index.now
    (told_pick c.self.inside.facts c.self.inside.rows c.args.self.now c.args.stream.now c.args.time (to_z w64 (of_z w64 c.args.time)) c.self.invariant c.self.view_is (to_z-of_z w64 c.args.time c.ranges.time) ∙ c.in-Ok.ensures.found)

pub returns-in-Err-clause-refused : goal.returns-in-Err-clause-refused
returns-in-Err-clause-refused c =
    picked_refused c.args.self.now c.args.stream.now c.args.time c.in-Err.error
    (told_pick c.self.inside.facts c.self.inside.rows c.args.self.now c.args.stream.now c.args.time (to_z w64 (of_z w64 c.args.time)) c.self.invariant c.self.view_is (to_z-of_z w64 c.args.time c.ranges.time) ∙ c.in-Err.ensures.refused)
