use Rattle.std.proofs.Common.{to_z, of_z, w64}
use Rattle.std.proofs.lemmas.Int.{to_z-of_z}
use Rattle.tsds_index.proofs.Ordered.{instant_fits, put_buffer}
use Rattle.tsds_index.proofs.buffer.Buffer.put.Goals as goal

pub invariant_of-self-2 : goal.invariant_of-self-2
invariant_of-self-2 c = (put_buffer c.args.row c.self.inside.rows.items c.args.self.now c.as_slice.result.now (to_z w64 (of_z w64 c.args.row.time)) c.place_in-place.result c.insert.new.rows.items c.self.view_is c.as_slice.ensures.value (to_z-of_z w64 c.args.row.time (instant_fits c.args.row.time c.requires.instant)) c.self.invariant c.requires.room c.requires.free c.place_in-place.ensures.within c.place_in-place.ensures.before c.place_in-place.ensures.behind c.in_ok-insert.ensures.ok).0

pub returns-clause-ok : goal.returns-clause-ok
returns-clause-ok c = (put_buffer c.args.row c.self.inside.rows.items c.args.self.now c.as_slice.result.now (to_z w64 (of_z w64 c.args.row.time)) c.place_in-place.result c.insert.new.rows.items c.self.view_is c.as_slice.ensures.value (to_z-of_z w64 c.args.row.time (instant_fits c.args.row.time c.requires.instant)) c.self.invariant c.requires.room c.requires.free c.place_in-place.ensures.within c.place_in-place.ensures.before c.place_in-place.ensures.behind c.in_ok-insert.ensures.ok).1
