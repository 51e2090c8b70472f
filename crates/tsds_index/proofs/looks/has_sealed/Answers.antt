use Rattle.std.proofs.Common.{ap, ◌∙◌, to_z, of_z, w64}
use Rattle.std.proofs.lemmas.Int.{to_z-of_z}
use Rattle.row_cells.specs.RowLists.{has_place}
use Rattle.tsds_index.specs.Segments.{lists_in}
use Rattle.tsds_index.specs.Spread.{newest_first}
use Rattle.tsds_index.proofs.Looked.{place_before, place_there}
use Rattle.tsds_index.proofs.looks.has_sealed.Goals as goal

pub returns-in-Some-place_of : goal.returns-in-Some-place_of
returns-in-Some-place_of c =
    let t = to_z w64 (of_z w64 c.args.time) in
    place_there c.args.key.now t c.loop-segment.left.now c.in-Some.older.now c.in-Some.segment.now c.in-Some.ensures.cases.0 (has_place c.args.key.now t (newest_first (lists_in c.args.segments.now))) c.in-Some-place_of.field-0 c.loop-segment.invariant c.in-Some-place_of.ensures
    ∙ ap (λ s. has_place c.args.key.now s (newest_first (lists_in c.args.segments.now))) (to_z-of_z w64 c.args.time c.ranges.time)

pub loop-segment-preserved : goal.loop-segment-preserved
loop-segment-preserved c =
    let t = to_z w64 (of_z w64 c.args.time) in
    place_before c.args.key.now t c.loop-segment.left.now c.in-Some.older.now c.in-Some.segment.now c.in-Some.ensures.cases.0 (has_place c.args.key.now t (newest_first (lists_in c.args.segments.now))) c.loop-segment.invariant c.in-None.ensures
