use Rattle.std.proofs.Common.{ap, ◌∙◌, to_z, of_z, w64}
use Rattle.std.proofs.lemmas.Int.{to_z-of_z}
use Rattle.tsds_index.specs.Answers.{row_at}
use Rattle.tsds_index.specs.Segments.{lists_in}
use Rattle.tsds_index.specs.Spread.{newest_first}
use Rattle.tsds_index.proofs.Looked.{row_before, row_there}
use Rattle.tsds_index.proofs.looks.find_sealed.Goals as goal

pub returns-in-Some-place_of : goal.returns-in-Some-place_of
returns-in-Some-place_of c =
    let t = to_z w64 (of_z w64 c.args.time) in
    row_there c.args.key.now t c.loop-segment.left.now c.in-Some.older.now c.in-Some.segment.now c.in-Some.ensures.cases.0 (row_at c.args.key.now t (newest_first (lists_in c.args.segments.now))) c.in-Some-place_of.place c.in_ok-row_at-in-Some-place_of.field-0 c.loop-segment.invariant c.in-Some-place_of.ensures c.in_ok-row_at-in-Some-place_of.ensures
    ∙ ap (λ s. row_at c.args.key.now s (newest_first (lists_in c.args.segments.now))) (to_z-of_z w64 c.args.time c.ranges.time)

pub loop-segment-preserved : goal.loop-segment-preserved
loop-segment-preserved c =
    let t = to_z w64 (of_z w64 c.args.time) in
    row_before c.args.key.now t c.loop-segment.left.now c.in-Some.older.now c.in-Some.segment.now c.in-Some.ensures.cases.0 (row_at c.args.key.now t (newest_first (lists_in c.args.segments.now))) c.loop-segment.invariant c.in-None.ensures
