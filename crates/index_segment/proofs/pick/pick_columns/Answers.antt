use Rattle.std.proofs.Common.{◌+◌, ◌++◌, [], ◌∷◌, drop, ap, subst, ◌∙◌, arith}
use Rattle.column_block.specs.Ranges.{rows_between}
use Rattle.index_segment.specs.Columns.{ArePackable}
use Rattle.index_segment.specs.Merging.{picked_columns, picked_values, sides}
use Rattle.index_segment.proofs.Picked.{next_column, packable_behind}
use Rattle.index_segment.proofs.Runs.{moved}
use Rattle.index_segment.proofs.pick.pick_columns.Goals as goal

pub build-requires-clause-rules : goal.build-requires-clause-rules
build-requires-clause-rules c =
    let first = c.args.first.now in
    let second = c.args.second.now in
    let place = c.loop-place.place in
    let ss = sides c.args.turns.now in
    let here = rows_between 0 4294967295 c.index-first-place.result in
    let next = next_column ss first second place c.index-first-place.result c.index-second-place.result c.in_ok-values.values (omega arith) (omega arith) c.index-first-place.is c.index-second-place.is c.loop-place.invariant.first c.loop-place.invariant.second (c.in_ok-values.ensures ∙ (ap (λ v. picked_values ss v c.in_ok-there.there) c.in_ok-here.ensures ∙ ap (picked_values ss here) c.in_ok-there.ensures)) in
    (subst ArePackable next c.loop-place.invariant.all).0

pub build-requires-clause-rows : goal.build-requires-clause-rows
build-requires-clause-rows c =
    let first = c.args.first.now in
    let second = c.args.second.now in
    let place = c.loop-place.place in
    let ss = sides c.args.turns.now in
    let here = rows_between 0 4294967295 c.index-first-place.result in
    let next = next_column ss first second place c.index-first-place.result c.index-second-place.result c.in_ok-values.values (omega arith) (omega arith) c.index-first-place.is c.index-second-place.is c.loop-place.invariant.first c.loop-place.invariant.second (c.in_ok-values.ensures ∙ (ap (λ v. picked_values ss v c.in_ok-there.there) c.in_ok-here.ensures ∙ ap (picked_values ss here) c.in_ok-there.ensures)) in
    (subst ArePackable next c.loop-place.invariant.all).1

pub loop-place-preserved : goal.loop-place-preserved
loop-place-preserved c =
    let first = c.args.first.now in
    let second = c.args.second.now in
    let place = c.loop-place.place in
    let ss = sides c.args.turns.now in
    let old = c.loop-place.columns.items in
    let here = rows_between 0 4294967295 c.index-first-place.result in
    let next = next_column ss first second place c.index-first-place.result c.index-second-place.result c.in_ok-values.values (omega arith) (omega arith) c.index-first-place.is c.index-second-place.is c.loop-place.invariant.first c.loop-place.invariant.second (c.in_ok-values.ensures ∙ (ap (λ v. picked_values ss v c.in_ok-there.there) c.in_ok-here.ensures ∙ ap (picked_values ss here) c.in_ok-there.ensures)) in
    record {
      whole = moved c.push.new.self.items old (picked_columns ss (drop place first) (drop place second)) (picked_columns ss (drop (place + 1) first) (drop (place + 1) second)) (picked_columns ss first second) c.in_ok-values.values (c.in_ok-push.ensures.items ∙ ap (λ column. old ++ column ∷ []) c.in_ok-build.ensures) next c.loop-place.invariant.whole;
      first = packable_behind first place c.index-first-place.result (omega arith) c.loop-place.invariant.first;
      second = packable_behind second place c.index-second-place.result (omega arith) c.loop-place.invariant.second;
      all = (subst ArePackable next c.loop-place.invariant.all).2;
    }
