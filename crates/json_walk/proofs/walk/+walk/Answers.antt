use Rattle.std.proofs.Common.{◌≡◌, ℕ, List, Some, [], length, true≢false, string_bytes, sym, ap, ◌∙◌, arith}
use Rattle.std.proofs.lemmas.Result.{on_ok_weaker}
use Rattle.serde_json.specs.View.{view, members_view}
use Rattle.json_walk.specs.Path.{below}
use Rattle.json_walk.specs.Paths.{with_paths}
use Rattle.json_walk.specs.WalkLaws.{listed_whole}
use Rattle.json_walk.proofs.Walked.{drop_here, noted, items_step, members_step}
use Rattle.json_walk.proofs.walk.+walk.Goals as goal

pub walk-returns-then-is_stop-clause-paths : goal.walk-returns-then-is_stop-clause-paths
walk-returns-then-is_stop-clause-paths t c =
    let stop = sym c.is_stop.ensures ∙ c.if-is_stop.true in
    let some = λ (none : c.in-Object.members.entries ≡ []). true≢false (sym (c.is_empty.ensures.1 (ap length none)) ∙ c.if-is_empty.false) in
    let whole = listed_whole c.args.stops.now c.args.place.now c.in-Object.members c.args.value.now stop c.in-Object.is some in
    on_ok_weaker c.note.result (λ e. e ∙ (noted c.args.paths.now.keys c.args.place.now (view c.args.value.now) ∙ ap (with_paths c.args.paths.now.keys) whole)) c.note.ensures

pub walk_items-loop-item-preserved : goal.walk_items-loop-item-preserved
walk_items-loop-item-preserved t c = record {
  place = c.in_ok-walk.ensures.place ∙ c.loop-item.invariant.place;
  paths =
      items_step c.args.stops.now c.args.place.now c.loop-item.place c.loop-item.paths.keys c.walk.new.paths.keys _ c.item-item.result _ _
      c.loop-item.invariant.place (drop_here c.deref-item-items.result.now c.loop-item.item-index c.item-item.result (omega arith) c.item-item.is) c.in_ok-walk.ensures.paths c.loop-item.invariant.paths;
}

pub walk_members-loop-name-preserved : goal.walk_members-loop-name-preserved
walk_members-loop-name-preserved t c =
    let at = c.loop-name.place in
    let ahead = λ (s : List ℕ). Some (below at s) in
    let back = c.in_ok-walk.ensures.place ∙ (c.in_ok-enter.ensures ∙ ap ahead (c.as_str.ensures.value ∙ sym c.as_str-in-loop-name.ensures.value)) in
    record {
      place = c.leave.ensures at back ∙ c.loop-name.invariant.place;
      paths =
          members_step c.args.stops.now c.args.place.now c.loop-name.place c.enter.new.self (string_bytes c.in-Some.name.now) c.loop-name.paths.keys c.walk.new.paths.keys _ (view c.in-Some.member.now) (members_view c.loop-name.name-iterator) (members_view c.next.new.self)
          c.loop-name.invariant.place (c.in_ok-enter.ensures ∙ ap ahead c.as_str.ensures.value) (ap members_view c.in-Some.ensures.steps) c.in_ok-walk.ensures.paths c.loop-name.invariant.paths;
    }
