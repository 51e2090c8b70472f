use Rattle.std.proofs.Common.{◌≡◌, [], ◌∷◌, ◌++◌, length, map, take, sym, ap, ◌∙◌, true≢false, string_bytes, arith}
use Rattle.std.proofs.Math.Seq.{take-append_seam}
use Rattle.std.proofs.lemmas.Result.{on_ok_weaker}
use Rattle.serde_json.specs.View.{view, members_view}
use Rattle.json_walk.specs.Listed.{listed, listed_members, placed}
use Rattle.json_walk.specs.Path.{is_stop}
use Rattle.json_walk.specs.WalkLaws.{listed_whole}
use Rattle.synthetic_source.specs.Faults.{stops_of}
use Rattle.synthetic_source.specs.Gathered.{slot_leaves}
use Rattle.synthetic_source.specs.Walked.{after, here_of, seen_fault, seen_walk}
use Rattle.synthetic_source.proofs.OneWalk.{drop_here, items_step, members_step}
use Rattle.synthetic_source.proofs.walking.+walk.Goals as goal

pub walk_items-loop-item-preserved : goal.walk_items-loop-item-preserved
walk_items-loop-item-preserved t c = record {
  place = c.in_ok-walk_value.ensures.place ∙ c.loop-item.invariant.place;
  held =
      items_step c.args.strict c.args.fields.now (stops_of c.args.fields.now) c.args.place.now.items c.loop-item.place.items (seen_walk c.loop-item.walk) (seen_walk c.walk_value.new.walk) _ c.item-item.result _ _
      c.loop-item.invariant.place (drop_here c.deref-item-items.result.now c.loop-item.item-index c.item-item.result (omega arith) c.item-item.is) c.in_ok-walk_value.ensures.held c.loop-item.invariant.held;
  long = c.in_ok-walk_value.ensures.long ∙ c.loop-item.invariant.long;
  known = c.in_ok-walk_value.ensures.known;
}

pub walk_members-loop-name-preserved : goal.walk_members-loop-name-preserved
walk_members-loop-name-preserved t c =
    let goes = c.in_ok-enter.ensures.place ∙ ap (λ s. c.loop-name.place.items ++ 46 ∷ s) c.as_str.ensures.value in
    let held =
    c.in_ok-walk_value.ensures.held
    ∙ ap (λ l. after c.args.strict c.args.fields.now (record { slots = map slot_leaves c.loop-name.walk.slots.items; least = seen_fault l }) (listed (stops_of c.args.fields.now) (here_of c.enter.new.place.items) (view c.in-Some.member.now))) c.enter.ensures.least in
    let outer = c.in_ok-walk_value.ensures.place ∙ (goes ∙ ap (λ b. b ++ 46 ∷ string_bytes c.in-Some.name.now) c.loop-name.invariant.place) in
    record {
      place = c.leave.ensures.place ∙ (ap (take (length c.as_slice-length.result.now)) outer ∙ (ap (λ xs. take (length xs) (c.args.place.now.items ++ 46 ∷ string_bytes c.in-Some.name.now)) c.as_slice-length.ensures.value ∙ take-append_seam c.args.place.now.items _));
      held =
          ap (λ l. after c.args.strict c.args.fields.now (record { slots = map slot_leaves c.walk_value.new.walk.slots.items; least = seen_fault l }) (listed_members (stops_of c.args.fields.now) (here_of c.args.place.now.items) (members_view c.next.new.self))) c.leave.ensures.least
          ∙ members_step c.args.strict c.args.fields.now (stops_of c.args.fields.now) c.args.place.now.items c.loop-name.place.items c.enter.new.place.items (string_bytes c.in-Some.name.now) (seen_walk c.loop-name.walk) (seen_walk c.walk_value.new.walk) _ (view c.in-Some.member.now) (members_view c.loop-name.name-iterator) (members_view c.next.new.self)
          c.loop-name.invariant.place goes (ap members_view c.in-Some.ensures.steps) held c.loop-name.invariant.held;
      long = c.in_ok-walk_value.ensures.long ∙ c.loop-name.invariant.long;
      known = c.leave.ensures.known c.args.strict c.args.fields.now c.in_ok-walk_value.ensures.known;
    }

pub walk_value-returns-then-is_stop_at-clause-held : goal.walk_value-returns-then-is_stop_at-clause-held
walk_value-returns-then-is_stop_at-clause-held t c =
    let place = c.as_slice.ensures.value in
    let stop = ap (λ xs. is_stop (stops_of c.args.fields.now) (here_of xs)) (sym place) ∙ (sym c.is_stop_at.ensures ∙ c.if-is_stop_at.true) in
    let some = λ (none : c.in-Object.members.entries ≡ []). true≢false (sym (c.is_empty.ensures.1 (ap length none)) ∙ c.if-is_empty.false) in
    let whole = listed_whole (stops_of c.args.fields.now) (here_of c.args.place.now.items) c.in-Object.members c.args.value.now stop c.in-Object.is some in
    on_ok_weaker c.put.result (λ e. e ∙ ap (λ es. after c.args.strict c.args.fields.now (seen_walk c.args.walk.now) es) (ap (λ xs. placed (here_of xs) (view c.args.value.now)) c.as_slice-then-is_stop_at.ensures.value ∙ whole)) c.put.ensures.held
