use Rattle.std.proofs.Common.{◌≡◌, ◌<◌, ◌++◌, ℕ, List, [], true, false, Some, length, string_bytes, refl, sym, ap, ap₂, ◌∙◌, subst}
use Rattle.std.specs.Prelude.{codes, bytes_eq, if◌then◌else◌}
use Rattle.std.proofs.lemmas.Result.{on_ok_weaker}
use Rattle.serde_json.specs.Data.{Data, object}
use Rattle.serde_json.specs.View.{members_view, view}
use Rattle.json_walk.specs.Path.{below}
use Rattle.row_cells.specs.Limits.{longest_path}
use Rattle.ts_mapping.specs.Least.{all_faults, least_with, lesser, under}
use Rattle.ts_mapping.specs.Properties.{inside, listed, listed_members, property_at}
use Rattle.ts_mapping.specs.Shapes.{property_faults}
use Rattle.ts_mapping.specs.Walks.{text_at}
use Rattle.ts_mapping.proofs.LeastLemmas.{least_with_append}
use Rattle.ts_mapping.proofs.Steps.{least_step, place_under, seen_object, some_at}
use Rattle.ts_mapping.proofs.Stops.{long_stops}
use Rattle.ts_mapping.proofs.levels.+check.Goals as goal

pub check_at-returns-then-text_of-gt-LONGEST_PATH-clause-least : goal.check_at-returns-then-text_of-gt-LONGEST_PATH-clause-least
check_at-returns-then-text_of-gt-LONGEST_PATH-clause-least t c =
    let held = c.args.least.now in
    let at = text_at c.args.place.now in
    let path = text_at c.args.path.now in
    let long = subst (λ p. longest_path < length p) c.text_of.ensures c.if-text_of-gt-LONGEST_PATH.true in
    on_ok_weaker c.note.result
    (λ told. told ∙ (ap (lesser held) c.text_of-then-text_of-gt-LONGEST_PATH.ensures ∙ long_stops held at path (view c.args.value.now) long))
    c.note.ensures

pub check_at-returns-in-Object-clause-least : goal.check_at-returns-in-Object-clause-least
check_at-returns-in-Object-clause-least t c =
    let held = c.args.least.now in
    let at = text_at c.args.place.now in
    let path = text_at c.args.path.now in
    let ms = members_view c.in-Object.members.entries in
    let seen = seen_object c.args.value.now c.in-Object.members c.in-Object.is in
    let here = λ (p q : List ℕ) (d : Data). property_faults (record { place = p; property = record { path = q; value = d } }) in
    let rest = all_faults property_faults (inside at path ms) in
    let told =
    c.in_ok-check_property.ensures
    ∙ (ap₂ (λ p q. least_with held (here p q (view c.args.value.now))) c.text_of-2.ensures c.text_of-3.ensures ∙ ap (λ d. least_with held (here at path d)) seen) in
    on_ok_weaker c.check_inside.result
    (λ last.
    last
    ∙ (ap (λ h. least_with h rest) told
    ∙ (sym (least_with_append held (here at path (object ms)) rest) ∙ ap (λ d. least_with held (all_faults property_faults (property_at at path d))) (sym seen))))
    c.check_inside.ensures.least

pub check_inside-loop-name-preserved-then-eq : goal.check_inside-loop-name-preserved-then-eq
check_inside-loop-name-preserved-then-eq t c =
    let at = text_at c.args.place.now in
    let path = text_at c.args.path.now in
    let place = c.loop-name.place in
    let name = string_bytes c.in-Some.name.now in
    let d = view c.in-Some.member.now in
    let ahead = λ (s : List ℕ). Some (below place s) in
    let back = c.in_ok-check_list.ensures.place ∙ (c.in_ok-enter.ensures ∙ ap ahead (c.as_str-then-eq.ensures.value ∙ sym c.as_str-then-eq-2.ensures.value)) in
    let inner = c.in_ok-enter.ensures ∙ (ap ahead c.as_str-then-eq.ensures.value ∙ (ap (λ p. Some (below p name)) c.loop-name.invariant.place ∙ ap Some (place_under c.args.place.now name c.requires.place))) in
    let is : bytes_eq name (codes "properties") ≡ true = ap (λ s. bytes_eq s (codes "properties")) (sym c.as_str.ensures.value) ∙ (sym c.eq.ensures ∙ c.if-eq.true) in
    let told =
    subst (λ p. c.check_list.new.least ≡ least_with c.loop-name.least (all_faults property_faults (listed (text_at p) c.loop-name.path d))) inner c.in_ok-check_list.ensures.least in
    record {
      place = c.leave.ensures place back ∙ c.loop-name.invariant.place;
      path = c.in_ok-check_list.ensures.path ∙ c.loop-name.invariant.path;
      least =
          least_step property_faults c.loop-name.least c.check_list.new.least _ (if bytes_eq name (codes "properties") then listed (under at name) (Some path) d else []) (inside at path (members_view c.next.new.self)) (inside at path (members_view c.loop-name.name-iterator))
          (ap (λ ms. inside at path (members_view ms)) c.in-Some.ensures.steps)
          (subst (λ ps. c.check_list.new.least ≡ least_with c.loop-name.least (all_faults property_faults ps)) (ap (λ b. if b then listed (under at name) (Some path) d else []) (sym is))
          (subst (λ here. c.check_list.new.least ≡ least_with c.loop-name.least (all_faults property_faults (listed (under at name) here d))) (c.loop-name.invariant.path ∙ some_at c.args.path.now c.requires.path) told))
          c.loop-name.invariant.least;
    }

pub check_inside-loop-name-preserved : goal.check_inside-loop-name-preserved
check_inside-loop-name-preserved t c =
    let at = text_at c.args.place.now in
    let path = text_at c.args.path.now in
    let name = string_bytes c.in-Some.name.now in
    let d = view c.in-Some.member.now in
    let is : bytes_eq name (codes "properties") ≡ false = ap (λ s. bytes_eq s (codes "properties")) (sym c.as_str.ensures.value) ∙ (sym c.eq.ensures ∙ c.if-eq.false) in
    record {
      place = c.loop-name.invariant.place;
      path = c.loop-name.invariant.path;
      least =
          least_step property_faults c.loop-name.least c.loop-name.least _ [] (inside at path (members_view c.next.new.self)) (inside at path (members_view c.loop-name.name-iterator))
          (ap (λ ms. inside at path (members_view ms)) c.in-Some.ensures.steps ∙ ap (λ b. (if b then listed (under at name) (Some path) d else []) ++ inside at path (members_view c.next.new.self)) is)
          refl c.loop-name.invariant.least;
    }

pub check_members-loop-name-preserved : goal.check_members-loop-name-preserved
check_members-loop-name-preserved t c =
    let at = text_at c.args.place.now in
    let here = c.args.path.now in
    let name = string_bytes c.in-Some.name.now in
    let d = view c.in-Some.member.now in
    let ahead = λ (s : List ℕ). Some (below c.loop-name.place s) in
    let onward = λ (s : List ℕ). Some (below c.loop-name.path s) in
    let path_back = c.in_ok-check_at.ensures.path ∙ (c.in_ok-enter-2.ensures ∙ ap onward (c.as_str-in-loop-name.ensures.value ∙ sym c.as_str-in-loop-name-2.ensures.value)) in
    let place_back = c.in_ok-check_at.ensures.place ∙ (c.in_ok-enter.ensures ∙ ap ahead (c.as_str.ensures.value ∙ sym c.as_str-in-loop-name-3.ensures.value)) in
    let place = c.in_ok-enter.ensures ∙ (ap ahead c.as_str.ensures.value ∙ (ap (λ p. Some (below p name)) c.loop-name.invariant.place ∙ ap Some (place_under c.args.place.now name c.requires))) in
    let path = c.in_ok-enter-2.ensures ∙ (ap onward c.as_str-in-loop-name.ensures.value ∙ ap (λ p. Some (below p name)) c.loop-name.invariant.path) in
    let told =
    subst (λ q. c.check_at.new.least ≡ least_with c.loop-name.least (all_faults property_faults (property_at (under at name) (text_at q) d))) path
    (subst (λ p. c.check_at.new.least ≡ least_with c.loop-name.least (all_faults property_faults (property_at (text_at p) (text_at c.enter-in-loop-name.new.self) d))) place c.in_ok-check_at.ensures.least) in
    record {
      place = c.leave-in-loop-name.ensures c.loop-name.place place_back ∙ c.loop-name.invariant.place;
      path = c.leave.ensures c.loop-name.path path_back ∙ c.loop-name.invariant.path;
      least =
          least_step property_faults c.loop-name.least c.check_at.new.least _ (property_at (under at name) (below here name) d) (listed_members at here (members_view c.next.new.self)) (listed_members at here (members_view c.loop-name.name-iterator))
          (ap (λ ms. listed_members at here (members_view ms)) c.in-Some.ensures.steps) told c.loop-name.invariant.least;
    }
