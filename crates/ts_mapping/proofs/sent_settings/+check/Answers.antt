use Rattle.std.proofs.Common.{◌≡◌, ℕ, List, Some, string_bytes, sym, ap, ◌∙◌, subst}
use Rattle.serde_json.specs.View.{members_view, view}
use Rattle.json_walk.specs.Path.{below}
use Rattle.ts_mapping.specs.Least.{all_faults, least_with}
use Rattle.ts_mapping.specs.Settings.{flat, flat_members, unknown_setting}
use Rattle.ts_mapping.proofs.Steps.{least_step}
use Rattle.ts_mapping.proofs.sent_settings.+check.Goals as goal

pub check_members-loop-name-preserved : goal.check_members-loop-name-preserved
check_members-loop-name-preserved t c =
    let at = c.loop-name.place in
    let place = c.args.place.now in
    let name = string_bytes c.in-Some.name.now in
    let d = view c.in-Some.member.now in
    let ahead = λ (s : List ℕ). Some (below at s) in
    let back = c.in_ok-check_value.ensures.place ∙ (c.in_ok-enter.ensures ∙ ap ahead (c.as_str.ensures.value ∙ sym c.as_str-in-loop-name.ensures.value)) in
    let inner = c.in_ok-enter.ensures ∙ (ap ahead c.as_str.ensures.value ∙ ap (λ p. Some (below p name)) c.loop-name.invariant.place) in
    record {
      place = c.leave.ensures at back ∙ c.loop-name.invariant.place;
      least =
          least_step unknown_setting c.loop-name.least c.check_value.new.least _ (flat (Some (below place name)) d) (flat_members place (members_view c.next.new.self)) (flat_members place (members_view c.loop-name.name-iterator))
          (ap (λ ms. flat_members place (members_view ms)) c.in-Some.ensures.steps)
          (subst (λ p. c.check_value.new.least ≡ least_with c.loop-name.least (all_faults unknown_setting (flat p d))) inner c.in_ok-check_value.ensures.least) c.loop-name.invariant.least;
    }
