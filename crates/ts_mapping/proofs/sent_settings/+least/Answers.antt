use Rattle.std.proofs.Common.{Some, None, string_bytes, sym, ap, ◌∙◌}
use Rattle.serde_json.specs.View.{members_view, view}
use Rattle.ts_mapping.specs.Least.{least, under}
use Rattle.ts_mapping.specs.Settings.{flat}
use Rattle.ts_mapping.specs.Walks.{setting_paths}
use Rattle.ts_mapping.proofs.Deep.{among_step, least_there, none_joined, put_joined}
use Rattle.ts_mapping.proofs.Refusals.{nothing}
use Rattle.ts_mapping.proofs.Steps.{seen_object}
use Rattle.ts_mapping.proofs.sent_settings.+least.Goals as goal

pub least_among-loop-name-preserved-in-Some-2 : goal.least_among-loop-name-preserved-in-Some-2
least_among-loop-name-preserved-in-Some-2 t c =
    let name = string_bytes c.in-Some.name.now in
    let d = view c.in-Some.member.now in
    let one = ap (λ s. least (setting_paths (flat (Some s) d))) (sym c.as_str.ensures.value) ∙ (sym c.in_ok-path.ensures ∙ c.in-Some-2.is) in
    among_step c.loop-name.least c.put.new.self _ name d (members_view c.loop-name.name-iterator) (members_view c.next.new.self) (ap members_view c.in-Some.ensures.steps)
    (put_joined c.loop-name.least c.put.new.self (setting_paths (flat (Some name) d)) c.in-Some-2.path one c.put.ensures) c.loop-name.invariant

pub least_among-loop-name-preserved : goal.least_among-loop-name-preserved
least_among-loop-name-preserved t c =
    let name = string_bytes c.in-Some.name.now in
    let d = view c.in-Some.member.now in
    let none = ap (λ s. least (setting_paths (flat (Some s) d))) (sym c.as_str.ensures.value) ∙ (sym c.in_ok-path.ensures ∙ nothing c.in_ok-path.field-0 c.in_default.not-Some) in
    among_step c.loop-name.least c.loop-name.least _ name d (members_view c.loop-name.name-iterator) (members_view c.next.new.self) (ap members_view c.in-Some.ensures.steps)
    (none_joined c.loop-name.least (setting_paths (flat (Some name) d)) none) c.loop-name.invariant

pub least_at-returns-in-None : goal.least_at-returns-in-None
least_at-returns-in-None t c =
    least_there c.args.name.now (members_view c.in-Object.members.entries) None (sym c.in-None.is ∙ c.in_ok-least_among-in-Object.ensures)
    ∙ ap (λ d. least (setting_paths (flat (Some c.args.name.now) d))) (sym (seen_object c.args.value.now c.in-Object.members c.in-Object.is))

pub least_at-returns-in_ok-under_place-in-Some : goal.least_at-returns-in_ok-under_place-in-Some
least_at-returns-in_ok-under_place-in-Some t c =
    ap Some (c.in_ok-under_place-in-Some.ensures ∙ ap (under c.args.name.now) c.as_str.ensures)
    ∙ (least_there c.args.name.now (members_view c.in-Object.members.entries) (Some c.in-Some.rest) (sym c.in-Some.is ∙ c.in_ok-least_among-in-Object.ensures)
    ∙ ap (λ d. least (setting_paths (flat (Some c.args.name.now) d))) (sym (seen_object c.args.value.now c.in-Object.members c.in-Object.is)))
