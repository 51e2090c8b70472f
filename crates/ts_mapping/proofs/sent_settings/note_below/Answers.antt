use Rattle.std.proofs.Common.{sym, ap, ◌∙◌}
use Rattle.std.specs.Prelude.{codes}
use Rattle.std.proofs.lemmas.Result.{on_ok_weaker}
use Rattle.serde_json.specs.View.{members_view}
use Rattle.ts_mapping.specs.Least.{lesser, under}
use Rattle.ts_mapping.proofs.Deep.{deep_none, deep_put}
use Rattle.ts_mapping.proofs.Refusals.{nothing}
use Rattle.ts_mapping.proofs.sent_settings.note_below.Goals as goal

pub returns-in_default : goal.returns-in_default
returns-in_default c =
    deep_none c.args.least.now c.args.path.now (members_view c.args.members.now.entries) c.requires
    (sym (nothing c.in_ok-rest.field-0 c.in_default.not-Some) ∙ c.in_ok-rest.ensures)

pub returns : goal.returns
returns c =
    let held = c.args.least.now in
    let path = c.as_str-2.ensures ∙ (c.in_ok-path.ensures ∙ ap (under c.args.path.now) c.as_str.ensures) in
    on_ok_weaker c.note_under.result
    (λ told.
    deep_put held c.note_under.new.self c.args.path.now c.in-Some.rest (members_view c.args.members.now.entries) c.requires (sym c.in-Some.is ∙ c.in_ok-rest.ensures)
    (told ∙ ap (λ p. lesser held (under (codes "template.settings") p)) path))
    c.note_under.ensures
