use Rattle.std.proofs.Common.{sym, ap, ◌∙◌}
use Rattle.serde_json.specs.View.{view}
use Rattle.ts_mapping.specs.Seen.{settings_seen}
use Rattle.ts_mapping.proofs.Known.{sent_all}
use Rattle.ts_mapping.proofs.Refusals.{early_refuses, nothing, shape_refuses}
use Rattle.ts_mapping.proofs.gathering.gather.Goals as goal

pub returns-in-Some : goal.returns-in-Some
returns-in-Some c = shape_refuses (view c.args.body.now) c.in-Some.path (sym c.in_ok-path.ensures ∙ c.in-Some.is)

pub early_fault-requires-clause-settings : goal.early_fault-requires-clause-settings
early_fault-requires-clause-settings c =
    let none = sym c.in_ok-path.ensures ∙ nothing c.in_ok-path.field-0 c.in_default.not-Some in
    ap settings_seen c.deref-2.ensures.value ∙ (c.in_ok-settings.ensures ∙ sent_all (view c.args.body.now) none)

pub returns-in-Some-2 : goal.returns-in-Some-2
returns-in-Some-2 c =
    early_refuses (view c.args.body.now) c.in-Some-2.fault (sym c.in_ok-path.ensures ∙ nothing c.in_ok-path.field-0 c.in_default.not-Some) (sym c.in_ok-fault.ensures ∙ c.in-Some-2.is)

pub returns : goal.returns
returns c =
    let none = sym c.in_ok-path.ensures ∙ nothing c.in_ok-path.field-0 c.in_default.not-Some in
    (c.in_ok-settings.ensures ∙ sent_all (view c.args.body.now) none, c.in_ok-fields.ensures, none, sym c.in_ok-fault.ensures ∙ c.in-None.is)
