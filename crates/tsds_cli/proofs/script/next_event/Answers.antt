use Rattle.std.proofs.Common.{◌≡◌, ◌∙◌, ℕ, List, [], ◌∷◌, Some, ap, sym, subst}
use Rattle.tsds_cli.specs.declared.script.Opening.TheVariants as opening
use Rattle.tsds_cli.specs.Script.{Event, between, within, Request}
use Rattle.tsds_cli.specs.Ahead.{Passed, event_by, event_in}
use Rattle.tsds_cli.specs.Limits.{IsShort}
use Rattle.tsds_cli.proofs.PassLemmas.{passed-passed, stopped-behind, err-stops, opened-at}
use Rattle.tsds_cli.proofs.script.next_event.Goals as goal

pub returns-in_err-read_body-in-Some-Request-clause-stopped : goal.returns-in_err-read_body-in-Some-Request-clause-stopped
returns-in_err-read_body-in-Some-Request-clause-stopped g c =
    let line : List ℕ = c.next_opening.new.into.items in
    let passed = opened-at c.in_ok-next_opening.field-0 opening.Request line c.args.reader.now c.next_opening.new.reader _ _ c.in_ok-next_opening.ensures.found (c.in-Some-Request.is ∙ ap Some c.in-Some-Request.field-0-is) in
    err-stops between c.from_residual-in_err-read_body-in-Some-Request.result c.in_err-read_body-in-Some-Request.field-0.0 c.args.reader.now c.read_body.new.reader _ _ c.from_residual-in_err-read_body-in-Some-Request.ensures.1
    (stopped-behind between (within line []) c.in_err-read_body-in-Some-Request.field-0.0 c.args.reader.now c.next_opening.new.reader c.read_body.new.reader _ _ _ passed c.in_err-read_body-in-Some-Request.ensures.stopped)

pub returns-in_ok-read_body-in-Some-Request-clause-event : goal.returns-in_ok-read_body-in-Some-Request-clause-event
returns-in_ok-read_body-in-Some-Request-clause-event g c =
    let line : List ℕ = c.next_opening.new.into.items in
    let heard = c.read_body.new.heard in
    let passed = opened-at c.in_ok-next_opening.field-0 opening.Request line c.args.reader.now c.next_opening.new.reader _ _ c.in_ok-next_opening.ensures.found (c.in-Some-Request.is ∙ ap Some c.in-Some-Request.field-0-is) in
    let kept = c.read_body.ensures.kept in
    let is : event_in heard ≡ Request line heard.body.items = ap (λ o. event_by o heard.line.items heard.body.items) kept.0 ∙ ap (λ l. Request l heard.body.items) kept.1 in
    λ came. subst (λ (e : Event). Passed between (e ∷ []) between c.args.reader.now c.read_body.new.reader (g.S.Source.left c.args.source.now) (g.S.Source.left c.read_body.new.source)) (sym is)
    (passed-passed [] (Request line heard.body.items ∷ []) between (within line []) between c.args.reader.now c.next_opening.new.reader c.read_body.new.reader _ _ _ passed c.in_ok-read_body-in-Some-Request.ensures.event)

pub returns-in_ok-read_body-in-Some-Request-clause-held : goal.returns-in_ok-read_body-in-Some-Request-clause-held
returns-in_ok-read_body-in-Some-Request-clause-held g c =
    let line : List ℕ = c.next_opening.new.into.items in
    let heard = c.read_body.new.heard in
    let kept = c.read_body.ensures.kept in
    let is : event_in heard ≡ Request line heard.body.items = ap (λ o. event_by o heard.line.items heard.body.items) kept.0 ∙ ap (λ l. Request l heard.body.items) kept.1 in
    λ came. subst IsShort (sym is) c.in_ok-read_body-in-Some-Request.ensures.held
