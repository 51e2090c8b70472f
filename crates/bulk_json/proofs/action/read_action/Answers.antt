use Rattle.std.proofs.Common.{◌≡◌, ◌∙◌, Err, Some, subst, sym, ap}
use Rattle.std.specs.Prelude.{IfOk, option_and_then}
use Rattle.std.specs.Option.{option_map}
use Rattle.bulk_json.specs.Actions.{asked_of, asked_in}
use Rattle.bulk_json.proofs.UsualLines.{usual_by_bytes, named_by_bytes}
use Rattle.bulk_json.specs.Usual.{named_asked}
use Rattle.bulk_json.proofs.action.read_action.Goals as goal

pub returns-in-Ok : goal.returns-in-Ok
unfolding asked_of
returns-in-Ok c = subst (λ d. IfOk c.asked_in.result (λ found. found ≡ d)) (sym (ap (option_and_then (asked_in (option_map (λ s. s.now) c.args.path))) c.in-Ok.ensures.ok)) c.asked_in.ensures

pub returns-in-Err-Bad : goal.returns-in-Err-Bad
unfolding asked_of
returns-in-Err-Bad c = sym (ap (option_and_then (asked_in (option_map (λ s. s.now) c.args.path))) (c.in-Err-Bad.ensures.bad (ap Err c.in-Err-Bad.field-0-is)))

pub returns-then-is_usual : goal.returns-then-is_usual
returns-then-is_usual c =
    let path = option_map (λ s. s.now) c.args.path in
    c.in_ok-asked.ensures ∙ usual_by_bytes path c.args.line.now (sym c.is_usual.ensures ∙ c.if-is_usual.true)

pub returns-in-Some : goal.returns-in-Some
returns-in-Some c =
    let path = option_map (λ s. s.now) c.args.path in
    let found = c.in-Some.ensures in
    ap (λ s. Some (named_asked s)) c.in_ok-new.ensures ∙ named_by_bytes path c.args.line.now c.in-Some.stream.now found.utf8 found.name found.line
