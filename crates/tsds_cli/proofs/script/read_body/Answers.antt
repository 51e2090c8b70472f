use Rattle.std.proofs.Common.{◌∙◌, ◌++◌, ◌∷◌, ℕ, ◌≤◌, [], Err, List, length, arith, sym, subst, ap}
use Rattle.edge_face.specs.Reading.{Reading}
use Rattle.tsds_cli.specs.Script.{Request}
use Rattle.tsds_cli.specs.Errors.{run_error_of}
use Rattle.tsds_cli.specs.Script.{Place, between, within}
use Rattle.tsds_cli.specs.Ahead.{Passed}
use Rattle.edge_face.specs.Limits.{body_limit}
use Rattle.tsds_cli.proofs.PassLemmas.{passed-passed, looked, stopped-line, stopped-add, end-passed, close-passed, body-passed, err-stops}
use Rattle.tsds_cli.proofs.script.read_body.Goals as goal

pub returns-in_err-piece-clause-stopped : goal.returns-in_err-piece-clause-stopped
returns-in_err-piece-clause-stopped g c =
    let from : Place = within c.args.heard.now.line.items [] in
    let here : Place = within c.args.heard.now.line.items c.lines.heard.body.items in
    let passed = passed-passed [] [] from here here c.args.reader.now c.lines.reader c.find_line.new.self _ _ _ c.lines.invariant.passed (looked here c.lines.reader c.find_line.new.self _ _ c.find_line.ensures.kept c.find_line.ensures.counted c.find_line.ensures.still c.find_line.ensures.stays) in
    err-stops from c.from_residual.result (run_error_of c.in_err-piece.field-0.0) c.args.reader.now c.find_line.new.self _ _ c.from_residual.ensures.1
    (stopped-line from here c.in_err-piece.field-0.0 c.args.reader.now c.find_line.new.self _ _ _ _ passed c.find_line.ensures.within (c.in_err-piece.ensures.cause c.lines.invariant.fine))

pub returns-then-piece-eq0-clause-event : goal.returns-then-piece-eq0-clause-event
returns-then-piece-eq0-clause-event g c =
    let from : Place = within c.args.heard.now.line.items [] in
    let here : Place = within c.args.heard.now.line.items c.lines.heard.body.items in
    let passed = passed-passed [] [] from here here c.args.reader.now c.lines.reader c.find_line.new.self _ _ _ c.lines.invariant.passed (looked here c.lines.reader c.find_line.new.self _ _ c.find_line.ensures.kept c.find_line.ensures.counted c.find_line.ensures.still c.find_line.ensures.stays) in
    passed-passed [] (Request c.args.heard.now.line.items c.lines.heard.body.items ∷ []) from here between c.args.reader.now c.find_line.new.self c.find_line.new.self _ _ _ passed (end-passed here c.in_ok-piece.piece c.find_line.new.self _ c.in_ok-piece.ensures.found c.if-piece-eq0.true)

pub returns-then-ends_body-clause-event : goal.returns-then-ends_body-clause-event
returns-then-ends_body-clause-event g c =
    let from : Place = within c.args.heard.now.line.items [] in
    let here : Place = within c.args.heard.now.line.items c.lines.heard.body.items in
    let passed = passed-passed [] [] from here here c.args.reader.now c.lines.reader c.find_line.new.self _ _ _ c.lines.invariant.passed (looked here c.lines.reader c.find_line.new.self _ _ c.find_line.ensures.kept c.find_line.ensures.counted c.find_line.ensures.still c.find_line.ensures.stays) in
    passed-passed [] (Request c.args.heard.now.line.items c.lines.heard.body.items ∷ []) from here between c.args.reader.now c.find_line.new.self c.pass.new.self _ _ _ passed
    (close-passed c.in_ok-piece.piece c.args.heard.now.line.items c.lines.heard.body.items c.line-line.result.now c.find_line.new.self c.pass.new.self _ c.in_ok-piece.ensures.found (omega arith) c.line-line.ensures (sym c.ends_body.ensures ∙ c.if-ends_body.true) c.pass.ensures)

pub returns-in_err-add_line-clause-stopped : goal.returns-in_err-add_line-clause-stopped
returns-in_err-add_line-clause-stopped g c =
    let from : Place = within c.args.heard.now.line.items [] in
    let here : Place = within c.args.heard.now.line.items c.lines.heard.body.items in
    let passed = passed-passed [] [] from here here c.args.reader.now c.lines.reader c.find_line.new.self _ _ _ c.lines.invariant.passed (looked here c.lines.reader c.find_line.new.self _ _ c.find_line.ensures.kept c.find_line.ensures.counted c.find_line.ensures.still c.find_line.ensures.stays) in
    err-stops from c.from_residual-in_err-add_line.result c.in_err-add_line.field-0.0 c.args.reader.now c.find_line.new.self _ _ c.from_residual-in_err-add_line.ensures.1
    (stopped-add from c.in_err-add_line.field-0.0 c.in_ok-piece.piece c.args.heard.now.line.items c.lines.heard.body.items c.line-line.result.now c.args.reader.now c.find_line.new.self _ _ passed c.in_ok-piece.ensures.found (omega arith)
    (sym c.ends_body.ensures ∙ c.if-ends_body.false) c.line-line.ensures (λ e. c.in_err-add_line.ensures.long (ap Err e)) (λ e. c.in_err-add_line.ensures.others.0 (ap Err e)) (λ e. c.in_err-add_line.ensures.others.1.0 (ap Err e)) (λ e. c.in_err-add_line.ensures.others.1.1 (ap Err e)))

pub lines-preserved : goal.lines-preserved
lines-preserved g c =
    let from : Place = within c.args.heard.now.line.items [] in
    let here : Place = within c.args.heard.now.line.items c.lines.heard.body.items in
    let longer : List ℕ = c.lines.heard.body.items ++ (c.line-line.result.now ++ 10 ∷ []) in
    let passed = passed-passed [] [] from here here c.args.reader.now c.lines.reader c.find_line.new.self _ _ _ c.lines.invariant.passed (looked here c.lines.reader c.find_line.new.self _ _ c.find_line.ensures.kept c.find_line.ensures.counted c.find_line.ensures.still c.find_line.ensures.stays) in
    let short = subst (λ l. length l ≤ body_limit) c.in_ok-add_line.ensures.ok c.in_ok-add_line.ensures.short in
    let all = passed-passed [] [] from here (within c.args.heard.now.line.items longer) c.args.reader.now c.find_line.new.self c.pass-in-lines.new.self _ _ _ passed
    (body-passed c.in_ok-piece.piece c.args.heard.now.line.items c.lines.heard.body.items c.line-line.result.now c.find_line.new.self c.pass-in-lines.new.self _ c.in_ok-piece.ensures.found (omega arith) c.line-line.ensures (sym c.ends_body.ensures ∙ c.if-ends_body.false) short c.pass-in-lines.ensures) in
    record {
      passed = subst (λ (b : List ℕ). Passed from [] (within c.args.heard.now.line.items b) c.args.reader.now c.pass-in-lines.new.self (g.S.Source.left c.args.source.now) (g.S.Source.left c.find_line.new.source)) (sym c.in_ok-add_line.ensures.ok) all;
      kept = c.lines.invariant.kept;
      short = c.in_ok-add_line.ensures.short;
      fine = ap (λ (r : Reading). r.refused) c.pass-in-lines.ensures ∙ c.in_ok-piece.ensures.found.fine;
      knows = λ e. c.find_line.ensures.knows (sym (ap (λ (r : Reading). r.ended) c.pass-in-lines.ensures) ∙ e);
      beside = c.find_line.ensures.beside ∙ c.lines.invariant.beside;
      counted = omega arith;
    }
