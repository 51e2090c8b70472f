use Rattle.std.proofs.Common.{◌∙◌, ℕ, List, [], arith, sym, subst, ap}
use Rattle.std.specs.Prelude.{IfErr}
use Rattle.std.proofs.lemmas.Result.{err_from_is_err_and}
use Rattle.edge_face.specs.Reading.{Reading}
use Rattle.tsds_cli.specs.Script.{is_skipped, between}
use Rattle.tsds_cli.specs.Ahead.{Stopped, opened, opens}
use Rattle.tsds_cli.proofs.PassLemmas.{passed-passed, looked, stopped-line, open-passed, skip-passed}
use Rattle.tsds_cli.proofs.script.next_opening.Goals as goal

pub returns-in_err-piece-clause-stopped : goal.returns-in_err-piece-clause-stopped
returns-in_err-piece-clause-stopped g c =
    let answer = err_from_is_err_and c.from_residual.result c.from_residual.ensures.1 in
    let passed = passed-passed [] [] between between between c.args.reader.now c.lines.reader c.find_line.new.self _ _ _ c.lines.invariant.passed (looked between c.lines.reader c.find_line.new.self _ _ c.find_line.ensures.kept c.find_line.ensures.counted c.find_line.ensures.still c.find_line.ensures.stays) in
    let stopped = stopped-line between between c.in_err-piece.field-0.0 c.args.reader.now c.find_line.new.self _ _ _ _ passed c.find_line.ensures.within (c.in_err-piece.ensures.cause c.lines.invariant.fine) in
    let there = subst (λ e. Stopped between e c.args.reader.now c.find_line.new.self (g.S.Source.left c.args.source.now) (g.S.Source.left c.find_line.new.source)) (sym answer.2) stopped in
    subst (λ r. IfErr r (λ e. Stopped between e c.args.reader.now c.find_line.new.self (g.S.Source.left c.args.source.now) (g.S.Source.left c.find_line.new.source))) (sym answer.1) there

pub returns-then-not-is_skipped-clause-found : goal.returns-then-not-is_skipped-clause-found
returns-then-not-is_skipped-clause-found g c =
    let passed = passed-passed [] [] between between between c.args.reader.now c.lines.reader c.find_line.new.self _ _ _ c.lines.invariant.passed (looked between c.lines.reader c.find_line.new.self _ _ c.find_line.ensures.kept c.find_line.ensures.counted c.find_line.ensures.still c.find_line.ensures.stays) in
    let o = c.in_ok-opening.opening in
    let text : List ℕ = c.read_opening.new.into.items in
    passed-passed [] (opened o text) between between (opens o text) c.args.reader.now c.find_line.new.self c.pass.new.self _ _ _ passed
    (open-passed c.in_ok-piece.piece o text c.line-line.result.now c.find_line.new.self c.pass.new.self _ c.in_ok-piece.ensures.found (omega arith) c.line-line.ensures c.in_ok-opening.ensures.events c.in_ok-opening.ensures.place c.pass.ensures)

pub lines-preserved : goal.lines-preserved
lines-preserved g c =
    let passed = passed-passed [] [] between between between c.args.reader.now c.lines.reader c.find_line.new.self _ _ _ c.lines.invariant.passed (looked between c.lines.reader c.find_line.new.self _ _ c.find_line.ensures.kept c.find_line.ensures.counted c.find_line.ensures.still c.find_line.ensures.stays) in
    record {
      passed = passed-passed [] [] between between between c.args.reader.now c.find_line.new.self c.pass-in-lines.new.self _ _ _ passed
          (skip-passed c.in_ok-piece.piece c.find_line.new.self c.pass-in-lines.new.self _ c.in_ok-piece.ensures.found (omega arith)
          (ap is_skipped (sym c.line-line.ensures) ∙ sym c.is_skipped.ensures ∙ c.if-not-is_skipped.false) c.pass-in-lines.ensures);
      fine = ap (λ (r : Reading). r.refused) c.pass-in-lines.ensures ∙ c.in_ok-piece.ensures.found.fine;
      knows = λ e. c.find_line.ensures.knows (sym (ap (λ (r : Reading). r.ended) c.pass-in-lines.ensures) ∙ e);
      beside = c.find_line.ensures.beside ∙ c.lines.invariant.beside;
      counted = omega arith;
    }
