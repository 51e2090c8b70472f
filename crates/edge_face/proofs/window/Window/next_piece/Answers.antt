use Rattle.std.proofs.Common.{◌≡◌, ◌∙◌, ◌==◌, ◌+◌, ◌<◌, length, take, subst, sym, Ok, arith, ap, true}
use Rattle.std.specs.Io.BufRead.{strip_last}
use Rattle.edge_face.specs.Waiting.{Waiting, Grew}
use Rattle.edge_face.specs.Lines.{HasNoNewline}
use Rattle.edge_face.proofs.LinesLemmas.{shows-newline, shows-end, newline-short}
use Rattle.edge_face.proofs.WindowLemmas.{grew-grew}
use Rattle.edge_face.proofs.window.Window.next_piece.Goals as goal

pub overflow_add-result : goal.overflow_add-result
overflow_add-result g c = omega (arith, c.in-Some.ensures.within)

pub returns-in-Some-clause-short : goal.returns-in-Some-clause-short
returns-in-Some-clause-short g c =
    let short : length (strip_last 10 (take (c.in-Some.at + 1) c.loop-at.self.bytes)) < c.loop-at.self.capacity = omega (arith, newline-short c.loop-at.self.bytes c.in-Some.at c.in-Some.ensures.first, c.newline.ensures.held) in
    subst (λ (v : Waiting). length (strip_last 10 (take (c.in-Some.at + 1) v.bytes)) < v.capacity) (sym c.newline.ensures.kept) short

pub returns-in-Some-clause-shown : goal.returns-in-Some-clause-shown
returns-in-Some-clause-shown g c =
    rw c.newline.ensures.kept (shows-newline _ c.in-Some.at _ (g.S.Source.left c.loop-at.source) c.in-Some.ensures.first)

pub returns-then-has_ended-clause-shown : goal.returns-then-has_ended-clause-shown
returns-then-has_ended-clause-shown g c =
    let none : HasNoNewline c.newline.new.self.bytes = subst (λ (v : Waiting). HasNoNewline v.bytes) (sym c.newline.ensures.kept) c.in_default.ensures.first in
    let ended : c.newline.new.self.ended ≡ true = sym c.has_ended.ensures ∙ c.if-has_ended.true in
    let at_end = c.loop-at.invariant.knows (sym (ap (λ (v : Waiting). v.ended) c.newline.ensures.kept) ∙ ended) in
    rw c.len.ensures.len (shows-end c.newline.new.self.bytes c.newline.new.self.ended (g.S.Source.left c.loop-at.source) ended none at_end)

pub returns-in-Ok-eq0-clause-shown : goal.returns-in-Ok-eq0-clause-shown
returns-in-Ok-eq0-clause-shown g c =
    let at_end = c.fill.ensures.end (c.in-Ok-eq0.is ∙ ap Ok c.in-Ok-eq0.field-0-test) in
    let same = c.fill.ensures.same (c.in-Ok-eq0.is ∙ ap Ok c.in-Ok-eq0.field-0-test) ∙ ap (λ (v : Waiting). v.bytes) c.newline.ensures.kept in
    let none : HasNoNewline c.fill.new.self.bytes = subst HasNoNewline (sym same) c.in_default.ensures.first in
    let ended : c.fill.new.self.ended ≡ true = c.in-Ok-eq0.ensures.ended ∙ ap (λ n. n == 0) c.in-Ok-eq0.field-0-test in
    rw c.len-in-Ok-eq0.ensures.len (shows-end c.fill.new.self.bytes c.fill.new.self.ended (g.S.Source.left c.fill.new.source) ended none at_end)

pub returns-in-Err-clause-grew : goal.returns-in-Err-clause-grew
returns-in-Err-clause-grew g c =
    grew-grew c.args.self.now.bytes c.loop-at.self.bytes _ _ _ _ c.loop-at.invariant.grew
    (subst (λ (v : Waiting). Grew v.bytes c.fill.new.self.bytes (g.S.Source.left c.loop-at.source) (g.S.Source.left c.fill.new.source)) c.newline.ensures.kept c.fill.ensures.grew)
