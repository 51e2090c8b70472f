use Rattle.std.proofs.Common.{◌≡◌, sym, subst, ◌∙◌, IsSomeAnd}
use Rattle.index_segment.specs.Held.{Held}
use Rattle.index_segment.specs.Spelling.{IsSegmentOf}
use Rattle.index_segment.proofs.Alike.{one_segment}
use Rattle.index_segment.proofs.Runs.{bytes_eq_differ}
use Rattle.index_segment.proofs.segment.Segment.read_whole.Goals as goal

pub returns-then-not-are_same-clause-none : goal.returns-then-not-are_same-clause-none
returns-then-not-are_same-clause-none c none rows is =
    let made = subst (λ o. IsSomeAnd o (λ made. made.items ≡ rows)) c.in-Some.is (c.in_ok-rows.ensures.all rows is) in
    let spelled = subst (λ (h : Held). IsSegmentOf h.schema h.rows c.in_ok-spelled.spelled) c.in_ok-segment.ensures c.in_ok-spelled.ensures in
    let again = subst (λ rs. IsSegmentOf c.args.schema.now rs c.in_ok-spelled.spelled) (c.as_slice.ensures.value ∙ made) spelled in
    let same = one_segment c.one_spelling.ensures.column c.args.schema.now rows c.in_ok-spelled.spelled c.args.bytes.now again is in
    bytes_eq_differ c.as_slice-2.result.now c.args.bytes.now (sym c.are_same.ensures ∙ c.if-not-are_same.true) (c.as_slice-2.ensures ∙ same)
