use Rattle.std.proofs.Common.{◌<◌, ◌^◌, sym, subst, ◌∙◌, length}
use Rattle.index_segment.specs.Held.{Held}
use Rattle.index_segment.specs.Spelling.{AreColumns, IsFrontOf, IsSegmentOf}
use Rattle.index_segment.proofs.Written.{joined_two}
use Rattle.index_segment.proofs.Writing.{keys_few, times_few, written}
use Rattle.index_segment.proofs.segment.Segment.bytes.Goals as goal

pub put_front-requires-clause-few_rows : goal.put_front-requires-clause-few_rows
put_front-requires-clause-few_rows c = times_few _ _ _ _ _ _ _ _ c.self.invariant

pub put_front-requires-clause-few_series : goal.put_front-requires-clause-few_series
put_front-requires-clause-few_series c = subst (λ keys. length keys < 2 ^ 32) (sym c.as_slice.ensures) (keys_few _ _ _ _ _ _ _ _ c.self.invariant)

pub returns : goal.returns
returns c =
    let s = c.self.inside in
    let front = c.in_ok-put_front.ensures in
    let back = c.in_ok-put_columns.ensures in
    subst (λ (h : Held). IsSegmentOf h.schema h.rows c.from_vec.result) c.self.view_is
    (written _ _ _ _ _ _ _ _ c.self.invariant c.from_vec.result front.0 back.0
    (subst (λ keys. IsFrontOf (length s.times) keys s.sizes s.times s.counts front.0) c.as_slice.ensures front.1)
    (subst (λ columns. AreColumns columns back.0) c.as_slice-2.ensures back.1)
    (c.from_vec.ensures ∙ joined_two _ _ _ _ c.new-bytes.ensures.items front.2 back.2))
