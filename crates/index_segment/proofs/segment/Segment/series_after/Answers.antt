use Rattle.std.proofs.Common.{sym, subst, ◌∙◌}
use Rattle.index_segment.specs.Order.{Ascend}
use Rattle.index_segment.proofs.Series.{ascend_at, keys_ascend}
use Rattle.index_segment.proofs.segment.Segment.series_after.Goals as goal

pub place_behind-requires : goal.place_behind-requires
place_behind-requires c = subst Ascend (sym (c.as_slice-keys.ensures ∙ c.self.invariant.keys_are)) (ascend_at _ (keys_ascend _ c.self.invariant.rows_are.in_order))
