use Rattle.std.proofs.Common.{sym, subst}
use Rattle.index_segment.specs.Order.{Ascend}
use Rattle.index_segment.proofs.Places.{ascending}
use Rattle.index_segment.proofs.segment.Segment.series.Goals as goal

pub place_of-requires : goal.place_of-requires
place_of-requires c = subst Ascend (sym c.as_slice.ensures) (ascending _ _ _ _ _ _ _ _ c.self.invariant)
