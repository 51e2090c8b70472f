use Rattle.std.proofs.Common.{◌++◌, ap}
use Rattle.index_segment.specs.Spelling.{head_bytes}
use Rattle.index_segment.proofs.Written.{joined_four}
use Rattle.index_segment.proofs.write.put_front.Goals as goal

pub returns : goal.returns
returns c = (
  head_bytes c.len.result c.args.keys.now ++ (c.bytes.result.now ++ (c.bytes-2.result.now ++ c.bytes-3.result.now)),
  record { size_bytes = c.bytes.result.now; time_bytes = c.bytes-2.result.now; count_bytes = c.bytes-3.result.now; sizes_are = c.bytes.ensures.spelled; times_are = c.bytes-2.ensures.spelled; counts_are = c.bytes-3.ensures.spelled; joined = ap (λ n. head_bytes n c.args.keys.now ++ (c.bytes.result.now ++ (c.bytes-2.result.now ++ c.bytes-3.result.now))) c.len.ensures },
  joined_four c.args.into.now.items c.put_head.new.into.items c.extend_from_slice.new.self.items c.extend_from_slice-2.new.self.items c.extend_from_slice-3.new.self.items _ _ _ _ c.in_ok-put_head.ensures c.in_ok-extend_from_slice.ensures.items c.in_ok-extend_from_slice-2.ensures.items c.in_ok-extend_from_slice-3.ensures.items,
)
