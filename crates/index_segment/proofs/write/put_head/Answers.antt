use Rattle.std.proofs.Common.{◌++◌, ap, ◌∙◌}
use Rattle.index_segment.proofs.Written.{joined_four}
use Rattle.index_segment.proofs.write.put_head.Goals as goal

pub returns : goal.returns
returns c = joined_four c.args.into.now.items c.extend_from_slice.new.self.items c.extend_from_slice-2.new.self.items c.extend_from_slice-3.new.self.items c.put_keys.new.into.items _ _ _ _ c.in_ok-extend_from_slice.ensures.items (c.in_ok-extend_from_slice-2.ensures.items ∙ ap (λ x. c.extend_from_slice.new.self.items ++ x) c.to_be_bytes.ensures) (c.in_ok-extend_from_slice-3.ensures.items ∙ ap (λ x. c.extend_from_slice-2.new.self.items ++ x) c.to_be_bytes-2.ensures) c.in_ok-put_keys.ensures
