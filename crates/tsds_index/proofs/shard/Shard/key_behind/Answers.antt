use Rattle.std.proofs.Common.{List, ap, refl}
use Rattle.std.specs.Option.{option_copied}
use Rattle.index_segment.specs.Held.{Held}
use Rattle.tsds_index.specs.Segments.{lists_in}
use Rattle.tsds_index.specs.Spread.{newest_first}
use Rattle.tsds_index.proofs.Nexts.{two_next}
use Rattle.tsds_index.proofs.shard.Shard.key_behind.Goals as goal

pub returns : goal.returns
returns c =
    let shard = c.args.self.now in
    two_next (option_copied c.args.before) c.rows.result.now shard.buffer (newest_first (lists_in c.as_slice.result.now)) (newest_first (lists_in shard.sealed.items)) (option_copied c.key_behind-waiting.result) (option_copied c.next_sealed-sealed.result) (option_copied c.lesser.result) (option_copied c.key_behind-waiting.result) c.rows.ensures.is c.rows.ensures.in_order c.key_behind-waiting.ensures refl (ap (λ (gs : List Held). newest_first (lists_in gs)) c.as_slice.ensures.value) c.next_sealed-sealed.ensures c.lesser.ensures
