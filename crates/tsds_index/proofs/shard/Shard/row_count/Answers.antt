use Rattle.std.proofs.Common.{List, ap, arith, length, to_z, of_z, w64}
use Rattle.std.proofs.lemmas.List.{length-append}
use Rattle.index_segment.specs.Held.{Held}
use Rattle.tsds_index.specs.Segments.{lists_in}
use Rattle.tsds_index.specs.Spread.{newest_first}
use Rattle.tsds_index.proofs.Ranged.{fewer}
use Rattle.tsds_index.proofs.shard.Shard.row_count.Goals as goal

pub count_sealed-requires : goal.count_sealed-requires
count_sealed-requires c =
    let shard = c.args.self.now in
    omega (arith, c.requires, ap length c.rows_between-waiting.ensures, ap length c.rows.ensures.is, fewer c.args.key.now (to_z w64 (of_z w64 c.args.from)) (to_z w64 (of_z w64 c.args.to)) c.rows.result.now, length-append shard.buffer (newest_first (lists_in shard.sealed.items)), ap (λ (gs : List Held). length (newest_first (lists_in gs))) c.as_slice.ensures.value)
