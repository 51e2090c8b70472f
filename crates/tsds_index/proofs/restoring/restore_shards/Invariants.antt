use Rattle.std.proofs.Common.{◌≡◌, ◌∷◌, ◌++◌, [], map}
use Rattle.std.specs.Vec.Iter.{into_iter_items}
use Rattle.row_cells.specs.Each.{Each}
use Rattle.index_segment.specs.Held.{Held}
use Rattle.tsds_index.specs.declared.shard.Shard.{Shard}
use Rattle.tsds_index.proofs.restoring.restore_shards.Given as goal

abbrev pub invariant-loop-segment : goal.invariant-loop-segment
invariant-loop-segment l = record {
  sealed : map (λ (shard : Shard). shard.sealed.items) l.made.items ++ map (λ (segment : Held). segment ∷ []) (into_iter_items l.segment-iterator) ≡ map (λ (segment : Held). segment ∷ []) (into_iter_items l.initial.segment-iterator);
  buffers : Each (λ shard. shard.buffer ≡ []) l.made.items;
}
