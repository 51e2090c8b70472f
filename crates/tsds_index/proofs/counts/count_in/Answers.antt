use Rattle.std.proofs.Common.{[], refl, sym, to_z, of_z, w64}
use Rattle.std.proofs.lemmas.Int.{to_z-of_z}
use Rattle.std.proofs.lemmas.Option.{get_or_from_slice_get, slice_get_within}
use Rattle.index_segment.specs.Directory.{keys_of}
use Rattle.std.specs.Prelude.{slice_index_or}
use Rattle.tsds_index.proofs.Ranged.{none_in, range_length}
use Rattle.tsds_index.proofs.counts.count_in.Goals as goal

pub returns-in_default : goal.returns-in_default
returns-in_default c = sym (none_in c.args.key.now c.args.from c.args.to c.args.segment.now.rows c.schema-schema.ensures.rows.in_order (c.in_default.ensures.none refl))

pub range-range-requires : goal.range-range-requires
range-range-requires c = slice_get_within (keys_of c.args.segment.now.rows) c.in-Some.series c.args.key.now c.in-Some.ensures.some

pub returns : goal.returns
returns c =
    let keys = keys_of c.args.segment.now.rows in
    range_length c.args.key.now c.args.from c.args.to (to_z w64 (of_z w64 c.args.from)) (to_z w64 (of_z w64 c.args.to)) (slice_index_or keys c.in-Some.series []) c.args.segment.now.rows c.range-range.result.first c.range-range.result.last (to_z-of_z w64 c.args.from c.ranges.from) (to_z-of_z w64 c.args.to c.ranges.to) (get_or_from_slice_get keys c.in-Some.series c.args.key.now [] c.in-Some.ensures.some) c.range-range.ensures.is
