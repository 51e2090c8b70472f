use Rattle.std.proofs.Common.{ap, sym, subst, ◌∙◌, length}
use Rattle.index_segment.specs.Directory.{starts_from}
use Rattle.index_segment.specs.Columns.{ArePackable}
use Rattle.index_segment.specs.Held.{Held}
use Rattle.index_segment.specs.Merging.{sides}
use Rattle.index_segment.specs.Spelling.{counted}
use Rattle.index_segment.proofs.Built.{held_is, packs, segment_eq}
use Rattle.index_segment.proofs.Mended.{mends, keys_made, rows_made, sides_made, times_made, counts_made, columns_made, columns_packable, firsts_made, seconds_made, few_made, sizes_made, both_seen}
use Rattle.index_segment.proofs.segment.Segment.merge.Goals as goal

pub join_series-requires-clause-same : goal.join_series-requires-clause-same
join_series-requires-clause-same c =
    let s = c.self.inside in
    let m = mends _ _ _ _ _ _ _ _ _ _ _ _ _ _ _ _ _ _ c.self.view_is c.other.view_is c.self.invariant c.other.invariant c.requires.schema c.requires.apart c.requires.few in
    ap length (c.as_slice-2.ensures ∙ c.in_ok-sizes.ensures) ∙ (m.first_long ∙ sym (ap length c.as_slice.ensures))

pub join_series-requires-clause-same_too : goal.join_series-requires-clause-same_too
join_series-requires-clause-same_too c =
    let s = c.self.inside in
    let m = mends _ _ _ _ _ _ _ _ _ _ _ _ _ _ _ _ _ _ c.self.view_is c.other.view_is c.self.invariant c.other.invariant c.requires.schema c.requires.apart c.requires.few in
    ap length (c.as_slice-4.ensures ∙ c.in_ok-other_sizes.ensures) ∙ (m.second_long ∙ sym (ap length c.as_slice-3.ensures))

pub turns_of-requires-clause-first : goal.turns_of-requires-clause-first
turns_of-requires-clause-first c =
    let s = c.self.inside in
    let m = mends _ _ _ _ _ _ _ _ _ _ _ _ _ _ _ _ _ _ c.self.view_is c.other.view_is c.self.invariant c.other.invariant c.requires.schema c.requires.apart c.requires.few in
    firsts_made _ _ _ _ _ _ _ _ _ _ _ _ _ m _ _ (c.as_slice-5.ensures ∙ (c.in_ok-joined.ensures.rows ∙ rows_made _ _ _ _ _ _ _ _ _ _ _ _ _ m _ _ _ _ c.as_slice.ensures (c.as_slice-2.ensures ∙ c.in_ok-sizes.ensures) c.as_slice-3.ensures (c.as_slice-4.ensures ∙ c.in_ok-other_sizes.ensures))) (c.as_slice-6.ensures ∙ c.in_ok-times.ensures)

pub turns_of-requires-clause-second : goal.turns_of-requires-clause-second
turns_of-requires-clause-second c =
    let s = c.self.inside in
    let m = mends _ _ _ _ _ _ _ _ _ _ _ _ _ _ _ _ _ _ c.self.view_is c.other.view_is c.self.invariant c.other.invariant c.requires.schema c.requires.apart c.requires.few in
    seconds_made _ _ _ _ _ _ _ _ _ _ _ _ _ m _ _ (c.as_slice-5.ensures ∙ (c.in_ok-joined.ensures.rows ∙ rows_made _ _ _ _ _ _ _ _ _ _ _ _ _ m _ _ _ _ c.as_slice.ensures (c.as_slice-2.ensures ∙ c.in_ok-sizes.ensures) c.as_slice-3.ensures (c.as_slice-4.ensures ∙ c.in_ok-other_sizes.ensures))) (c.as_slice-7.ensures ∙ c.in_ok-other_times.ensures)

pub pick_columns-requires : goal.pick_columns-requires
pick_columns-requires c =
    let s = c.self.inside in
    let m = mends _ _ _ _ _ _ _ _ _ _ _ _ _ _ _ _ _ _ c.self.view_is c.other.view_is c.self.invariant c.other.invariant c.requires.schema c.requires.apart c.requires.few in
    record {
      same = ap length c.as_slice-13.ensures ∙ (m.columns_long ∙ sym (ap length c.as_slice-12.ensures));
      first = subst ArePackable (sym c.as_slice-12.ensures) m.packable_first;
      second = subst ArePackable (sym c.as_slice-13.ensures) m.packable_second;
      all = columns_packable _ _ _ _ _ _ _ _ _ _ _ _ _ m _ _ _ (ap sides c.as_slice-turns.ensures ∙ (c.in_ok-turns.ensures ∙ sides_made _ _ _ _ _ _ _ _ _ _ _ _ _ m _ _ _ (c.as_slice-5.ensures ∙ (c.in_ok-joined.ensures.rows ∙ rows_made _ _ _ _ _ _ _ _ _ _ _ _ _ m _ _ _ _ c.as_slice.ensures (c.as_slice-2.ensures ∙ c.in_ok-sizes.ensures) c.as_slice-3.ensures (c.as_slice-4.ensures ∙ c.in_ok-other_sizes.ensures))) (c.as_slice-6.ensures ∙ c.in_ok-times.ensures) (c.as_slice-7.ensures ∙ c.in_ok-other_times.ensures))) c.as_slice-12.ensures c.as_slice-13.ensures;
    }

pub directory_of_joined-requires : goal.directory_of_joined-requires
directory_of_joined-requires c =
    let s = c.self.inside in
    let m = mends _ _ _ _ _ _ _ _ _ _ _ _ _ _ _ _ _ _ c.self.view_is c.other.view_is c.self.invariant c.other.invariant c.requires.schema c.requires.apart c.requires.few in
    record { few = few_made _ _ _ _ _ _ _ _ _ _ _ _ _ m _ (c.in_ok-joined.ensures.rows ∙ rows_made _ _ _ _ _ _ _ _ _ _ _ _ _ m _ _ _ _ c.as_slice.ensures (c.as_slice-2.ensures ∙ c.in_ok-sizes.ensures) c.as_slice-3.ensures (c.as_slice-4.ensures ∙ c.in_ok-other_sizes.ensures)) }

pub invariant_of-result : goal.invariant_of-result
invariant_of-result c =
    let s = c.self.inside in
    let m = mends _ _ _ _ _ _ _ _ _ _ _ _ _ _ _ _ _ _ c.self.view_is c.other.view_is c.self.invariant c.other.invariant c.requires.schema c.requires.apart c.requires.few in
    let keys = c.in_ok-directory.ensures.keys ∙ (c.in_ok-joined.ensures.keys ∙ keys_made _ _ _ _ _ _ _ _ _ _ _ _ _ m _ _ _ _ c.as_slice.ensures (c.as_slice-2.ensures ∙ c.in_ok-sizes.ensures) c.as_slice-3.ensures (c.as_slice-4.ensures ∙ c.in_ok-other_sizes.ensures)) in
    let made = sizes_made _ _ _ _ _ _ _ _ _ _ _ _ _ m _ (c.in_ok-joined.ensures.rows ∙ rows_made _ _ _ _ _ _ _ _ _ _ _ _ _ m _ _ _ _ c.as_slice.ensures (c.as_slice-2.ensures ∙ c.in_ok-sizes.ensures) c.as_slice-3.ensures (c.as_slice-4.ensures ∙ c.in_ok-other_sizes.ensures)) in
    let starts = c.in_ok-directory.ensures.starts ∙ ap (starts_from 0) made in
    let sizes = c.in_ok-sizes-2.ensures ∙ (c.as_slice-14.ensures ∙ (c.in_ok-directory.ensures.sizes ∙ ap counted made)) in
    let turns = (ap sides c.as_slice-turns.ensures ∙ (c.in_ok-turns.ensures ∙ sides_made _ _ _ _ _ _ _ _ _ _ _ _ _ m _ _ _ (c.as_slice-5.ensures ∙ (c.in_ok-joined.ensures.rows ∙ rows_made _ _ _ _ _ _ _ _ _ _ _ _ _ m _ _ _ _ c.as_slice.ensures (c.as_slice-2.ensures ∙ c.in_ok-sizes.ensures) c.as_slice-3.ensures (c.as_slice-4.ensures ∙ c.in_ok-other_sizes.ensures))) (c.as_slice-6.ensures ∙ c.in_ok-times.ensures) (c.as_slice-7.ensures ∙ c.in_ok-other_times.ensures))) in
    let times = c.in_ok-times-2.ensures ∙ times_made _ _ _ _ _ _ _ _ _ _ _ _ _ m _ _ _ turns (c.as_slice-8.ensures ∙ c.in_ok-times.ensures) (c.as_slice-9.ensures ∙ c.in_ok-other_times.ensures) in
    let counts = c.in_ok-counts-2.ensures ∙ counts_made _ _ _ _ _ _ _ _ _ _ _ _ _ m _ _ _ turns (c.as_slice-10.ensures ∙ c.in_ok-counts.ensures) (c.as_slice-11.ensures ∙ c.in_ok-other_counts.ensures) in
    let columns = c.in_ok-columns.ensures ∙ columns_made _ _ _ _ _ _ _ _ _ _ _ _ _ m _ _ _ turns c.as_slice-12.ensures c.as_slice-13.ensures in
    packs s.schema _ _ _ _ _ _ _ _ m.mapped m.mended.rows_are c.in_ok-schema.ensures keys starts sizes times counts columns

pub returns : goal.returns
returns c =
    let s = c.self.inside in
    let m = mends _ _ _ _ _ _ _ _ _ _ _ _ _ _ _ _ _ _ c.self.view_is c.other.view_is c.self.invariant c.other.invariant c.requires.schema c.requires.apart c.requires.few in
    let keys = c.in_ok-directory.ensures.keys ∙ (c.in_ok-joined.ensures.keys ∙ keys_made _ _ _ _ _ _ _ _ _ _ _ _ _ m _ _ _ _ c.as_slice.ensures (c.as_slice-2.ensures ∙ c.in_ok-sizes.ensures) c.as_slice-3.ensures (c.as_slice-4.ensures ∙ c.in_ok-other_sizes.ensures)) in
    let made = sizes_made _ _ _ _ _ _ _ _ _ _ _ _ _ m _ (c.in_ok-joined.ensures.rows ∙ rows_made _ _ _ _ _ _ _ _ _ _ _ _ _ m _ _ _ _ c.as_slice.ensures (c.as_slice-2.ensures ∙ c.in_ok-sizes.ensures) c.as_slice-3.ensures (c.as_slice-4.ensures ∙ c.in_ok-other_sizes.ensures)) in
    let starts = c.in_ok-directory.ensures.starts ∙ ap (starts_from 0) made in
    let sizes = c.in_ok-sizes-2.ensures ∙ (c.as_slice-14.ensures ∙ (c.in_ok-directory.ensures.sizes ∙ ap counted made)) in
    let turns = (ap sides c.as_slice-turns.ensures ∙ (c.in_ok-turns.ensures ∙ sides_made _ _ _ _ _ _ _ _ _ _ _ _ _ m _ _ _ (c.as_slice-5.ensures ∙ (c.in_ok-joined.ensures.rows ∙ rows_made _ _ _ _ _ _ _ _ _ _ _ _ _ m _ _ _ _ c.as_slice.ensures (c.as_slice-2.ensures ∙ c.in_ok-sizes.ensures) c.as_slice-3.ensures (c.as_slice-4.ensures ∙ c.in_ok-other_sizes.ensures))) (c.as_slice-6.ensures ∙ c.in_ok-times.ensures) (c.as_slice-7.ensures ∙ c.in_ok-other_times.ensures))) in
    let times = c.in_ok-times-2.ensures ∙ times_made _ _ _ _ _ _ _ _ _ _ _ _ _ m _ _ _ turns (c.as_slice-8.ensures ∙ c.in_ok-times.ensures) (c.as_slice-9.ensures ∙ c.in_ok-other_times.ensures) in
    let counts = c.in_ok-counts-2.ensures ∙ counts_made _ _ _ _ _ _ _ _ _ _ _ _ _ m _ _ _ turns (c.as_slice-10.ensures ∙ c.in_ok-counts.ensures) (c.as_slice-11.ensures ∙ c.in_ok-other_counts.ensures) in
    let columns = c.in_ok-columns.ensures ∙ columns_made _ _ _ _ _ _ _ _ _ _ _ _ _ m _ _ _ turns c.as_slice-12.ensures c.as_slice-13.ensures in
    segment_eq _ _ _ _ (c.in_ok-schema.ensures ∙ ap (λ (h : Held). h.schema) c.self.view_is)
    (held_is s.schema c.in_ok-schema.schema _ c.in_ok-directory.directory.keys c.in_ok-directory.directory.starts c.in_ok-sizes-2.sizes c.in_ok-times-2.times c.in_ok-counts-2.counts c.in_ok-columns.columns m.mapped m.mended.rows_are c.in_ok-schema.ensures keys starts sizes times counts columns
    ∙ both_seen _ _ _ _ (ap (λ (h : Held). h.rows) c.self.view_is) (ap (λ (h : Held). h.rows) c.other.view_is))
