use Rattle.std.proofs.Common.{◌<◌, ◌+◌, ◌-◌, ◌/◌, arith, length, refl, sym, ◌∙◌, to_z, of_z, w64}
use Rattle.std.proofs.lemmas.Option.{slice_get_read}
use Rattle.tsds_index.specs.Places.{place_row}
use Rattle.tsds_index.proofs.Ranged.{behind_from, none_up_to}
use Rattle.tsds_index.proofs.counts.place_up_to.Goals as goal

pub loop-low-preserved-in-Less : goal.loop-low-preserved-in-Less
loop-low-preserved-in-Less c =
    let rows = c.args.rows.now in
    let middle = c.loop-low.low + (c.loop-low.high - c.loop-low.low) / 2 in
    let there : middle < length rows = omega arith in
    let row = c.index-rows-middle.result in
    record {
      ordered = omega arith;
      within = omega arith;
      before = c.loop-low.invariant.before;
      behind = behind_from (place_row c.args.key.now (to_z w64 (of_z w64 c.args.time))) row rows middle c.requires (slice_get_read rows (length rows) middle row refl there c.index-rows-middle.is) (sym c.in-Less.ensures);
    }

pub loop-low-preserved : goal.loop-low-preserved
loop-low-preserved c =
    let rows = c.args.rows.now in
    let middle = c.loop-low.low + (c.loop-low.high - c.loop-low.low) / 2 in
    let there : middle < length rows = omega arith in
    let row = c.index-rows-middle.result in
    record {
      ordered = omega arith;
      within = c.loop-low.invariant.within;
      before = none_up_to (place_row c.args.key.now (to_z w64 (of_z w64 c.args.time))) row rows middle (middle + 1) (omega arith) c.requires (slice_get_read rows (length rows) middle row refl there c.index-rows-middle.is) (λ less. c.in_default.not-Less (c.order_to.ensures ∙ less));
      behind = c.loop-low.invariant.behind;
    }
