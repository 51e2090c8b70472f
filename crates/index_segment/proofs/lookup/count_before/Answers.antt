use Rattle.std.proofs.Common.{◌<◌, ◌+◌, ◌-◌, ◌/◌, arith, length, sym, ◌∙◌}
use Rattle.index_segment.proofs.Found.{all_before, all_behind, item_order}
use Rattle.index_segment.proofs.lookup.count_before.Goals as goal

pub loop-low-preserved-in-Less : goal.loop-low-preserved-in-Less
loop-low-preserved-in-Less c =
    let keys = c.args.keys.now in
    let middle = c.loop-low.low + (c.loop-low.high - c.loop-low.low) / 2 in
    let there : middle < length keys = omega arith in
    record {
      ordered = omega arith;
      within = c.loop-low.invariant.within;
      before = all_before keys c.args.key.now c.requires middle there (sym (item_order keys c.args.key.now c.requires middle c.index-keys-middle.result c.cmp.result c.index-keys-middle.is there c.cmp.ensures) ∙ c.in-Less.is);
      behind = c.loop-low.invariant.behind;
    }

pub loop-low-preserved : goal.loop-low-preserved
loop-low-preserved c =
    let keys = c.args.keys.now in
    let middle = c.loop-low.low + (c.loop-low.high - c.loop-low.low) / 2 in
    let there : middle < length keys = omega arith in
    record {
      ordered = omega arith;
      within = omega arith;
      before = c.loop-low.invariant.before;
      behind = all_behind keys c.args.key.now c.requires middle (λ less. c.in_default.not-Less (item_order keys c.args.key.now c.requires middle c.index-keys-middle.result c.cmp.result c.index-keys-middle.is there c.cmp.ensures ∙ less));
    }
