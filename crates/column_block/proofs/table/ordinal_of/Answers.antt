use Rattle.std.proofs.Common.{◌∙◌, sym, arith, ◌+◌, ◌-◌, ◌<◌, ◌/◌, length}
use Rattle.column_block.proofs.Tabling.{stands, search-less, search-more, search-same}
use Rattle.column_block.proofs.table.ordinal_of.Goals as goal

pub loop-low-init : goal.loop-low-init
loop-low-init c = record { low = omega arith; high = (stands c.args.texts.now c.args.text.now c.requires.held).within; within = omega arith }

pub loop-low-preserved-in-Less : goal.loop-low-preserved-in-Less
loop-low-preserved-in-Less c =
    let l = c.loop-low in
    let m = l.low + (l.high - l.low) / 2 in
    let inside : m < length c.args.texts.now = omega (arith, c.loop-low-test.true, l.invariant.within) in
    record { low = l.invariant.low; high = search-less c.args.texts.now c.args.text.now c.index-texts-middle.result m c.requires.ascend c.requires.held inside c.index-texts-middle.is (sym c.cmp.ensures ∙ c.in-Less.is); within = omega (arith, inside) }

pub loop-low-preserved-in-Equal : goal.loop-low-preserved-in-Equal
loop-low-preserved-in-Equal c =
    let l = c.loop-low in
    let m = l.low + (l.high - l.low) / 2 in
    let inside : m < length c.args.texts.now = omega (arith, c.loop-low-test.true, l.invariant.within) in
    record { low = omega (arith, search-same c.args.texts.now c.args.text.now c.index-texts-middle.result m c.requires.ascend inside c.index-texts-middle.is (sym c.cmp.ensures ∙ c.in-Equal.is)); high = l.invariant.high; within = l.invariant.within }

pub loop-low-preserved : goal.loop-low-preserved
loop-low-preserved c =
    let l = c.loop-low in
    let m = l.low + (l.high - l.low) / 2 in
    let inside : m < length c.args.texts.now = omega (arith, c.loop-low-test.true, l.invariant.within) in
    record { low = omega (arith, search-more c.args.texts.now c.args.text.now c.index-texts-middle.result m c.requires.ascend c.requires.held inside c.index-texts-middle.is (sym c.cmp.ensures ∙ c.in-Greater.is)); high = l.invariant.high; within = l.invariant.within }
