use Rattle.std.proofs.Common.{arith, length, ◌<◌, ◌/◌}
use Rattle.column_block.specs.Presence.{flags_in}
use Rattle.column_block.proofs.Presences.{ones-few, length-flags}
use Rattle.column_block.proofs.presence.count_before.Goals as goal

pub returns-clause-few : goal.returns-clause-few
returns-clause-few c =
    let k = c.args.row / 128 in
    let inside : k < length c.args.counts.now = omega (arith, c.requires.counts.count, c.requires.within) in
    omega (arith, c.requires.counts.each k inside, c.count_between.ensures.count, ones-few (flags_in c.args.row c.args.bytes.now), length-flags c.args.row c.args.bytes.now)

pub overflow_add-result : goal.overflow_add-result
overflow_add-result c =
    let k = c.args.row / 128 in
    let inside : k < length c.args.counts.now = omega (arith, c.requires.counts.count, c.requires.within) in
    record { fits = omega (arith, c.ranges.row.fits, c.requires.counts.each k inside, c.count_between.ensures.count, ones-few (flags_in c.args.row c.args.bytes.now), length-flags c.args.row c.args.bytes.now) }
