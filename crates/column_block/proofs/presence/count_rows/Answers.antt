use Rattle.std.proofs.Common.{◌≡◌, ap, sym, arith, length, ℕ, List}
use Rattle.column_block.proofs.Presences.{no-ones}
use Rattle.column_block.proofs.presence.count_rows.Goals as goal

pub loop-group-init : goal.loop-group-init
loop-group-init c =
    let none : length c.in_ok-counts.counts.items ≡ 0 = ap (λ (z : List ℕ). length z) c.in_ok-counts.ensures.items in
    record { count = sym (no-ones c.args.bytes.now); few = omega arith; long = none; each = λ k h. absurd (omega arith) }
