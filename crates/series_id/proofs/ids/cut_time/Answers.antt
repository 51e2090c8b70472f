use Rattle.std.proofs.Common.{arith}
use Rattle.std.proofs.lemmas.Int.{ints}
use Rattle.series_id.proofs.Cut.{time_read}
use Rattle.series_id.proofs.ids.cut_time.Goals as goal

pub returns-clause-some : goal.returns-clause-some
returns-clause-some c =
    let cut = c.in_ok-key.ensures.cases in
    time_read c.args.bytes.now c.in_ok-key.key.now c.in_ok-key.time.now c.from_be_bytes-time.result cut.0 cut.1 cut.2 (λ i. omega (arith, c.type_inv.bytes i)) c.from_be_bytes-time.ensures (omega (arith, ints, c.if-time.false))
