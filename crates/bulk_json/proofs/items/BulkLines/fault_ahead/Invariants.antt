use Rattle.std.proofs.Common.{◌≡◌, length}
use Rattle.bulk_json.specs.Lent.{HasRoom, ahead_in, fault_in}
use Rattle.bulk_json.proofs.items.BulkLines.fault_ahead.Given as goal

-- the same fault is ahead
abbrev pub invariant-loop-next : goal.invariant-loop-next
invariant-loop-next l = record {
  same : fault_in (ahead_in l.lines) ≡ fault_in (ahead_in l.fn.self);
  few : HasRoom l.lines;
}

abbrev pub decreases-loop-next : goal.decreases-loop-next
decreases-loop-next l = length l.lines.rest.now
