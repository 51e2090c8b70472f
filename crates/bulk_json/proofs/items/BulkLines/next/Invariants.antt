use Rattle.std.proofs.Common.{◌≡◌, ◌≤◌, ◌+◌, length}
use Rattle.bulk_json.specs.Lent.{ahead_in, path_in}
use Rattle.bulk_json.proofs.items.BulkLines.next.Given as goal

-- no item stands before what is left
abbrev pub invariant-loop-lines : goal.invariant-loop-lines
invariant-loop-lines l = record {
  all : ahead_in l.lines ≡ ahead_in l.fn.self;
  path : path_in l.lines ≡ path_in l.fn.self;
  shorter : length l.lines.rest.now ≤ length l.fn.self.rest.now;
  few : l.lines.number + length l.lines.rest.now ≤ l.fn.self.number + length l.fn.self.rest.now;
}

abbrev pub decreases-loop-lines : goal.decreases-loop-lines
decreases-loop-lines l = length l.lines.rest.now
