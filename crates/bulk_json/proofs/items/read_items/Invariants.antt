use Rattle.std.proofs.Common.{◌≡◌, length}
use Rattle.bulk_json.specs.Items.{onto}
use Rattle.bulk_json.specs.Lent.{ahead_in, path_in, HasRoom}
use Rattle.bulk_json.specs.Sound.{AreItems, IsPath}
use Rattle.bulk_json.proofs.items.read_items.Given as goal

-- the items so far, and those that are ahead, are all
abbrev pub invariant-loop-items : goal.invariant-loop-items
invariant-loop-items l = record {
  all : onto l.items.items (ahead_in l.lines) ≡ ahead_in l.fn.start;
  sound : IsPath (path_in l.fn.start) → AreItems l.items.items;
  path : path_in l.lines ≡ path_in l.fn.start;
  few : HasRoom l.lines;
}

abbrev pub decreases-loop-items : goal.decreases-loop-items
decreases-loop-items l = length l.lines.rest.now
