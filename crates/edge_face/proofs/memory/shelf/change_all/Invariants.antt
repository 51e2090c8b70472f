use Rattle.std.proofs.Common.{◌≡◌, drop}
use Rattle.edge_face.specs.Table.{changed_by}
use Rattle.edge_face.proofs.memory.shelf.change_all.Given as goal

-- the changes that are left lead from the entries now to what all lead to
abbrev pub invariant-loop-one : goal.invariant-loop-one
invariant-loop-one l = changed_by l.entries.entries (drop l.one-index l.changes) ≡ changed_by l.fn.entries.entries l.changes
