use Rattle.std.proofs.Common.{◌≡◌, ◌++◌}
use Rattle.std.specs.Map.{keys_of}
use Rattle.edge_face.proofs.memory.shelf.keys_in.Given as goal

-- the keys that were copied, and then those that are left
abbrev pub invariant-loop-key : goal.invariant-loop-key
invariant-loop-key l = l.keys.items ++ l.key-iterator ≡ keys_of l.entries.entries
