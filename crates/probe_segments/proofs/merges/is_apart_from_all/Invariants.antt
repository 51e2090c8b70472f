use Rattle.std.proofs.Common.{◌↔◌, drop}
use Rattle.probe_segments.specs.Apart.{IsApartFromAll}
use Rattle.probe_segments.proofs.merges.is_apart_from_all.Given as goal

abbrev pub invariant-loop-other : goal.invariant-loop-other
invariant-loop-other l = IsApartFromAll l.others l.row ↔ IsApartFromAll (drop l.other-index l.others) l.row
