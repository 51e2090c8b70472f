use Rattle.std.proofs.Common.{◌≡◌, drop}
use Rattle.histogram_aggs.specs.Reading.{place_from}
use Rattle.histogram_aggs.proofs.saying.place_of.Given as goal

-- no field before this one has the path
abbrev pub invariant-loop-at : goal.invariant-loop-at
invariant-loop-at l = place_from 0 l.fields l.path ≡ place_from l.at (drop l.at l.fields) l.path
