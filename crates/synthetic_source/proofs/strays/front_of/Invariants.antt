use Rattle.synthetic_source.specs.Fronts.{IsClear}
use Rattle.synthetic_source.proofs.strays.front_of.Given as goal

abbrev pub invariant-loop-place : goal.invariant-loop-place
invariant-loop-place l = IsClear l.fields l.path l.place
