use Rattle.std.proofs.Common.{rules, ◌≡◌, FitsSigned, refl}
use Rattle.std.specs.Int.{w64, w128}
use Rattle.std.proofs.lemmas.Int.{to_z-of_z}
use Rattle.histogram_aggs.proofs.metrics.dated_value.Goals as goal

pub returns : goal.returns
returns c =
    let fits : FitsSigned w128 c.in-Some.number = search rules in
    let short : FitsSigned w64 c.in-Ok.time = search rules in
    let same : c.in-Ok.time ≡ c.in-Some.number = search rules in
    rw (
      c.object.ensures,
      c.in_ok-members.ensures,
      c.in_ok-with.ensures,
      c.in_ok-with_capacity.ensures,
      c.in_ok-word.ensures,
      c.in-Some.is,
      to_z-of_z w128 c.in-Some.number fits,
      to_z-of_z w64 c.in-Ok.time short,
      same,
    ) refl
