use Rattle.std.proofs.Common.{refl}
use Rattle.std.specs.Int.{w128}
use Rattle.std.proofs.lemmas.Int.{to_z-of_z}
use Rattle.histogram_aggs.proofs.pieces.terms_out.Goals as goal

pub returns : goal.returns
returns c =
    rw (
      c.object.ensures,
      c.in_ok-members.ensures,
      c.in_ok-with-2.ensures,
      c.in_ok-with.ensures,
      c.in_ok-with_capacity.ensures,
      c.list.ensures,
      to_z-of_z w128 c.args.other c.ranges.other,
    ) refl
