use Rattle.std.proofs.Common.{ap, ◌∙◌, w64}
use Rattle.std.specs.Prelude.{position}
use Rattle.std.proofs.lemmas.Int.{to_z-of_z}
use Rattle.index_segment.specs.Looks.{is_at}
use Rattle.tsds_index.proofs.looks.find_with.Goals as goal

pub returns : goal.returns
returns g c = c.find.ensures.found ∙ ap (λ t. position (is_at c.args.key.now t) c.args.segment.now.rows) (to_z-of_z w64 c.args.time c.ranges.time)
