use Rattle.std.proofs.Common.{sym}
use Rattle.time_text.specs.ShapeLaws.{has_shape-length}
use Rattle.time_text.proofs.shapes.has_shape.Goals as goal

pub returns-then-shape-text : goal.returns-then-shape-text
returns-then-shape-text c = sym (has_shape-length c.args.shape.now c.args.text.now c.if-shape-text.true)
