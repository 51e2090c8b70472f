use Rattle.std.proofs.Common.{◌≡◌, drop, length}
use Rattle.time_text.specs.Shape as Shape
use Rattle.time_text.proofs.shapes.has_shape.Given as goal

abbrev pub invariant-loop-place : goal.invariant-loop-place
invariant-loop-place l = record {
  long : length l.shape ≡ length l.text;
  rest : Shape.has_shape l.shape l.text ≡ Shape.has_shape (drop l.place l.shape) (drop l.place l.text);
}
