use Rattle.std.proofs.Common.{◌≡◌, ◌||◌, ℕ, List, drop}
use Rattle.ts_mapping.specs.Fields.{dimension_paths}
use Rattle.ts_mapping.specs.Paths.{is_among}
use Rattle.ts_mapping.proofs.routing.dimensions.Given as goal

abbrev pub invariant-loop-field : goal.invariant-loop-field
invariant-loop-field l = (q : List ℕ) → (is_among q l.paths || is_among q (dimension_paths (drop l.field-index l.all))) ≡ is_among q (dimension_paths l.all)
