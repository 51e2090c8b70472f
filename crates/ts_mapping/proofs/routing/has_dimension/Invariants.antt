use Rattle.std.proofs.Common.{◌≡◌, drop}
use Rattle.ts_mapping.specs.Fields.{dimension_paths}
use Rattle.ts_mapping.proofs.routing.has_dimension.Given as goal

abbrev pub invariant-loop-field : goal.invariant-loop-field
invariant-loop-field l = dimension_paths l.all ≡ dimension_paths (drop l.field-index l.all)
