use Rattle.std.proofs.Common.{◌≡◌, ◌||◌, ℕ, List, drop}
use Rattle.ts_mapping.specs.Checks.{field_paths}
use Rattle.ts_mapping.specs.Paths.{is_among}
use Rattle.ts_mapping.proofs.checks.paths_of.Given as goal

abbrev pub invariant-loop-field : goal.invariant-loop-field
invariant-loop-field l = (q : List ℕ) → (is_among q l.paths || is_among q (field_paths (drop l.field-index l.fields))) ≡ is_among q (field_paths l.fields)
