use Rattle.std.proofs.Common.{◌≡◌, drop}
use Rattle.ts_mapping.specs.Agreeing.{from_path}
use Rattle.ts_mapping.proofs.agreeing.from_path.Given as goal

abbrev pub invariant-loop-place : goal.invariant-loop-place
invariant-loop-place l = from_path l.path l.fields ≡ from_path l.path (drop l.place l.fields)
