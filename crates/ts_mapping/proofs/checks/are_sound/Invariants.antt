use Rattle.std.proofs.Common.{◌≡◌, drop}
use Rattle.ts_mapping.specs.Checks.{are_sound_fields}
use Rattle.ts_mapping.proofs.checks.are_sound.Given as goal

abbrev pub invariant-loop-field : goal.invariant-loop-field
invariant-loop-field l = are_sound_fields l.fields ≡ are_sound_fields (drop l.field-index l.fields)
