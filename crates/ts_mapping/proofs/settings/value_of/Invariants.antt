use Rattle.std.proofs.Common.{◌≡◌, drop}
use Rattle.ts_mapping.specs.Seen.{settings_seen}
use Rattle.ts_mapping.specs.Settings.{value_of}
use Rattle.ts_mapping.proofs.settings.value_of.Given as goal

abbrev pub invariant-loop-setting : goal.invariant-loop-setting
invariant-loop-setting l = value_of l.key (settings_seen l.settings) ≡ value_of l.key (settings_seen (drop l.setting-index l.settings))
