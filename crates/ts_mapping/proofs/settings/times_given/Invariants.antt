use Rattle.std.proofs.Common.{◌≡◌, ◌+◌, ◌≤◌, drop}
use Rattle.ts_mapping.specs.Seen.{settings_seen}
use Rattle.ts_mapping.specs.Settings.{times_given}
use Rattle.ts_mapping.proofs.settings.times_given.Given as goal

abbrev pub invariant-loop-setting : goal.invariant-loop-setting
invariant-loop-setting l = record {
  few : l.times ≤ l.setting-index;
  counted : l.times + times_given l.key (settings_seen (drop l.setting-index l.settings)) ≡ times_given l.key (settings_seen l.settings);
}
