use Rattle.std.proofs.Common.{◌≡◌, None}
use Rattle.serde_json.specs.View.{members_view}
use Rattle.ts_mapping.specs.Least.{least, least_with}
use Rattle.ts_mapping.specs.Settings.{flat_members}
use Rattle.ts_mapping.specs.Walks.{setting_paths}
use Rattle.ts_mapping.proofs.sent_settings.+least.Given as goal

abbrev pub invariant-least_among-loop-name : goal.invariant-least_among-loop-name
invariant-least_among-loop-name l =
    least_with l.least (setting_paths (flat_members None (members_view l.name-iterator))) ≡ least (setting_paths (flat_members None (members_view l.members.entries)))
