use Rattle.std.proofs.Common.{◌≡◌}
use Rattle.serde_json.specs.View.{members_view}
use Rattle.ts_mapping.specs.Least.{all_faults, least_with}
use Rattle.ts_mapping.specs.Settings.{flat_members, unknown_setting}
use Rattle.ts_mapping.proofs.sent_settings.+check.Given as goal

abbrev pub invariant-check_members-loop-name : goal.invariant-check_members-loop-name
invariant-check_members-loop-name l =
    let here = l.initial.place in record {
      place : l.place ≡ here;
      least : least_with l.least (all_faults unknown_setting (flat_members here (members_view l.name-iterator))) ≡ least_with l.initial.least (all_faults unknown_setting (flat_members here (members_view l.members.entries)));
    }
