use Rattle.std.proofs.Common.{◌≡◌, ◌++◌}
use Rattle.serde_json.specs.View.{members_view}
use Rattle.ts_mapping.specs.Seen.{settings_seen}
use Rattle.ts_mapping.specs.Settings.{flat_members}
use Rattle.ts_mapping.specs.Walks.{known_settings}
use Rattle.ts_mapping.proofs.sent_settings.+flatten.Given as goal

-- what was found, and what the rest gives, is what all give
abbrev pub invariant-flatten_members-loop-name : goal.invariant-flatten_members-loop-name
invariant-flatten_members-loop-name l =
    let here = l.initial.place in record {
      place : l.place ≡ here;
      found : settings_seen l.found.items ++ known_settings (flat_members here (members_view l.name-iterator)) ≡ settings_seen l.initial.found.items ++ known_settings (flat_members here (members_view l.members.entries));
    }
