use Rattle.std.proofs.Common.{◌≡◌, ◌++◌}
use Rattle.serde_json.specs.View.{members_view}
use Rattle.ts_mapping.specs.Seen.{properties_seen}
use Rattle.ts_mapping.specs.Walks.{fields_among, fields_inside, text_at}
use Rattle.ts_mapping.proofs.properties.+walk.Given as goal

-- what was found, and what the rest gives, is what all give
abbrev pub invariant-walk_inside-loop-name : goal.invariant-walk_inside-loop-name
invariant-walk_inside-loop-name l =
    let within = text_at l.initial.path in record {
      path : l.path ≡ l.initial.path;
      found : properties_seen l.found.items ++ fields_inside within (members_view l.name-iterator) ≡ properties_seen l.initial.found.items ++ fields_inside within (members_view l.members.entries);
    }

abbrev pub invariant-walk_members-loop-name : goal.invariant-walk_members-loop-name
invariant-walk_members-loop-name l =
    let here = l.initial.path in record {
      path : l.path ≡ here;
      found : properties_seen l.found.items ++ fields_among here (members_view l.name-iterator) ≡ properties_seen l.initial.found.items ++ fields_among here (members_view l.members.entries);
    }
