use Rattle.std.proofs.Common.{◌≡◌}
use Rattle.serde_json.specs.View.{members_view}
use Rattle.ts_mapping.specs.Least.{all_faults, least_with}
use Rattle.ts_mapping.specs.Properties.{inside, listed_members}
use Rattle.ts_mapping.specs.Shapes.{property_faults}
use Rattle.ts_mapping.specs.Walks.{text_at}
use Rattle.ts_mapping.proofs.levels.+check.Given as goal

abbrev pub invariant-check_inside-loop-name : goal.invariant-check_inside-loop-name
invariant-check_inside-loop-name l =
    let at = text_at l.initial.place in
    let within = text_at l.initial.path in record {
      place : l.place ≡ l.initial.place;
      path : l.path ≡ l.initial.path;
      least : least_with l.least (all_faults property_faults (inside at within (members_view l.name-iterator))) ≡ least_with l.initial.least (all_faults property_faults (inside at within (members_view l.members.entries)));
    }

abbrev pub invariant-check_members-loop-name : goal.invariant-check_members-loop-name
invariant-check_members-loop-name l =
    let at = text_at l.initial.place in
    let here = l.initial.path in record {
      place : l.place ≡ l.initial.place;
      path : l.path ≡ here;
      least : least_with l.least (all_faults property_faults (listed_members at here (members_view l.name-iterator))) ≡ least_with l.initial.least (all_faults property_faults (listed_members at here (members_view l.members.entries)));
    }
