use Rattle.std.proofs.Common.{◌≡◌, drop}
use Rattle.serde_json.specs.View.{items_view, members_view}
use Rattle.json_walk.specs.Listed.{listed_items, listed_members}
use Rattle.json_walk.specs.Paths.{with_paths}
use Rattle.json_walk.proofs.walk.+walk.Given as goal

-- the paths so far, and those of the rest, are those of all
abbrev pub invariant-walk_items-loop-item : goal.invariant-walk_items-loop-item
invariant-walk_items-loop-item l =
    let here = l.initial.place in record {
      place : l.place ≡ here;
      paths : with_paths l.paths.keys (listed_items l.stops here (items_view (drop l.item-index l.item-items))) ≡ with_paths l.initial.paths.keys (listed_items l.stops here (items_view l.item-items));
    }

abbrev pub invariant-walk_members-loop-name : goal.invariant-walk_members-loop-name
invariant-walk_members-loop-name l =
    let here = l.initial.place in record {
      place : l.place ≡ here;
      paths : with_paths l.paths.keys (listed_members l.stops here (members_view l.name-iterator)) ≡ with_paths l.initial.paths.keys (listed_members l.stops here (members_view l.members.entries));
    }
