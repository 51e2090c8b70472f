use Rattle.std.proofs.Common.{◌≡◌, drop, length}
use Rattle.serde_json.specs.View.{items_view, members_view}
use Rattle.json_walk.specs.Listed.{listed_items, listed_members}
use Rattle.synthetic_source.specs.Faults.{stops_of}
use Rattle.synthetic_source.specs.Fronts.{IsKnown, path_at}
use Rattle.synthetic_source.specs.Walked.{after, here_of, seen_walk}
use Rattle.synthetic_source.proofs.walking.+walk.Given as goal

-- what is held, and what the rest gives, is what all give
abbrev pub invariant-walk_items-loop-item : goal.invariant-walk_items-loop-item
invariant-walk_items-loop-item l =
    let here = here_of l.initial.place.items in
    record {
      place : l.place.items ≡ l.initial.place.items;
      held : after l.strict l.fields (seen_walk l.walk) (listed_items (stops_of l.fields) here (items_view (drop l.item-index l.item-items)))
          ≡ after l.strict l.fields (seen_walk l.initial.walk) (listed_items (stops_of l.fields) here (items_view l.item-items));
      long : length l.walk.slots.items ≡ length l.initial.walk.slots.items;
      known : IsKnown l.strict l.fields (path_at l.place.items) l.walk.strays;
    }

abbrev pub invariant-walk_members-loop-name : goal.invariant-walk_members-loop-name
invariant-walk_members-loop-name l =
    let here = here_of l.initial.place.items in
    record {
      place : l.place.items ≡ l.initial.place.items;
      held : after l.strict l.fields (seen_walk l.walk) (listed_members (stops_of l.fields) here (members_view l.name-iterator))
          ≡ after l.strict l.fields (seen_walk l.initial.walk) (listed_members (stops_of l.fields) here (members_view l.members.entries));
      long : length l.walk.slots.items ≡ length l.initial.walk.slots.items;
      known : IsKnown l.strict l.fields (path_at l.place.items) l.walk.strays;
    }
