use Rattle.std.proofs.Common.{◌≡◌, ◌++◌, Some, drop, map}
use Rattle.serde_json.specs.View.{items_view, members_view}
use Rattle.json_walk.specs.Leaves.{at_items, at_members}
use Rattle.json_walk.specs.Lent.{bytes_of, lent, rest_path}
use Rattle.json_walk.specs.Path.{text}
use Rattle.json_walk.proofs.at.+gather.Given as goal

-- what was found, and what the rest gives, is what all give
abbrev pub invariant-gather_items-loop-item : goal.invariant-gather_items-loop-item
invariant-gather_items-loop-item l =
    let here = bytes_of l.here in
    lent l.found.items ++ map Some (at_items l.stops here (items_view (drop l.item-index l.item-items)) (rest_path l.rest))
    ≡ lent l.initial.found.items ++ map Some (at_items l.stops here (items_view l.item-items) (rest_path l.rest))

abbrev pub invariant-gather_members-loop-name : goal.invariant-gather_members-loop-name
invariant-gather_members-loop-name l =
    let here = bytes_of l.here in
    lent l.found.items ++ map Some (at_members l.stops here (members_view l.name-iterator) (text l.left))
    ≡ lent l.initial.found.items ++ map Some (at_members l.stops here (members_view l.members.entries) (text l.left))
