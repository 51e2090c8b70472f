use Rattle.std.proofs.Common.{◌≡◌, ◌++◌, drop, map}
use Rattle.serde_json.specs.Data.{no_members}
use Rattle.serde_json.specs.View.{view, members_view}
use Rattle.reply_json.specs.Reading.{members_onto}
use Rattle.synthetic_source.specs.Replies.{data_of, member_data}
use Rattle.synthetic_source.proofs.tree_values.+value.Given as goal

-- what was made, and what is left, are all
abbrev pub invariant-element_values-loop-element : goal.invariant-element_values-loop-element
invariant-element_values-loop-element l = map view l.values.items ++ map data_of (drop l.element-index l.elements) ≡ map data_of l.elements

abbrev pub invariant-member_values-loop-member : goal.invariant-member_values-loop-member
invariant-member_values-loop-member l = members_onto (map member_data (drop l.member-index l.members)) (members_view l.found.entries) ≡ members_onto (map member_data l.members) no_members
