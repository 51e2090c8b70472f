use Rattle.std.proofs.Common.{◌≡◌, None}
use Rattle.std.specs.Prelude.{option_map}
use Rattle.serde_json.specs.View.{members_view}
use Rattle.histogram_aggs.specs.Reading.{asks_in, held_in}
use Rattle.histogram_aggs.specs.Seen.{seen_before}
use Rattle.histogram_aggs.specs.SeenParts.{seen_held}
use Rattle.histogram_aggs.proofs.reading.+read.Given as goal

-- what was read, in front of what the rest gives, is what all give
abbrev pub invariant-read_named-loop-name : goal.invariant-read_named-loop-name
invariant-read_named-loop-name l = option_map (seen_before l.aggs.items) (asks_in l.fields (members_view l.name-iterator)) ≡ asks_in l.fields (members_view l.members.entries)

abbrev pub invariant-read_members-loop-name : goal.invariant-read_members-loop-name
invariant-read_members-loop-name l = held_in l.fields (seen_held l.held) (members_view l.name-iterator) ≡ held_in l.fields (record { said = None; below = None }) (members_view l.members.entries)
