use Rattle.std.proofs.Common.{◌≡◌, [], drop}
use Rattle.synthetic_source.specs.Groups.{groups_after}
use Rattle.synthetic_source.specs.Places.{Rise}
use Rattle.synthetic_source.specs.Seen.{group_names, seen_all, seen_groups}
use Rattle.synthetic_source.proofs.groups.groups_of.Given as goal

abbrev pub invariant-loop-entry : goal.invariant-loop-entry
invariant-loop-entry l = record {
  so_far : groups_after (seen_groups l.groups.items) (seen_all (drop l.entry-index l.entries)) ≡ groups_after [] (seen_all l.entries);
  rise : Rise (group_names l.groups.items);
}
