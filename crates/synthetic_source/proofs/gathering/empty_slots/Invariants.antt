use Rattle.std.proofs.Common.{◌≡◌, ◌++◌, [], drop, map, length}
use Rattle.synthetic_source.specs.Gathered.{by_field, slot_leaves}
use Rattle.synthetic_source.proofs.gathering.empty_slots.Given as goal

abbrev pub invariant-loop-field : goal.invariant-loop-field
invariant-loop-field l = record {
  leaves : map slot_leaves l.slots.items ++ by_field (drop l._field-index l.fields) [] ≡ by_field l.fields [];
  long : length l.slots.items ≡ l._field-index;
}
