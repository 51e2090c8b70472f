use Rattle.std.proofs.Common.{◌≡◌, drop}
use Rattle.std.specs.List.{list_any}
use Rattle.search_filter.specs.Matching.{has_value}
use Rattle.search_filter.proofs.matching.has_any.Given as goal

abbrev pub invariant-loop-field : goal.invariant-loop-field
invariant-loop-field l = list_any (has_value l.schema.fields l.row) (drop l.field-index l.fields) ≡ list_any (has_value l.schema.fields l.row) l.fields
