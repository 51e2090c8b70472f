use Rattle.std.proofs.Common.{◌≡◌, drop}
use Rattle.std.specs.List.{list_all}
use Rattle.search_filter.specs.Splitting.{is_presence_told, teller_at}
use Rattle.search_filter.proofs.splits.are_told.Given as goal

abbrev pub invariant-loop-field : goal.invariant-loop-field
invariant-loop-field l =
    list_all (λ place. is_presence_told (teller_at l.schema.fields place)) (drop l.field-index l.fields) ≡ list_all (λ place. is_presence_told (teller_at l.schema.fields place)) l.fields
