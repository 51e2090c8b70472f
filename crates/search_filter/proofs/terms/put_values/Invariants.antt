use Rattle.std.proofs.Common.{◌≡◌, ◌++◌, drop}
use Rattle.serde_json.specs.View.{items_view}
use Rattle.search_filter.specs.Faults.{worst_with}
use Rattle.search_filter.specs.Reading.{values_in}
use Rattle.search_filter.proofs.terms.put_values.Given as goal

-- what was read, and what the rest gives, is what all give
abbrev pub invariant-loop-item : goal.invariant-loop-item
invariant-loop-item l =
    let all = values_in l.kind l.path (items_view l.items) in
    let rest = values_in l.kind l.path (items_view (drop l.item-index l.items)) in
    record {
      values : l.values.items ++ rest.value ≡ l.initial.values.items ++ all.value;
      faults : worst_with l.faults rest.faults ≡ worst_with l.initial.faults all.faults;
    }
