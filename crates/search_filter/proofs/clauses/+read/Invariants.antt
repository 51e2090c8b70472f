use Rattle.std.proofs.Common.{◌≡◌, ◌++◌, drop}
use Rattle.serde_json.specs.View.{items_view, members_view}
use Rattle.search_filter.specs.Faults.{worst_with}
use Rattle.search_filter.specs.Reading.{clauses_in, clauses_joined, queries_in}
use Rattle.search_filter.proofs.clauses.+read.Given as goal

-- what was read, and what the rest gives, is what all give
abbrev pub invariant-read_clauses-loop-name : goal.invariant-read_clauses-loop-name
invariant-read_clauses-loop-name l =
    let all = clauses_in l.reader.present l.reader.fields.now (members_view l.members.entries) in
    let rest = clauses_in l.reader.present l.reader.fields.now (members_view l.name-iterator) in
    record {
      clauses : clauses_joined l.clauses rest.value ≡ all.value;
      faults : worst_with l.faults rest.faults ≡ worst_with l.initial.faults all.faults;
    }

abbrev pub invariant-read_list-loop-item : goal.invariant-read_list-loop-item
invariant-read_list-loop-item l =
    let all = queries_in l.reader.present l.reader.fields.now (items_view l.items) in
    let rest = queries_in l.reader.present l.reader.fields.now (items_view (drop l.item-index l.items)) in
    record {
      queries : l.queries ++ rest.value ≡ all.value;
      faults : worst_with l.faults rest.faults ≡ worst_with l.initial.faults all.faults;
    }
