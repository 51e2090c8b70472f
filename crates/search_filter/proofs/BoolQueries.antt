-- What a query of queries takes.
use Rattle.std.specs.Prelude.{◌≡◌, ℕ, nat_le, Bool, true, false, ◌&&◌, not, List, map}
use Rattle.std.specs.List.{list_all, list_any}
use Rattle.std.proofs.Common.{ap, sym, ◌∙◌}
use Rattle.row_cells.specs.declared.rows.Row.{Row}
use Rattle.row_cells.specs.declared.schemas.Schema.{Schema}
use Rattle.search_filter.specs.Matching.{count_true, is_true, match_step, matches_row}
use Rattle.search_filter.specs.declared.query.Query.{Query, Bool as BoolQuery}
use Rattle.search_filter.proofs.SplitFolds.{fold_bool}

-- where all of `must` match and none of `must_not`, whether enough of `should` do decides
pub by_enough : (schema : Schema) (row : Row) (query : Query) (must should must_not ms ss ns : List Query) (least : ℕ) (all any enough : Bool) → query ≡ BoolQuery must should must_not least → ms ≡ must → ss ≡ should → ns ≡ must_not →
    all ≡ list_all is_true (map (λ q. matches_row q schema row) ms) → all ≡ true → any ≡ list_any is_true (map (λ q. matches_row q schema row) ns) → any ≡ false →
    enough ≡ nat_le least (count_true (map (λ q. matches_row q schema row) ss)) → enough ≡ matches_row query schema row
by_enough schema row query must should must_not ms ss ns least all any enough is ms_are ss_are ns_are all_is holds any_is none enough_is =
    let m : Query → Bool = λ q. matches_row q schema row in
    let answer : Bool → Bool → Bool → Bool = λ a n e. a && (not n && e) in
    let opened : matches_row query schema row ≡ answer (list_all is_true (map m must)) (list_any is_true (map m must_not)) (nat_le least (count_true (map m should))) =
    ap (λ q. matches_row q schema row) is ∙ fold_bool Bool (match_step schema.fields row) must should must_not least in
    let all_match : list_all is_true (map m must) ≡ true = ap (λ qs. list_all is_true (map m qs)) (sym ms_are) ∙ (sym all_is ∙ holds) in
    let none_match : list_any is_true (map m must_not) ≡ false = ap (λ qs. list_any is_true (map m qs)) (sym ns_are) ∙ (sym any_is ∙ none) in
    let enough_match : nat_le least (count_true (map m should)) ≡ enough = ap (λ qs. nat_le least (count_true (map m qs))) (sym ss_are) ∙ sym enough_is in
    sym (opened
    ∙ (ap (λ a. answer a (list_any is_true (map m must_not)) (nat_le least (count_true (map m should)))) all_match
    ∙ (ap (λ n. answer true n (nat_le least (count_true (map m should)))) none_match ∙ enough_match)))
