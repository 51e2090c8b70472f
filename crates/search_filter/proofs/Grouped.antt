-- Parts of a body read one after the other.
use Rattle.std.specs.Prelude.{◌≡◌, ℕ, ℤ, ◌<◌, ◌+◌, List, [], ◌∷◌, ◌++◌, length, drop, Option, Some, None}
use Rattle.std.proofs.Common.{refl, ap, sym, ◌∙◌, get_or}
use Rattle.std.proofs.lemmas.List.{append_assoc, drop_more}
use Rattle.serde_json.specs.View.{items_view, view}
use Rattle.serde_json.specs.declared.value.Value.{Value}
use Rattle.row_cells.specs.declared.schemas.Field.{Field}
use Rattle.search_filter.specs.Faults.{worst_with}
use Rattle.search_filter.specs.FaultLaws.{worst_joined}
use Rattle.search_filter.specs.Reading.{clauses_joined, count_items, joined, later_of, queries_in, query_at, single}
use Rattle.search_filter.specs.declared.clauses.Clauses.{Clauses}
use Rattle.search_filter.specs.declared.faults.Fault.{Fault}
use Rattle.search_filter.specs.declared.query.Query.{Query}

later_grouped : (a b c : Option ℕ) → later_of (later_of a b) c ≡ later_of a (later_of b c)
later_grouped a b None = refl
later_grouped a b (Some n) = refl

pub clauses_grouped : (a b c : Clauses) → clauses_joined (clauses_joined a b) c ≡ clauses_joined a (clauses_joined b c)
clauses_grouped a b c =
    rw (append_assoc a.must b.must c.must, append_assoc a.should b.should c.should, append_assoc a.must_not b.must_not c.must_not, later_grouped a.least b.least c.least) refl

-- a list in memory has as many elements as are seen
pub items_counted : (values : List Value) → count_items (items_view values) ≡ length values
items_counted [] = refl
items_counted (v ∷ vs) = rw (items_counted vs) refl

drop_here : {S : Type 0} (xs : List S) (i : ℕ) (x : S) → i < length xs → x ≡ get_or xs i x → drop i xs ≡ x ∷ drop (i + 1) xs
drop_here xs i x here is = drop_more xs i x here ∙ ap (λ z. z ∷ drop (i + 1) xs) (sym is)

-- the first of what is left of a list of queries
pub query_here : (now : ℤ) (fields : List Field) (items : List Value) (i : ℕ) (v : Value) → i < length items → v ≡ get_or items i v →
    queries_in now fields (items_view (drop i items)) ≡ joined (single (query_at now fields (view v))) (queries_in now fields (items_view (drop (i + 1) items)))
query_here now fields items i v here is = ap (λ left. queries_in now fields (items_view left)) (drop_here items i v here is)

pub queries_step : (now : ℤ) (fields : List Field) (items : List Value) (i : ℕ) (v : Value) (old new all : List Query) → i < length items → v ≡ get_or items i v →
    new ≡ old ++ (single (query_at now fields (view v))).value → old ++ (queries_in now fields (items_view (drop i items))).value ≡ all →
    new ++ (queries_in now fields (items_view (drop (i + 1) items))).value ≡ all
queries_step now fields items i v old new all here is put kept =
    let rest = queries_in now fields (items_view (drop (i + 1) items)) in
    ap (λ z. z ++ rest.value) put
    ∙ (append_assoc old (single (query_at now fields (view v))).value rest.value
    ∙ (ap (λ r. old ++ r.value) (sym (query_here now fields items i v here is)) ∙ kept))

pub faults_step : (now : ℤ) (fields : List Field) (items : List Value) (i : ℕ) (v : Value) (old new all : Option Fault) → i < length items → v ≡ get_or items i v →
    new ≡ worst_with old (query_at now fields (view v)).faults → worst_with old (queries_in now fields (items_view (drop i items))).faults ≡ all →
    worst_with new (queries_in now fields (items_view (drop (i + 1) items))).faults ≡ all
faults_step now fields items i v old new all here is told kept =
    let rest = queries_in now fields (items_view (drop (i + 1) items)) in
    ap (λ z. worst_with z rest.faults) told
    ∙ (sym (worst_joined old (query_at now fields (view v)).faults rest.faults)
    ∙ (ap (λ r. worst_with old r.faults) (sym (query_here now fields items i v here is)) ∙ kept))
