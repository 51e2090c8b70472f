-- An increase among aggregations: one row more, two lists together, and what is answered.
use Rattle.std.proofs.Common.{◌≡◌, ℕ, ℤ, true, List, [], ◌∷◌, ◌++◌, Option, Some, None, ap, ◌∙◌, sym, subst, arith}
use Rattle.std.specs.BTreeMap.{BTreeMap}
use Rattle.std.specs.List.{slice_get}
use Rattle.fold_law.specs.declared.counters.Rise.{Rise}
use Rattle.row_cells.specs.declared.schemas.Field.{Field}
use Rattle.reply_json.specs.declared.out.Out.{Out}
use Rattle.histogram_aggs.specs.declared.aggs.Agg.{Agg, out-Agg}
use Rattle.histogram_aggs.specs.declared.aggs.AggKind.{AggKind}
use Rattle.histogram_aggs.specs.declared.aggs.AggKind.TheVariants.{Min, Max, Sum, ValueCount, Increase, Terms, DateHistogram}
use Rattle.histogram_aggs.specs.declared.state.Node.{Node, out-Node, out-roll-Node}
use Rattle.histogram_aggs.specs.declared.state.Node.TheOpen.{Node-F}
use Rattle.histogram_aggs.specs.declared.state.Node.TheVariants.{Rises, rolls-Rises}
use Rattle.histogram_aggs.specs.Answers.{Placed, Results, answer_of, field_of, metric_tree, placed_of, results_of}
use Rattle.histogram_aggs.specs.Metrics.{increase_of}
use Rattle.histogram_aggs.specs.Rises.{RisesStand}
use Rattle.histogram_aggs.specs.Samples.{Sample}
use Rattle.histogram_aggs.specs.Seen.{seen}
use Rattle.histogram_aggs.specs.Stands.{Level, IncreaseStands, NodeStands, OneStands, Stands, is_increase}
use Rattle.histogram_aggs.specs.Told.{IsTold, answer_one}

abbrev pub AllRises : Type 0
AllRises = BTreeMap (List ℕ) (BTreeMap (ℤ × ℤ) Rise)

-- ---- what stands for more samples

-- one row more at a place
pub increase_more : (kind : AggKind) (fields : List Field) (place : ℕ) (old new : AllRises) (xs : List Sample) (s : Sample) → ((ys : List Sample) → RisesStand place old ys → RisesStand place new (ys ++ s ∷ [])) →
    IncreaseStands kind (field_of fields (Some place)) old xs → IncreaseStands kind (field_of fields (Some place)) new (xs ++ s ∷ [])
increase_more kind fields place old new xs s more = by_field (slice_get fields place)
  where
    by_field : (o : Option Field) → IncreaseStands kind (placed_of place o) old xs → IncreaseStands kind (placed_of place o) new (xs ++ s ∷ [])
    by_field None stands = absurd stands
    by_field (Some f) stands = (stands.0, more xs stands.1)

increase_joined : (kind : AggKind) (found : Option Placed) (old others new : AllRises) (xs ys : List Sample) → ((place : ℕ) (us vs : List Sample) → RisesStand place old us → RisesStand place others vs → RisesStand place new (us ++ vs)) →
    IncreaseStands kind found old xs → IncreaseStands kind found others ys → IncreaseStands kind found new (xs ++ ys)
increase_joined kind None old others new xs ys joins first second = absurd first
increase_joined kind (Some f) old others new xs ys joins first second = (first.0, joins f.place xs ys first.1 second.1)

rises_out : (m : AllRises) → out-Node (Rises m) ≡ Node-F.Rises m
rises_out m = ap out-Node (sym (rolls-Rises m)) ∙ out-roll-Node (Node-F.Rises m)

pub rises_nodes : (below : Level) (kind : AggKind) (found : Option Placed) (old others new : AllRises) (xs ys : List Sample) → ((place : ℕ) (us vs : List Sample) → RisesStand place old us → RisesStand place others vs → RisesStand place new (us ++ vs)) →
    NodeStands below kind found (out-Node (Rises old)) xs → NodeStands below kind found (out-Node (Rises others)) ys → NodeStands below kind found (out-Node (Rises new)) (xs ++ ys)
rises_nodes below kind found old others new xs ys joins first second =
    subst (λ n. NodeStands below kind found n (xs ++ ys)) (sym (rises_out new))
    (increase_joined kind found old others new xs ys joins (subst (λ n. NodeStands below kind found n xs) (rises_out old) first) (subst (λ n. NodeStands below kind found n ys) (rises_out others) second))

-- ---- what is answered

increase_kind : (below : List Sample → Results) (kind : AggKind) (f : Placed) (xs : List Sample) (room : ℕ) (out : Out) → is_increase kind ≡ true → out ≡ metric_tree None (Some (increase_of f.place xs)) → IsTold (answer_of below kind (Some f) xs) room room out
increase_kind below Min f xs room out is told = cc
increase_kind below Max f xs room out is told = cc
increase_kind below Sum f xs room out is told = cc
increase_kind below ValueCount f xs room out is told = cc
increase_kind below Increase f xs room out is told = (told, omega arith)
increase_kind below (Terms size by_key) f xs room out is told = cc
increase_kind below (DateHistogram interval least) f xs room out is told = cc

pub increase_answered : (fields : List Field) (agg : Agg) (node : Node) (m : AllRises) (xs : List Sample) (room : ℕ) (out : Out) → out-Node node ≡ Node-F.Rises m →
    ((place : ℕ) (ys : List Sample) → RisesStand place m ys → out ≡ metric_tree None (Some (increase_of place ys))) → OneStands fields agg node xs → IsTold (answer_one fields agg xs) room room out
increase_answered fields agg node m xs room out node_is told stands =
    by_field (field_of fields (out-Agg agg).field) (subst (λ n. NodeStands (λ ns zs. Stands fields (seen (out-Agg agg).subs) ns zs) (out-Agg agg).kind (field_of fields (out-Agg agg).field) n xs) node_is stands)
  where
    by_field : (o : Option Placed) → IncreaseStands (out-Agg agg).kind o m xs → IsTold (answer_of (λ ys. results_of (seen (out-Agg agg).subs) fields ys) (out-Agg agg).kind o xs) room room out
    by_field None stood = absurd stood
    by_field (Some f) stood = increase_kind (λ ys. results_of (seen (out-Agg agg).subs) fields ys) (out-Agg agg).kind f xs room out stood.0 (told f.place xs stood.1)
