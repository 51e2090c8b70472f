-- What is told of a level, of buckets, and of room for more.
use Rattle.std.proofs.Common.{◌≡◌, ℕ, zero, suc, ◌+◌, ◌<◌, List, [], ◌∷◌, ◌++◌, length, drop, get_or, append_assoc, refl, ap, ◌∙◌, sym, subst, arith}
use Rattle.row_cells.specs.declared.schemas.Field.{Field}
use Rattle.histogram_aggs.specs.declared.aggs.Agg.{Agg, out-Agg}
use Rattle.histogram_aggs.specs.declared.errors.AggError.{AggError}
use Rattle.histogram_aggs.specs.declared.errors.AggError.TheVariants.{Shape, WrongField, TooManyBuckets, NoMemory}
use Rattle.histogram_aggs.specs.declared.state.Node.{Node}
use Rattle.histogram_aggs.specs.Answers.{results_of, with_answer}
use Rattle.histogram_aggs.specs.Samples.{Sample}
use Rattle.histogram_aggs.specs.Seen.{seen}
use Rattle.histogram_aggs.specs.Stands.{OneStands, Stands}
use Rattle.histogram_aggs.specs.Told.{IsStop, answer_one}
use Rattle.histogram_aggs.proofs.ReadingSteps.{drop_here, seen_opened}

-- an element that goes from the front of what is left behind what is there
pub moved : {A : Type 0} (before after rest all : List A) (x : A) → before ++ x ∷ rest ≡ all → after ≡ before ++ x ∷ [] → after ++ rest ≡ all
moved before after rest all x same more = ap (λ ys. ys ++ rest) more ∙ (append_assoc before (x ∷ []) rest ∙ same)

-- too many for what is left is too many in all
pub stop_more : (left part room all rest : ℕ) (e : AggError) → room + (part + rest) ≡ left + all → IsStop left part e → IsStop room all e
stop_more left part room all rest Shape same stop = absurd stop
stop_more left part room all rest (WrongField path kind) same stop = absurd stop
stop_more left part room all rest TooManyBuckets same stop = omega (arith, same, stop)
stop_more left part room all rest NoMemory same stop = tt

-- an aggregation of a level by its node
pub stands_at : (fields : List Field) (aggs : List Agg) (nodes : List Node) (i : ℕ) (agg : Agg) (node : Node) (xs : List Sample) → i < length aggs → i < length nodes → agg ≡ get_or aggs i agg → node ≡ get_or nodes i node →
    Stands fields (seen aggs) nodes xs → OneStands fields agg node xs
stands_at fields [] nodes i agg node xs lt lt_nodes is is_node stands = absurd (omega (arith, lt))
stands_at fields (a ∷ aggs) [] i agg node xs lt lt_nodes is is_node stands = absurd (omega (arith, lt_nodes))
stands_at fields (a ∷ aggs) (n ∷ nodes) zero agg node xs lt lt_nodes is is_node stands =
    let opened = subst (λ asks. Stands fields asks (n ∷ nodes) xs) (seen_opened a (seen aggs)) stands in
    subst (λ b. OneStands fields b node xs) (sym is) (subst (λ m. OneStands fields a m xs) (sym is_node) opened.0)
stands_at fields (a ∷ aggs) (n ∷ nodes) (suc i) agg node xs lt lt_nodes is is_node stands =
    let opened = subst (λ asks. Stands fields asks (n ∷ nodes) xs) (seen_opened a (seen aggs)) stands in
    stands_at fields aggs nodes i agg node xs (omega (arith, lt)) (omega (arith, lt_nodes)) is is_node opened.1

pub stands_length : (fields : List Field) (aggs : List Agg) (nodes : List Node) (xs : List Sample) → Stands fields (seen aggs) nodes xs → length nodes ≡ length aggs
stands_length fields [] [] xs stands = refl
stands_length fields [] (n ∷ nodes) xs stands = absurd stands
stands_length fields (a ∷ aggs) [] xs stands = absurd (subst (λ asks. Stands fields asks [] xs) (seen_opened a (seen aggs)) stands)
stands_length fields (a ∷ aggs) (n ∷ nodes) xs stands =
    ap suc (stands_length fields aggs nodes xs (subst (λ asks. Stands fields asks (n ∷ nodes) xs) (seen_opened a (seen aggs)) stands).1)

-- the answer of one aggregation in front of those behind it
pub results_step : (fields : List Field) (aggs : List Agg) (i : ℕ) (agg : Agg) (xs : List Sample) → i < length aggs → agg ≡ get_or aggs i agg →
    results_of (seen (drop i aggs)) fields xs ≡ with_answer (out-Agg agg).name (answer_one fields agg xs) (results_of (seen (drop (i + 1) aggs)) fields xs)
results_step fields aggs i agg xs lt is =
    ap (λ left. results_of (seen left) fields xs) (drop_here aggs i agg lt is) ∙ ap (λ asks. results_of asks fields xs) (seen_opened agg (seen (drop (i + 1) aggs)))
