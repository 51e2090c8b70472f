-- A level of aggregations, one after the other given a row.
use Rattle.std.proofs.Common.{◌≡◌, ◌<◌, ◌≤◌, ◌+◌, ◌⊎◌, ℕ, zero, suc, List, [], ◌∷◌, ◌++◌, length, drop, get_or, append_assoc, refl, sym, subst, inl, inr, arith}
use Rattle.std.specs.Prelude.{slice_set, min}
use Rattle.row_cells.specs.declared.schemas.Field.{Field}
use Rattle.histogram_aggs.specs.declared.aggs.Agg.{Agg}
use Rattle.histogram_aggs.specs.declared.state.Node.{Node}
use Rattle.histogram_aggs.specs.Asks.{Asks, no_asks, ask}
use Rattle.histogram_aggs.specs.Samples.{Sample}
use Rattle.histogram_aggs.specs.Seen.{seen}
use Rattle.histogram_aggs.specs.Stands.{OneStands, Stands, Mixed}
use Rattle.histogram_aggs.proofs.ReadingSteps.{drop_here, seen_opened}

pub mixed_first : (fields : List Field) (asks : Asks) (nodes : List Node) (xs ys : List Sample) → Stands fields asks nodes xs → Mixed fields asks nodes zero xs ys
mixed_first fields no_asks [] xs ys stands = tt
mixed_first fields no_asks (node ∷ nodes) xs ys stands = absurd stands
mixed_first fields (ask name kind place below others) [] xs ys stands = absurd stands
mixed_first fields (ask name kind place below others) (node ∷ nodes) xs ys stands = (stands.0, mixed_first fields others nodes xs ys stands.1)

pub mixed_step : (fields : List Field) (aggs : List Agg) (nodes : List Node) (i : ℕ) (agg : Agg) (node next : Node) (xs ys : List Sample) → i < length aggs → i < length nodes → agg ≡ get_or aggs i agg → node ≡ get_or nodes i node →
    (OneStands fields agg node xs → OneStands fields agg next ys) → Mixed fields (seen aggs) nodes i xs ys → Mixed fields (seen aggs) (slice_set nodes i next) (suc i) xs ys
mixed_step fields [] nodes i agg node next xs ys lt lt_nodes is is_node step mixed = absurd (omega (arith, lt))
mixed_step fields (a ∷ aggs) [] i agg node next xs ys lt lt_nodes is is_node step mixed = absurd (omega (arith, lt_nodes))
mixed_step fields (a ∷ aggs) (n ∷ nodes) zero agg node next xs ys lt lt_nodes is is_node step mixed =
    let opened = subst (λ asks. Mixed fields asks (n ∷ nodes) zero xs ys) (seen_opened a (seen aggs)) mixed in
    let stepped = subst (λ b. OneStands fields b next ys) is (step (subst (λ b. OneStands fields b node xs) (sym is) (subst (λ m. OneStands fields a m xs) (sym is_node) opened.0))) in
    subst (λ asks. Mixed fields asks (next ∷ nodes) (suc zero) xs ys) (sym (seen_opened a (seen aggs))) (stepped, opened.1)
mixed_step fields (a ∷ aggs) (n ∷ nodes) (suc i) agg node next xs ys lt lt_nodes is is_node step mixed =
    let opened = subst (λ asks. Mixed fields asks (n ∷ nodes) (suc i) xs ys) (seen_opened a (seen aggs)) mixed in
    subst (λ asks. Mixed fields asks (n ∷ slice_set nodes i next) (suc (suc i)) xs ys) (sym (seen_opened a (seen aggs)))
    (opened.0, mixed_step fields aggs nodes i agg node next xs ys (omega (arith, lt)) (omega (arith, lt_nodes)) is is_node step opened.1)

pub mixed_last : (fields : List Field) (aggs : List Agg) (nodes : List Node) (i : ℕ) (xs ys : List Sample) → (length aggs ≤ i) ⊎ (length nodes ≤ i) → Mixed fields (seen aggs) nodes i xs ys → Stands fields (seen aggs) nodes ys
mixed_last fields [] [] i xs ys all mixed = tt
mixed_last fields [] (n ∷ nodes) i xs ys all mixed = absurd mixed
mixed_last fields (a ∷ aggs) [] i xs ys all mixed = absurd (subst (λ asks. Mixed fields asks [] i xs ys) (seen_opened a (seen aggs)) mixed)
mixed_last fields (a ∷ aggs) (n ∷ nodes) zero xs ys (inl all) mixed = absurd (omega (arith, all))
mixed_last fields (a ∷ aggs) (n ∷ nodes) zero xs ys (inr all) mixed = absurd (omega (arith, all))
mixed_last fields (a ∷ aggs) (n ∷ nodes) (suc i) xs ys all mixed =
    let opened = subst (λ asks. Mixed fields asks (n ∷ nodes) (suc i) xs ys) (seen_opened a (seen aggs)) mixed in
    subst (λ asks. Stands fields asks (n ∷ nodes) ys) (sym (seen_opened a (seen aggs))) (opened.0, mixed_last fields aggs nodes i xs ys (behind all) opened.1)
  where
    behind : (suc (length aggs) ≤ suc i) ⊎ (suc (length nodes) ≤ suc i) → (length aggs ≤ i) ⊎ (length nodes ≤ i)
    behind (inl is) = inl (omega (arith, is))
    behind (inr is) = inr (omega (arith, is))

-- one node more of a level of no samples, in front of the rest
pub level_step : (fields : List Field) (aggs : List Agg) (nodes : List Node) (at : ℕ) (agg : Agg) (node : Node) → at < length aggs → agg ≡ get_or aggs at agg → OneStands fields agg node [] →
    ((rest : List Node) → Stands fields (seen (drop at aggs)) rest [] → Stands fields (seen aggs) (nodes ++ rest) []) →
    (rest : List Node) → Stands fields (seen (drop (at + 1) aggs)) rest [] → Stands fields (seen aggs) ((nodes ++ node ∷ []) ++ rest) []
level_step fields aggs nodes at agg node lt is one before rest behind =
    subst (λ ns. Stands fields (seen aggs) ns []) (sym (append_assoc nodes (node ∷ []) rest))
    (before (node ∷ rest) (subst (λ left. Stands fields (seen left) (node ∷ rest) []) (sym (drop_here aggs at agg lt is))
    (subst (λ asks. Stands fields asks (node ∷ rest) []) (sym (seen_opened agg (seen (drop (at + 1) aggs)))) (one, behind))))

upto : (a i : ℕ) → (a ≤ i) ⊎ (i < a)
upto zero i = inl (omega arith)
upto (suc a) zero = inr (omega arith)
upto (suc a) (suc i) = elim (upto a i) [ inl is ↦ inl (omega (arith, is)) | inr is ↦ inr (omega (arith, is)) ]

-- past the lesser of two lengths one of the lists is done
pub min_reached : (a b i m : ℕ) → m ≡ min a b → m ≤ i → (a ≤ i) ⊎ (b ≤ i)
min_reached a b i m is le = elim (upto a i) [ inl all ↦ inl all | inr some ↦ inr (omega (arith, is, le, some)) ]

pub drop_past : {S : Type 0} (xs : List S) (i : ℕ) → length xs ≤ i → drop i xs ≡ []
drop_past [] zero le = refl
drop_past [] (suc i) le = refl
drop_past (x ∷ xs) zero le = absurd (omega (arith, le))
drop_past (x ∷ xs) (suc i) le = drop_past xs i (omega (arith, le))
