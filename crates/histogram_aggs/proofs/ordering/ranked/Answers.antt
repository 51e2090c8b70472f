use Rattle.std.proofs.Common.{◌≡◌, ◌∙◌, ◌∷◌, ◌++◌, [], map, ap, sym, subst, append_assoc}
use Rattle.std.specs.List.Sorted.{IsStrictlySortedBy}
use Rattle.std.specs.Map.{keys_of}
use Rattle.search_filter.specs.Values.{value_cmp}
use Rattle.row_cells.specs.declared.scalars.Scalar.{Scalar}
use Rattle.row_cells.specs.Each.{Each}
use Rattle.histogram_aggs.specs.declared.state.Bucket.{Bucket}
use Rattle.histogram_aggs.specs.Told.{by_documents, entry_of}
use Rattle.histogram_aggs.proofs.OrderSteps.{IsRanked, above_in_order, ranked_more}
use Rattle.histogram_aggs.proofs.ordering.ranked.Goals as goal

pub loop-key-preserved-in_ok-insert : goal.loop-key-preserved-in_ok-insert
loop-key-preserved-in_ok-insert c =
    let e : Scalar × Bucket = (c.in-Some.key, c.in-Some.bucket) in
    let taken = c.loop-key.invariant.0 in
    let left = c.pop_last.new.self.entries in
    let all : left ++ e ∷ taken ≡ c.args.buckets.now.entries =
    sym (append_assoc left (e ∷ []) taken) ∙ (ap (λ es. es ++ taken) (sym c.in-Some.ensures.removal) ∙ c.loop-key.invariant.1) in
    let above = above_in_order left e taken (subst (λ es. IsStrictlySortedBy value_cmp (keys_of es)) (sym all) c.requires) in
    let more = ranked_more e taken c.loop-key.ranks.entries c.loop-key.invariant.2 c.loop-key.invariant.3 above in
    (e ∷ taken, all, subst (λ rs. map entry_of rs ≡ by_documents (e ∷ taken)) (sym c.in_ok-insert.ensures.entries) more.0, subst (λ rs. Each IsRanked rs) (sym c.in_ok-insert.ensures.entries) more.1)

pub loop-key-preserved : goal.loop-key-preserved
loop-key-preserved c =
    let e : Scalar × Bucket = (c.in-Some.key, c.in-Some.bucket) in
    let taken = c.loop-key.invariant.0 in
    let left = c.pop_last.new.self.entries in
    let all : left ++ e ∷ taken ≡ c.args.buckets.now.entries =
    sym (append_assoc left (e ∷ []) taken) ∙ (ap (λ es. es ++ taken) (sym c.in-Some.ensures.removal) ∙ c.loop-key.invariant.1) in
    let above = above_in_order left e taken (subst (λ es. IsStrictlySortedBy value_cmp (keys_of es)) (sym all) c.requires) in
    let more = ranked_more e taken c.loop-key.ranks.entries c.loop-key.invariant.2 c.loop-key.invariant.3 above in
    (e ∷ taken, all, subst (λ rs. map entry_of rs ≡ by_documents (e ∷ taken)) (sym c.in_ok-insert.ensures.entries) more.0, subst (λ rs. Each IsRanked rs) (sym c.in_ok-insert.ensures.entries) more.1)
