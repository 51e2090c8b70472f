-- The laws of two folds at once, from those of each.
use Rattle.std.specs.Prelude.{ℕ}
use Rattle.std.proofs.Common.{ap, arith, ◌∙◌}
use Rattle.fold_law.specs.Laws.{FoldLaws}
use Rattle.fold_law.specs.Pairs.{both_of, merge_boths, reach_of_both}

module _ {A B I J : Type 0} {none_a : A} {merge_a : A → A → A} {reach_a : A → ℕ} {none_b : B} {merge_b : B → B → B} {reach_b : B → ℕ} (laws_a : FoldLaws none_a merge_a reach_a) (laws_b : FoldLaws none_b merge_b reach_b) where
  pub both_laws : FoldLaws (both_of {I = I} {J = J} none_a none_b) (merge_boths merge_a merge_b) (reach_of_both reach_a reach_b)
  both_laws = record {
    none_left = λ p. ap (λ x. both_of x (merge_b none_b p.b)) (laws_a.none_left p.a) ∙ ap (both_of p.a) (laws_b.none_left p.b);
    none_right = λ p. ap (λ x. both_of x (merge_b p.b none_b)) (laws_a.none_right p.a) ∙ ap (both_of p.a) (laws_b.none_right p.b);
    assoc = λ p q r. ap (λ x. both_of x (merge_b (merge_b p.b q.b) r.b)) (laws_a.assoc p.a q.a r.a) ∙ ap (both_of (merge_a p.a (merge_a q.a r.a))) (laws_b.assoc p.b q.b r.b);
    reach_none = omega (arith, laws_a.reach_none, laws_b.reach_none);
    reach_merge = λ p q. omega (arith, laws_a.reach_merge p.a q.a, laws_b.reach_merge p.b q.b);
  }
