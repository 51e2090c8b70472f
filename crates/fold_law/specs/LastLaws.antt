-- The laws of the fold that keeps the last value that is present.
use Rattle.std.specs.Prelude.{◌≡◌, Some, None, Option}
use Rattle.std.proofs.Common.{ap, refl, arith}
use Rattle.fold_law.specs.declared.pairs.Last.{Last}
use Rattle.fold_law.specs.Laws.{FoldLaws}
use Rattle.fold_law.specs.Lasts.{last_present, no_last, last_of_one, merge_lasts, reach_of_last}

module _ {V : Type 0} where
  last_present_left : (b : Option V) → last_present None b ≡ b
  last_present_left None = refl
  last_present_left (Some v) = refl

  last_present_assoc : (a b c : Option V) → last_present (last_present a b) c ≡ last_present a (last_present b c)
  last_present_assoc a b None = refl
  last_present_assoc a b (Some v) = refl

  pub last_laws : FoldLaws (no_last {V = V}) merge_lasts reach_of_last
  last_laws = record {
    none_left = λ a. ap last_of_one (last_present_left a.0);
    none_right = λ a. refl;
    assoc = λ a b c. ap last_of_one (last_present_assoc a.0 b.0 c.0);
    reach_none = refl;
    reach_merge = λ a b. omega arith;
  }
