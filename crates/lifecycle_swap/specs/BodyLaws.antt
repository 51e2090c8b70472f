-- What a body gives is a lifecycle.
use Rattle.std.specs.Prelude.{◌≡◌, Bool, true, false, List, [], ◌∷◌, codes, Option, Some, None, if◌then◌else◌}
use Rattle.std.proofs.Common.{refl, subst}
use Rattle.serde_json.specs.Data.{Data}
use Rattle.serde_json.specs.Find.{get}
use Rattle.time_text.specs.declared.intervals.Interval.{Interval}
use Rattle.json_walk.specs.Shapes.{has_no_other}
use Rattle.lifecycle_swap.specs.declared.lifecycles.Lifecycle.{Lifecycle}
use Rattle.lifecycle_swap.specs.declared.lifecycles.Round.{Round}
use Rattle.lifecycle_swap.specs.Bodies.{retention_in, rounds_if_any, life_with, lifecycle_of}
use Rattle.lifecycle_swap.specs.Lifecycles.{is_lifecycle, IsLifecycle}

none_not_some : {A : Type 0} {a : A} → None ≡ Some a → ⊥
none_not_some e = cc

some_is : {A : Type 0} {a b : A} → Some a ≡ Some b → a ≡ b
some_is e = cc

life_is : (retention : Option (Option Interval)) (rounds : Option (List Round)) (life : Lifecycle) → life_with retention rounds ≡ Some life → IsLifecycle life
life_is None rounds life is = absurd (none_not_some is)
life_is (Some retention) None life is = absurd (none_not_some is)
life_is (Some retention) (Some rounds) life is = by_test (is_lifecycle (record { retention = retention; rounds = rounds })) refl is
  where
    by_test : (b : Bool) → is_lifecycle (record { retention = retention; rounds = rounds }) ≡ b → (if b then Some (record { retention = retention; rounds = rounds }) else None) ≡ Some life → IsLifecycle life
    by_test true test is = subst IsLifecycle (some_is is) test
    by_test false test is = absurd (none_not_some is)

-- the rounds of a lifecycle that a body gives may follow one another, and are few
abbrev pub BodiesAreLifecycles : Type 0
BodiesAreLifecycles = (body : Data) (life : Lifecycle) → lifecycle_of body ≡ Some life → IsLifecycle life

pub bodies_are_lifecycles : BodiesAreLifecycles
unfolding lifecycle_of
bodies_are_lifecycles body life is = by_test (has_no_other (codes "data_retention" ∷ codes "downsampling" ∷ []) body) is
  where
    retention : Option (Option Interval)
    retention = retention_in (get (codes "data_retention") body)

    rounds : Option (List Round)
    rounds = rounds_if_any (get (codes "downsampling") body)

    by_test : (b : Bool) → (if b then life_with retention rounds else None) ≡ Some life → IsLifecycle life
    by_test true is = life_is retention rounds life is
    by_test false is = absurd (none_not_some is)
