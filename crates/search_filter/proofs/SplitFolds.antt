-- Queries by induction, and their folds at each kind.
use Rattle.std.proofs.Common.{◌≡◌, ℕ, List, [], ◌∷◌, map, ap, sym, ◌∙◌, subst, Option}
use Rattle.row_cells.specs.declared.scalars.Scalar.{Scalar}
use Rattle.search_filter.specs.declared.query.Bound.{Bound}
use Rattle.search_filter.specs.declared.query.Query.{Query, Query-F, fold-Query, fold-roll-Query, ind-Query, map-Query, roll-Query, All, Nothing, Has, OneOf, Between, Bool}
use Rattle.search_filter.specs.declared.query.Query.TheViews.{rolls-All, rolls-Nothing, rolls-Has, rolls-OneOf, rolls-Between, rolls-Bool}

pub fold_all : (A : Type 0) (s : Query-F A → A) → fold-Query A s All ≡ s Query-F.All
fold_all A s = ap (fold-Query A s) (sym rolls-All) ∙ fold-roll-Query A s Query-F.All

pub fold_nothing : (A : Type 0) (s : Query-F A → A) → fold-Query A s Nothing ≡ s Query-F.Nothing
fold_nothing A s = ap (fold-Query A s) (sym rolls-Nothing) ∙ fold-roll-Query A s Query-F.Nothing

pub fold_has : (A : Type 0) (s : Query-F A → A) (places : List ℕ) → fold-Query A s (Has places) ≡ s (Query-F.Has places)
fold_has A s places = ap (fold-Query A s) (sym (rolls-Has places)) ∙ fold-roll-Query A s (Query-F.Has places)

pub fold_one_of : (A : Type 0) (s : Query-F A → A) (place : ℕ) (values : List Scalar) → fold-Query A s (OneOf place values) ≡ s (Query-F.OneOf place values)
fold_one_of A s place values = ap (fold-Query A s) (sym (rolls-OneOf place values)) ∙ fold-roll-Query A s (Query-F.OneOf place values)

pub fold_between : (A : Type 0) (s : Query-F A → A) (place : ℕ) (low high : Option Bound) → fold-Query A s (Between place low high) ≡ s (Query-F.Between place low high)
fold_between A s place low high = ap (fold-Query A s) (sym (rolls-Between place low high)) ∙ fold-roll-Query A s (Query-F.Between place low high)

pub fold_bool : (A : Type 0) (s : Query-F A → A) (must should must_not : List Query) (least : ℕ) →
    fold-Query A s (Bool must should must_not least) ≡ s (Query-F.Bool (map (fold-Query A s) must) (map (fold-Query A s) should) (map (fold-Query A s) must_not) least)
fold_bool A s must should must_not least =
    ap (fold-Query A s) (sym (rolls-Bool must should must_not least)) ∙ fold-roll-Query A s (Query-F.Bool must should must_not least)

abbrev pub AllOf : (Query → Type 0) → List Query → Type 0
AllOf P [] = Unit {0}
AllOf P (q ∷ qs) = P q × AllOf P qs

-- what holds at each kind of a query
pub record HoldsByKind (P : Query → Type 0) : Type 0 where
  pub at_all : P All
  pub at_nothing : P Nothing
  pub at_has : (places : List ℕ) → P (Has places)
  pub at_one_of : (place : ℕ) (values : List Scalar) → P (OneOf place values)
  pub at_between : (place : ℕ) (low high : Option Bound) → P (Between place low high)
  pub at_bool : (must should must_not : List Query) (least : ℕ) → AllOf P must → AllOf P should → AllOf P must_not → P (Bool must should must_not least)

abbrev Held : (Query → Type 0) → Type 0
Held P = (q : Query) × P q

all_of : (P : Query → Type 0) (es : List (Held P)) → AllOf P (map (λ e. e.0) es)
all_of P [] = tt
all_of P (e ∷ es) = (e.1, all_of P es)

-- what holds at each kind of a query where it holds of its parts, holds of all
pub by_kinds : (P : Query → Type 0) → HoldsByKind P → (q : Query) → P q
by_kinds P holds = ind-Query P step
  where
    at : (y : Query-F (Held P)) → P (roll-Query (map-Query (Held P) Query (λ e. e.0) y))
    at Query-F.All = subst P (sym rolls-All) holds.at_all
    at Query-F.Nothing = subst P (sym rolls-Nothing) holds.at_nothing
    at (Query-F.Has places) = subst P (sym (rolls-Has places)) (holds.at_has places)
    at (Query-F.OneOf place values) = subst P (sym (rolls-OneOf place values)) (holds.at_one_of place values)
    at (Query-F.Between place low high) = subst P (sym (rolls-Between place low high)) (holds.at_between place low high)
    at (Query-F.Bool es fs gs least) =
        subst P (sym (rolls-Bool (map (λ e. e.0) es) (map (λ e. e.0) fs) (map (λ e. e.0) gs) least))
        (holds.at_bool (map (λ e. e.0) es) (map (λ e. e.0) fs) (map (λ e. e.0) gs) least (all_of P es) (all_of P fs) (all_of P gs))

    step : (x : Query-F Query) (y : Query-F (Held P)) → map-Query (Held P) Query (λ e. e.0) y ≡ x → P (roll-Query x)
    step x y is = subst (λ x. P (roll-Query x)) is (at y)
