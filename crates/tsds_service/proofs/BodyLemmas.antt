-- Lists in bodies, read one element after another.
use Rattle.std.proofs.Common.{◌≡◌, ℕ, ◌+◌, ◌<◌, List, [], ◌∷◌, ◌++◌, length, get_or, drop, drop-cons, add-one, append_assoc, Option, Some, None, refl, sym, ap, ◌∙◌}
use Rattle.std.specs.Prelude.{option_map}
use Rattle.lifecycle_swap.specs.Bodies.{round_of, rounds_in, with_round}
use Rattle.lifecycle_swap.specs.declared.lifecycles.Round.{Round}
use Rattle.serde_json.specs.View.{view, items_view}
use Rattle.serde_json.specs.declared.value.Value.{Value}
use Rattle.stream_catalog.specs.declared.answers.Move.{Move}
use Rattle.tsds_service.specs.Bodies.{move_of, moves_in, with_move}

drop_here : {S : Type 0} (xs : List S) (i : ℕ) (x : S) → i < length xs → x ≡ get_or xs i x → drop i xs ≡ x ∷ drop (i + 1) xs
drop_here xs i x lt is = rw (add-one, drop-cons xs i x, ← is) refl

move_joined : (held : List Move) (m : Move) (o : Option (List Move)) → option_map (λ ms. (held ++ m ∷ []) ++ ms) o ≡ option_map (λ ms. held ++ ms) (with_move (Some m) o)
move_joined held m None = refl
move_joined held m (Some ms) = ap Some (append_assoc held (m ∷ []) ms)

round_joined : (held : List Round) (r : Round) (o : Option (List Round)) → option_map (λ rs. (held ++ r ∷ []) ++ rs) o ≡ option_map (λ rs. held ++ rs) (with_round (Some r) o)
round_joined held r None = refl
round_joined held r (Some rs) = ap Some (append_assoc held (r ∷ []) rs)

module _ (xs : List Value) (i : ℕ) (x : Value) (lt : i < length xs) (is : x ≡ get_or xs i x) where
  -- a move more, in front of what the rest gives
  pub moves_step : (held : List Move) (m : Move) (all : Option (List Move)) → Some m ≡ move_of (view x) → option_map (λ ms. held ++ ms) (moves_in (items_view (drop i xs))) ≡ all
      → option_map (λ ms. (held ++ m ∷ []) ++ ms) (moves_in (items_view (drop (i + 1) xs))) ≡ all
  moves_step held m all read before =
      move_joined held m (moves_in (items_view (drop (i + 1) xs)))
      ∙ (ap (λ o. option_map (λ ms. held ++ ms) (with_move o (moves_in (items_view (drop (i + 1) xs))))) read
      ∙ (ap (λ ys. option_map (λ ms. held ++ ms) (moves_in (items_view ys))) (sym (drop_here xs i x lt is)) ∙ before))

  -- a round more
  pub rounds_step : (held : List Round) (r : Round) (all : Option (List Round)) → Some r ≡ round_of (view x) → option_map (λ rs. held ++ rs) (rounds_in (items_view (drop i xs))) ≡ all
      → option_map (λ rs. (held ++ r ∷ []) ++ rs) (rounds_in (items_view (drop (i + 1) xs))) ≡ all
  rounds_step held r all read before =
      round_joined held r (rounds_in (items_view (drop (i + 1) xs)))
      ∙ (ap (λ o. option_map (λ rs. held ++ rs) (with_round o (rounds_in (items_view (drop (i + 1) xs))))) read
      ∙ (ap (λ ys. option_map (λ rs. held ++ rs) (rounds_in (items_view ys))) (sym (drop_here xs i x lt is)) ∙ before))
