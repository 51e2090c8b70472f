use Rattle.std.proofs.Common.{◌≡◌, ◌++◌, drop}
use Rattle.std.specs.Prelude.{option_map}
use Rattle.serde_json.specs.View.{items_view}
use Rattle.lifecycle_swap.specs.Bodies.{rounds_in}
use Rattle.tsds_service.proofs.life_bodies.rounds_among.Given as goal

-- what was read, before what the rest gives, is what all give
abbrev pub invariant-loop-item : goal.invariant-loop-item
invariant-loop-item l = option_map (λ rs. l.rounds.items ++ rs) (rounds_in (items_view (drop l.item-index l.items))) ≡ rounds_in (items_view l.items)
