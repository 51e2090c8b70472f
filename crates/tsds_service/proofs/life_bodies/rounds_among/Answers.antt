use Rattle.std.proofs.Common.{◌+◌, ◌++◌, drop, sym, ap, ◌∙◌}
use Rattle.std.specs.Prelude.{option_map}
use Rattle.lifecycle_swap.specs.Bodies.{rounds_in}
use Rattle.serde_json.specs.View.{items_view}
use Rattle.tsds_service.proofs.BodyLemmas.{rounds_step}
use Rattle.tsds_service.proofs.life_bodies.rounds_among.Goals as goal

pub loop-item-preserved : goal.loop-item-preserved
loop-item-preserved c =
    let xs = c.args.items.now in
    let i = c.loop-item.item-index in
    ap (λ held. option_map (λ rs. held ++ rs) (rounds_in (items_view (drop (i + 1) xs)))) c.in_ok-push-in-Some.ensures.items
    ∙ rounds_step xs i c.item-item.result c.loop-item-test.true c.item-item.is c.loop-item.rounds.items c.in-Some.round (rounds_in (items_view xs)) (sym c.in-Some.is ∙ c.round_in.ensures) c.loop-item.invariant
