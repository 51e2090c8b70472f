use Rattle.std.proofs.Common.{◌+◌, ◌++◌, drop, sym, ap, ◌∙◌}
use Rattle.std.specs.Prelude.{option_map}
use Rattle.serde_json.specs.View.{items_view}
use Rattle.tsds_service.specs.Bodies.{moves_in}
use Rattle.tsds_service.proofs.BodyLemmas.{moves_step}
use Rattle.tsds_service.proofs.moves.moves_among.Goals as goal

pub loop-item-preserved : goal.loop-item-preserved
loop-item-preserved c =
    let xs = c.args.items.now in
    let i = c.loop-item.item-index in
    ap (λ held. option_map (λ ms. held ++ ms) (moves_in (items_view (drop (i + 1) xs)))) c.in_ok-push-in-Some.ensures.items
    ∙ moves_step xs i c.item-item.result c.loop-item-test.true c.item-item.is c.loop-item.moves.items c.in-Some.asked (moves_in (items_view xs)) (sym c.in-Some.is ∙ c.in_ok-asked.ensures) c.loop-item.invariant
