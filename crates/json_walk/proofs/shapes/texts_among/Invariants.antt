use Rattle.std.proofs.Common.{◌≡◌, ◌++◌, drop}
use Rattle.std.specs.Prelude.{option_map}
use Rattle.serde_json.specs.View.{items_view}
use Rattle.json_walk.specs.Shapes.{texts_in}
use Rattle.json_walk.proofs.shapes.texts_among.Given as goal

-- what was read, before what the rest gives, is what all give
abbrev pub invariant-loop-item : goal.invariant-loop-item
invariant-loop-item l = option_map (λ ts. l.texts.items ++ ts) (texts_in (items_view (drop l.item-index l.items))) ≡ texts_in (items_view l.items)
