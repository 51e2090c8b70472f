use Rattle.std.proofs.Common.{◌≡◌, ◌≤◌, false, List, [], ◌∷◌, length, refl, arith}
use Rattle.serde_json.specs.Data.{array}
use Rattle.serde_json.specs.View.{items_view}
use Rattle.serde_json.specs.declared.value.Value.{Value}
use Rattle.ts_mapping.specs.Trees.{is_empty_list}
use Rattle.ts_mapping.proofs.trees.is_empty.Goals as goal

not_empty : (values : List Value) → 1 ≤ length values → false ≡ is_empty_list (array (items_view values))
not_empty [] some = absurd (omega (arith, some))
not_empty (v ∷ vs) some = refl

pub returns-in-len1-up : goal.returns-in-len1-up
returns-in-len1-up c = not_empty c.args.items.now c.in-len1-up.len_at_least
