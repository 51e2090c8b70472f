use Rattle.std.proofs.Common.{◌≡◌, ◌++◌, drop}
use Rattle.std.specs.Prelude.{option_map}
use Rattle.serde_json.specs.View.{items_view}
use Rattle.hits_page.specs.Sorts.{entries_in}
use Rattle.hits_page.proofs.entries.entries_in.Given as goal

-- what was read, before what the rest gives, is what all give
abbrev pub invariant-loop-item : goal.invariant-loop-item
invariant-loop-item l = option_map (λ es. l.entries ++ es) (entries_in (items_view (drop l.item-index l.items))) ≡ entries_in (items_view l.items)
