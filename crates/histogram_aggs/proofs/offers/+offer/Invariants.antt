use Rattle.std.proofs.Common.{◌++◌, ◌∷◌, [], List, take}
use Rattle.std.specs.Option.{option_copied}
use Rattle.row_cells.specs.declared.scalars.Scalar.{Scalar}
use Rattle.search_filter.specs.Values.{value_cmp}
use Rattle.histogram_aggs.specs.Repeats.{IsTop}
use Rattle.histogram_aggs.specs.Samples.{Sample}
use Rattle.histogram_aggs.specs.Seen.{seen}
use Rattle.histogram_aggs.specs.Stands.{MarksStand, Mixed, Stands, with_each}
use Rattle.histogram_aggs.proofs.offers.+offer.Given as goal

-- the nodes so far stand for one row more
abbrev pub invariant-offer_level-loop-i : goal.invariant-offer_level-loop-i
invariant-offer_level-loop-i l =
    goal.unvisited-offer_level-loop-i l
    × ((xs : List Sample) → Stands l.fields (seen l.aggs) l.initial.nodes.items xs → Mixed l.fields (seen l.aggs) l.nodes.items l.i xs (xs ++ record { start = l.window.start; row = l.row } ∷ []))

-- the values so far have the row once each
abbrev pub invariant-offer_list-loop-at : goal.invariant-offer_list-loop-at
invariant-offer_list-loop-at l =
    IsTop (option_copied l.top) (take l.at l.values)
    × ((of_value : Scalar → List Sample) → MarksStand value_cmp (Stands l.fields (seen l.below)) l.initial.buckets of_value
    → MarksStand value_cmp (Stands l.fields (seen l.below)) l.buckets (with_each (take l.at l.values) (record { start = l.window.start; row = l.row }) of_value))
