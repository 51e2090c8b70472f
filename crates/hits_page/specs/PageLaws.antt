-- The order of hits is total.
use Rattle.std.specs.Prelude.{Bool, true, false, List, [], ◌∷◌}
use Rattle.std.specs.Cmp.{IsTotalOrder, nat_cmp_total, int_cmp_total, on_total, then_total, back_total}
use Rattle.std.specs.Cmp.Derive.{point_total}
use Rattle.row_cells.specs.OrderLaws.{row_cmp_total}
use Rattle.search_filter.specs.ValueLaws.{value_cmp_total}
use Rattle.hits_page.specs.Hits.{absence, directed, head_of, hit_cmp, place_cmp, place_of, present_cmp, sort_cmp, tail_of, value_or_none}
use Rattle.hits_page.specs.declared.sort_keys.SortKey.{SortKey}

directed_total : (rising : Bool) → IsTotalOrder (directed rising)
directed_total true = value_cmp_total
directed_total false = back_total value_cmp_total

present_total : (rising : Bool) → IsTotalOrder (present_cmp rising)
present_total rising = then_total (on_total absence nat_cmp_total) (on_total value_or_none (directed_total rising))

pub sort_total : (keys : List SortKey) → IsTotalOrder (sort_cmp keys)
sort_total [] = point_total
sort_total (k ∷ ks) = then_total (on_total head_of (present_total k.rising)) (on_total tail_of (sort_total ks))

pub place_total : (keys : List SortKey) → IsTotalOrder (place_cmp keys)
place_total keys =
    then_total (on_total (λ p. p.sort) (sort_total keys)) (then_total (on_total (λ p. p.row) row_cmp_total) (back_total (on_total (λ p. p.start) int_cmp_total)))

pub hit_total : (keys : List SortKey) → IsTotalOrder (hit_cmp keys)
hit_total keys = on_total place_of (place_total keys)
