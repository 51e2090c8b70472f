use Rattle.std.proofs.Common.{◌≡◌, ◌++◌, drop, map}
use Rattle.std.specs.Vec.Iter.{into_iter_items}
use Rattle.hits_page.proofs.pager.cut.Given as goal

abbrev pub invariant-loop-hit : goal.invariant-loop-hit
invariant-loop-hit l =
    l.rows ++ map (λ h. h.picked) (drop l.left (into_iter_items l.hit-iterator)) ≡ map (λ h. h.picked) (drop l.from (into_iter_items l.initial.hit-iterator))
