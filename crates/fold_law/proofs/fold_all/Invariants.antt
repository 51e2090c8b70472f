use Rattle.std.proofs.Common.{◌≡◌, take}
use Rattle.fold_law.specs.Laws.{fold_of}
use Rattle.fold_law.proofs.fold_all.Given as goal

abbrev pub invariant-loop-item : goal.invariant-loop-item
invariant-loop-item g l = let f = g.F.Fold in l.folded ≡ fold_of f.none f.merge f.one (take l.item-index l.items)
