-- Faults told one after the other.
use Rattle.std.specs.Prelude.{◌≡◌, List, [], ◌∷◌, ◌++◌, Option, Some}
use Rattle.std.proofs.Common.{refl}
use Rattle.search_filter.specs.Faults.{worse, worst_with}
use Rattle.search_filter.specs.declared.faults.Fault.{Fault}

pub worst_joined : (held : Option Fault) (fs gs : List Fault) → worst_with held (fs ++ gs) ≡ worst_with (worst_with held fs) gs
worst_joined held [] gs = refl
worst_joined held (f ∷ fs) gs = worst_joined (Some (worse held f)) fs gs
