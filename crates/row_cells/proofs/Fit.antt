-- Cells that fit fields.
use Rattle.std.specs.Prelude.{◌≡◌, ℕ, Bool, List, [], ◌∷◌, length}
use Rattle.std.proofs.Common.{refl, arith}
use Rattle.row_cells.specs.declared.schemas.Field.{Field}
use Rattle.row_cells.specs.declared.rows.Cell.{Cell}
use Rattle.row_cells.specs.Fitting.{CellsFit}

-- there is a cell for each field
pub cells_long : (folded rises : Bool) (n : ℕ) (fs : List Field) (cs : List Cell) → CellsFit folded rises n fs cs → length fs ≡ length cs
cells_long folded rises n [] [] fit = refl
cells_long folded rises n [] (c ∷ cs) fit = absurd fit
cells_long folded rises n (f ∷ fs) [] fit = absurd fit
cells_long folded rises n (f ∷ fs) (c ∷ cs) fit = omega (arith, cells_long folded rises n fs cs fit.1)
