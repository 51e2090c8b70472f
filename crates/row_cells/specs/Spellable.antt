-- Which cells a key can spell.
use Rattle.std.specs.Prelude.{ℕ, List, [], ◌∷◌}
use Rattle.row_cells.specs.declared.schemas.Role.{Role}
use Rattle.row_cells.specs.declared.schemas.Role.TheVariants.{Dimension as DimensionRole}
use Rattle.row_cells.specs.declared.schemas.Field.{Field}
use Rattle.row_cells.specs.declared.rows.Cell.{Cell}
use Rattle.row_cells.specs.declared.rows.Cell.TheVariants.{One}
use Rattle.row_cells.specs.Dimensions.{IsKeyValue}
use Rattle.row_cells.specs.Mapped.{IsPath}

-- a cell that can be spelled beside a field, and likewise cells
abbrev pub IsSpellable : Role → List ℕ → Cell → Type 0
IsSpellable DimensionRole path (One v) = IsPath path × IsKeyValue v
IsSpellable role path cell = Unit {0}

abbrev pub AreSpellable : List Field → List Cell → Type 0
AreSpellable [] [] = Unit {0}
AreSpellable (f ∷ fs) (c ∷ cs) = IsSpellable f.role f.path c × AreSpellable fs cs
AreSpellable fs cs = ⊥
