-- Some rows of a column.
use Rattle.std.specs.Prelude.{ℕ, List, [], map, slice_range}
use Rattle.fold_law.specs.declared.measures.Parts.{Parts}
use Rattle.row_cells.specs.Merging.{parts_of_value}
use Rattle.column_block.specs.declared.kinds.Values.{Values}
use Rattle.column_block.specs.declared.kinds.Values.TheVariants.{Whole, Parts as PartsOf, Wholes, Words}
use Rattle.column_block.specs.Presence.{present}

abbrev pub rows_between : ℕ → ℕ → Values → Values
rows_between from to (Whole vs) = Whole (slice_range vs from to)
rows_between from to (PartsOf ps) = PartsOf (slice_range ps from to)
rows_between from to (Wholes lists) = Wholes (slice_range lists from to)
rows_between from to (Words lists) = Words (slice_range lists from to)

-- the parts of the values that are there; lists have none
abbrev pub parts_of : Values → List Parts
parts_of (Whole vs) = map parts_of_value (present vs)
parts_of (PartsOf ps) = present ps
parts_of (Wholes lists) = []
parts_of (Words lists) = []
