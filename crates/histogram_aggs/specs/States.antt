-- States that callers hold, and the rows that were offered to them.
use Rattle.std.specs.Prelude.{◌≡◌, false, List}
use Rattle.row_cells.specs.declared.schemas.Field.{Field}
use Rattle.histogram_aggs.specs.declared.agg_state.AggState.{AggState}
use Rattle.histogram_aggs.specs.Samples.{Sample}
use Rattle.histogram_aggs.specs.Seen.{seen}
use Rattle.histogram_aggs.specs.Stands.{Stands}

-- a state that was never refused memory stands for the rows that were offered, all of schemas with these fields
abbrev pub StateStands : List Field → AggState → List Sample → Type 0
StateStands fields state xs = (state.spent ≡ false) × Stands fields (seen state.aggs.items) state.nodes.items xs
