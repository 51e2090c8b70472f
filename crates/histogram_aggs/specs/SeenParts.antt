-- What is read of a body, in memory, as what definitions speak of.
use Rattle.std.specs.Prelude.{Option, option_map}
use Rattle.std.specs.Borrow.{Bor}
use Rattle.serde_json.specs.Data.{Data}
use Rattle.serde_json.specs.View.{view}
use Rattle.serde_json.specs.declared.value.Value.{Value}
use Rattle.histogram_aggs.specs.declared.reading.Gathered.{Gathered}
use Rattle.histogram_aggs.specs.declared.reading.Nameless.{Nameless}
use Rattle.histogram_aggs.specs.Reading.{Held, One}
use Rattle.histogram_aggs.specs.Seen.{seen}

abbrev pub seen_value : Option (Bor Value) → Option Data
seen_value value = option_map (λ v. view v.now) value

abbrev pub seen_held : Gathered → Held
seen_held g = record { said = g.said; below = option_map seen g.below }

abbrev pub seen_one : Nameless → One
seen_one n = record { said = n.said; below = seen n.below }
