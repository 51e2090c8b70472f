use Rattle.std.proofs.Common.{◌≡◌, ◌++◌, drop}
use Rattle.search_filter.specs.Reading.{places_from}
use Rattle.search_filter.proofs.places.places_below.Given as goal

abbrev pub invariant-loop-field : goal.invariant-loop-field
invariant-loop-field l = l.places ++ places_from l.at l.path (drop l.field-index l.reader.fields.now) ≡ places_from 0 l.path l.reader.fields.now
