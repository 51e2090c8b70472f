use Rattle.std.proofs.Common.{◌≡◌, drop}
use Rattle.search_filter.specs.Reading.{field_from}
use Rattle.search_filter.proofs.places.find.Given as goal

abbrev pub invariant-loop-field : goal.invariant-loop-field
invariant-loop-field l = field_from l.at l.path (drop l.field-index l.reader.fields.now) ≡ field_from 0 l.path l.reader.fields.now
