use Rattle.std.proofs.Common.{◌≡◌, drop}
use Rattle.std.specs.List.{list_any}
use Rattle.histogram_aggs.specs.Reading.{is_mark}
use Rattle.histogram_aggs.proofs.reading.has_mark.Given as goal

abbrev pub invariant-loop-byte : goal.invariant-loop-byte
invariant-loop-byte l = list_any is_mark l.name ≡ list_any is_mark (drop l.byte-index l.name)
