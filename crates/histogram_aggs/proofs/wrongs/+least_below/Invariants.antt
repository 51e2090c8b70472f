use Rattle.std.proofs.Common.{◌≡◌, drop}
use Rattle.std.specs.Prelude.{option_map}
use Rattle.histogram_aggs.specs.Reading.{least_with, wrongs_of}
use Rattle.histogram_aggs.specs.Seen.{seen}
use Rattle.histogram_aggs.specs.SeenWrongs.{seen_wrong}
use Rattle.histogram_aggs.proofs.wrongs.+least_below.Given as goal

-- the least so far, and then of the rest, is the least of all
abbrev pub invariant-loop-agg : goal.invariant-loop-agg
invariant-loop-agg l = least_with (option_map seen_wrong l.least) (wrongs_of l.fields (seen (drop l.agg-index l.aggs))) ≡ least_with (option_map seen_wrong l.initial.held) (wrongs_of l.fields (seen l.aggs))
