use Rattle.std.proofs.Common.{◌≡◌, take, map}
use Rattle.column_block.specs.Spelling.{high, low}
use Rattle.column_block.proofs.six_lists.lists_of.Given as goal

abbrev pub invariant-loop-part : goal.invariant-loop-part
invariant-loop-part l = record {
  minima : l.minima.items ≡ map (λ p. p.min) (take l.part-index l.parts);
  maxima : l.maxima.items ≡ map (λ p. p.max) (take l.part-index l.parts);
  sum_highs : l.sum_highs.items ≡ map (λ p. high p.sum) (take l.part-index l.parts);
  sum_lows : l.sum_lows.items ≡ map (λ p. low p.sum) (take l.part-index l.parts);
  count_highs : l.count_highs.items ≡ map (λ p. high p.count) (take l.part-index l.parts);
  count_lows : l.count_lows.items ≡ map (λ p. low p.count) (take l.part-index l.parts);
}
