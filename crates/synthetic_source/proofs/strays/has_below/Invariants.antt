use Rattle.std.proofs.Common.{◌≡◌, ℕ, ◌<◌, ◌≤◌, ◌-◌, length, get_or}
use Rattle.std.specs.declared.cmp.Ordering.TheVariants.{Less, Greater}
use Rattle.row_cells.specs.declared.schemas.Field.{Field}
use Rattle.synthetic_source.specs.Sides.{side}
use Rattle.synthetic_source.proofs.strays.has_below.Given as goal

abbrev pub invariant-search : goal.invariant-search
invariant-search l = record {
  within : l.high ≤ length l.fields;
  ordered : l.low ≤ l.high;
  before : (k : ℕ) (d : Field) → k < l.low → side (get_or l.fields k d).path l.path ≡ Less;
  after : (k : ℕ) (d : Field) → l.high ≤ k → k < length l.fields → side (get_or l.fields k d).path l.path ≡ Greater;
}

abbrev pub decreases-search : goal.decreases-search
decreases-search l = l.high - l.low
