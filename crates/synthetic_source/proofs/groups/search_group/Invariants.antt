use Rattle.std.proofs.Common.{◌≡◌, ℕ, ◌<◌, ◌≤◌, ◌-◌, length, get_or}
use Rattle.std.specs.Cmp.Lexicographic.{slice_cmp}
use Rattle.std.specs.Ordering.{nat_cmp}
use Rattle.std.specs.declared.cmp.Ordering.TheVariants.{Less, Greater}
use Rattle.synthetic_source.specs.declared.groups.Group.{Group}
use Rattle.synthetic_source.proofs.groups.search_group.Given as goal

abbrev pub invariant-search : goal.invariant-search
invariant-search l = record {
  within : l.high ≤ length l.groups;
  ordered : l.low ≤ l.high;
  before : (k : ℕ) (d : Group) → k < l.low → slice_cmp nat_cmp (get_or l.groups k d).name.now l.name ≡ Less;
  after : (k : ℕ) (d : Group) → l.high ≤ k → k < length l.groups → slice_cmp nat_cmp (get_or l.groups k d).name.now l.name ≡ Greater;
}

abbrev pub decreases-search : goal.decreases-search
decreases-search l = l.high - l.low
