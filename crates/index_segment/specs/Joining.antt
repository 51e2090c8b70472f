-- Steps of making two lists of series one.
use Rattle.std.specs.Prelude.{◌≡◌, ℕ, List, ◌++◌, drop, map}
use Rattle.index_segment.specs.declared.shares.Counts.{Counts}
use Rattle.index_segment.specs.declared.shares.Joined.{Joined}
use Rattle.index_segment.specs.Directory.{Run}
use Rattle.index_segment.specs.Merging.{Joint, joined_series}

-- the series from two places on
abbrev pub series_left : List Run → List Run → Counts → List Joint
series_left first second at = joined_series (drop at.first first) (drop at.second second)

abbrev pub keys_of_joints : List Joint → List (List ℕ)
keys_of_joints joints = map (λ j. j.key) joints

abbrev pub rows_of_joints : List Joint → List Counts
rows_of_joints joints = map (λ j. j.rows) joints

-- what was found and what is left is the same, before and after
pub record Goes (old new : Joined) (before after : List Joint) : Type 0 where
  pub keys : new.keys ++ keys_of_joints after ≡ old.keys ++ keys_of_joints before
  pub rows : new.rows ++ rows_of_joints after ≡ old.rows ++ rows_of_joints before
