use Rattle.std.specs.Prelude.{◌≡◌, ◌↔◌, ℕ, ◌≤◌, ◌<◌, List, take, sum, Contains, IsTrue}
use Rattle.column_pack.specs.declared.sound.Spread.{Spread}
use Rattle.column_pack.specs.declared.summary.Measure.{Measure}
use Rattle.column_pack.specs.Block.{rises, falls, layout, counted}
use Rattle.column_pack.specs.Parts.{block_with, IsSound}
use Rattle.column_pack.specs.declared.unpack.Fields.{Fields}
use Rattle.column_pack.specs.Digits.{greatest_of}
use Rattle.column_pack.specs.Factor.{IsDivisor}

-- what is known of residuals
pub record IsSpread (rs : List ℕ) (s : Spread) : Type 0 where
  pub most : s.greatest ≡ greatest_of rs
  pub common : IsDivisor s.divisor rs
  pub whole : s.total ≡ sum rs
  pub zero : IsTrue s.has_zero ↔ Contains rs 0
  pub up : s.rises ≡ rises rs
  pub down : s.falls ≡ falls rs

-- the same of residuals that are known to be a block's
pub record IsMeasure (rs : List ℕ) (m : Measure) : Type 0 where
  pub most : m.greatest ≡ greatest_of rs
  pub whole : m.total ≡ sum rs

-- bytes are those of the block with these fields and the first of the residuals
pub record IsRead (bytes : List ℕ) (f : Fields) (rs : List ℕ) : Type 0 where
  pub some : 0 < f.count
  pub few : f.count ≤ 128
  pub sound : IsSound (block_with f.header (take f.count rs))
  pub same : bytes ≡ layout (block_with f.header (take f.count rs))
  pub spread : IsSpread (counted f.header.kind (take f.count rs)) f.spread
