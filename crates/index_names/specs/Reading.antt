-- Names of backing indices, and what they tell.
use Rattle.std.specs.Prelude.{◌≡◌, ℕ, ◌*◌, ◌/◌, ◌++◌, List, length, codes, ℤ, pos, unsigned_abs}
use Rattle.std.specs.Int.{IsInRange}
use Rattle.time_text.specs.Instant.{IsInstant}
use Rattle.time_text.specs.Printed.{day_text}
use Rattle.index_names.specs.Backing.{greatest_generation, six_digits, IsBackingOf}
use Rattle.index_names.specs.declared.reading.Cut.{Cut}

-- the bytes are the name of a backing index
abbrev pub IsBackingName : List ℕ → Type 0
IsBackingName name = (stream : List ℕ) × (now : ℤ) × (generation : ℕ) × IsBackingOf name stream now generation

-- the first instant of an instant's day
abbrev pub midnight : ℤ → ℤ
midnight t = pos (unsigned_abs t / 86_400_000 * 86_400_000)

-- the name is that of this stream, day and generation, where a day is its first instant
pub record IsToldBy (stream : List ℕ) (day : ℤ) (generation : ℕ) (name : List ℕ) : Type 0 where
  pub name_of : IsBackingOf name stream day generation
  pub at_midnight : day ≡ midnight day

-- ---- for private clauses

-- a day's first instant, where the day is shown so
pub record IsDayOf (day : ℤ) (shown : List ℕ) : Type 0 where
  pub in_range : IsInstant day
  pub at_midnight : day ≡ midnight day
  pub text : day_text day ≡ shown

abbrev pub IsNoDay : List ℕ → Type 0
IsNoDay shown = (t : ℤ) → IsInstant t → day_text t ≡ shown → ⊥

pub record IsGenerationOf (n : ℕ) (shown : List ℕ) : Type 0 where
  pub in_range : IsInRange 1 greatest_generation n
  pub text : six_digits n ≡ shown

abbrev pub IsNoGeneration : List ℕ → Type 0
IsNoGeneration shown = (n : ℕ) → IsInRange 1 greatest_generation n → six_digits n ≡ shown → ⊥

-- a name in the pieces of which a backing index's name is made
pub record IsCutOf (c : Cut) (name : List ℕ) : Type 0 where
  pub joined : name ≡ c.mark.now ++ (c.stream.now ++ (c.first_hyphen.now ++ (c.day.now ++ (c.second_hyphen.now ++ c.generation.now))))
  pub mark_long : length c.mark.now ≡ 4
  pub first_long : length c.first_hyphen.now ≡ 1
  pub day_long : length c.day.now ≡ 10
  pub second_long : length c.second_hyphen.now ≡ 1
  pub generation_long : length c.generation.now ≡ 6

-- the pieces that every such name has
pub record IsFramed (c : Cut) : Type 0 where
  pub mark : c.mark.now ≡ codes ".ds-"
  pub first : c.first_hyphen.now ≡ codes "-"
  pub second : c.second_hyphen.now ≡ codes "-"
