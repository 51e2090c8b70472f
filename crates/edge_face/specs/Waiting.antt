-- A window of bytes that were taken from a source and not yet passed.
use Rattle.std.specs.Prelude.{◌≡◌, ℕ, ◌++◌, List, [], Bool, true, Option, IfSome}
use Rattle.edge_face.specs.Contents.{preceded}

-- the bytes that wait, whether the source has ended, and how many bytes can wait at once
pub record Waiting : Type 0 where
  pub bytes : List ℕ
  pub ended : Bool
  pub capacity : ℕ

-- a source that is known to have ended has nothing left
abbrev pub KnowsEnd : Bool → Option (List ℕ) → Type 0
KnowsEnd ended left = ended ≡ true → IfSome left (λ rest. rest ≡ [])

-- bytes were taken from the source and wait behind those that waited
pub record Grew (before now : List ℕ) (old new : Option (List ℕ)) : Type 0 where
  pub more : List ℕ
  pub waits : now ≡ before ++ more
  pub taken : old ≡ preceded more new
