-- Which window of a stream's members has a time, for private clauses.
use Rattle.std.specs.Prelude.{◌≡◌, ℕ, suc, ℤ, ◌<ℤ◌, int_le, int_lt, Bool, false, List, [], ◌∷◌, map, Option, Some, None, Result, Ok, Err, if◌then◌else◌}
use Rattle.stream_catalog.specs.declared.answers.PickError.{PickError}
use Rattle.stream_catalog.specs.declared.answers.PickError.TheVariants.{NoWindow, Blocked}
use Rattle.stream_catalog.specs.declared.facts.HeldIndex.{HeldIndex}
use Rattle.stream_catalog.specs.Lists.{facts_named}
use Rattle.stream_catalog.specs.Puts.{has_time}
use Rattle.stream_catalog.specs.Sound.{WindowsFollow}

-- the windows of members stand one behind the other, and each has some time
pub record AreWindows (is : List HeldIndex) (ms : List (List ℕ)) : Type 0 where
  pub some : (m : List ℕ) (i : HeldIndex) → facts_named m is ≡ Some i → i.start <ℤ i.end
  pub follow : WindowsFollow (map (λ m. facts_named m is) ms)

-- a window has begun by a time
abbrev pub has_begun : ℤ → Option HeldIndex → Bool
has_begun t None = false
has_begun t (Some i) = int_le i.start t

-- how many at the front have
abbrev pub begun_of : List HeldIndex → ℤ → List (List ℕ) → ℕ
begun_of is t [] = 0
begun_of is t (m ∷ ms) = if has_begun t (facts_named m is) then suc (begun_of is t ms) else 0

-- an index whose window hasn't ended at a time
abbrev pub open_at : ℤ → Option HeldIndex → Option HeldIndex
open_at t None = None
open_at t (Some i) = if int_lt t i.end then Some i else None

-- an index whose window has a time, or else another one
abbrev pub having : ℤ → Option HeldIndex → Option HeldIndex → Option HeldIndex
having t None later = later
having t (Some i) later = if has_time i t then Some i else later

-- the first member whose window has a time
abbrev pub window_at : List HeldIndex → ℤ → List (List ℕ) → Option HeldIndex
window_at is t [] = None
window_at is t (m ∷ ms) = having t (facts_named m is) (window_at is t ms)

-- it takes documents
abbrev pub taken_by : Option HeldIndex → Result HeldIndex PickError
taken_by None = Err NoWindow
taken_by (Some i) = if i.blocked then Err Blocked else Ok i
