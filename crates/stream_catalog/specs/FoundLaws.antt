-- What is known of a stream that is found by its name.
use Rattle.std.specs.Prelude.{◌≡◌, ◌⊎◌, ℕ, List, [], ◌∷◌, Some}
use Rattle.stream_catalog.specs.Lists.{stream_name, stream_named}
use Rattle.stream_catalog.specs.Plain.{PlainStream, PlainCatalog, facts_of}
use Rattle.stream_catalog.specs.Sound.{IsStreamSound, IsSoundCatalog}

abbrev pub IsStreamAmong : PlainStream → List PlainStream → Type 0
IsStreamAmong s [] = ⊥
IsStreamAmong s (t ∷ ts) = (s ≡ t) ⊎ IsStreamAmong s ts

-- it is one of the catalogue's streams, has that name, and is sound
pub record IsFoundStream (c : PlainCatalog) (n : List ℕ) (s : PlainStream) : Type 0 where
  pub among : IsStreamAmong s c.streams
  pub name : stream_name s ≡ n
  pub sound : IsStreamSound (facts_of c) s

abbrev pub StreamsFound : Type 0
StreamsFound = (c : PlainCatalog) (n : List ℕ) (s : PlainStream) → IsSoundCatalog c → stream_named n c.streams ≡ Some s → IsFoundStream c n s
