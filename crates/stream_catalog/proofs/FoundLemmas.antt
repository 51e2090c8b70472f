-- A stream that is found by its name.
use Rattle.std.specs.Prelude.{◌≡◌, ℕ, Bool, true, false, bytes_eq, List, [], ◌∷◌, Some, if◌then◌else◌}
use Rattle.std.proofs.Common.{sym, inl, inr}
use Rattle.std.proofs.lemmas.Slice.Eq.{bytes_eq-Decides}
use Rattle.stream_catalog.specs.FoundLaws.{IsStreamAmong, StreamsFound}
use Rattle.stream_catalog.specs.Lists.{stream_name, stream_named}
use Rattle.stream_catalog.specs.Plain.{PlainStream, facts_of}
use Rattle.stream_catalog.specs.Sound.{IsStreamSound}
use Rattle.stream_catalog.proofs.NamedLemmas.{none_not_some, some_is, each_found, found_name}

stream_among : (n : List ℕ) (ss : List PlainStream) (s : PlainStream) → stream_named n ss ≡ Some s → IsStreamAmong s ss
stream_among n [] s found = absurd (none_not_some found)
stream_among n (t ∷ ts) s found = by_test (bytes_eq (stream_name t) n) found (stream_among n ts s)
  where
    by_test : (b : Bool) → (if b then Some t else stream_named n ts) ≡ Some s → (stream_named n ts ≡ Some s → IsStreamAmong s ts) → IsStreamAmong s (t ∷ ts)
    by_test true here later = inl (sym (some_is here))
    by_test false there later = inr (later there)

pub streams_found : StreamsFound
streams_found c n s sound found = record {
  among = stream_among n c.streams s found;
  name = (bytes_eq-Decides (stream_name s) n).0 (found_name stream_name n c.streams s found);
  sound = each_found stream_name (IsStreamSound (facts_of c)) n c.streams s found sound.facts.streams;
}
