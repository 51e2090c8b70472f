-- Parameters of a query.
use Rattle.std.specs.Prelude.{ℕ, Bool, ◌||◌, List, codes, bytes_eq}
use Rattle.std.specs.List.{list_all}
use Rattle.std.specs.Str.Lossy.{utf8_lossy}
use Rattle.form_urlencoded.specs.Form.{raw_pairs, decode}

-- the name, decoded, is that of a parameter that is taken
unfoldable pub is_known : List ℕ → Bool
is_known name = bytes_eq (utf8_lossy (decode name)) (codes "refresh") || bytes_eq (utf8_lossy (decode name)) (codes "pretty")

abbrev pub all_known : List (List ℕ × List ℕ) → Bool
all_known pairs = list_all (λ pair. is_known pair.0) pairs

unfoldable pub are_known : List ℕ → Bool
are_known query = all_known (raw_pairs query)
