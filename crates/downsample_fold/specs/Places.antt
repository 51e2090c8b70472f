-- The places of rows: a series and a bucket each.
use Rattle.std.specs.Prelude.{ℕ, ℤ, Bool, ◌&&◌, not, List, [], ◌∷◌, filter}
use Rattle.std.specs.List.{list_any}
use Rattle.std.specs.Str.{bytes_eq}
use Rattle.std.specs.Ordering.{int_eq}
use Rattle.time_text.specs.Bucket.{bucket_start}
use Rattle.row_cells.specs.declared.rows.Row.{Row}

-- a series by its key, and a bucket of it by its start
pub record Place : Type 0 where
  pub key : List ℕ
  pub start : ℤ

-- the place of a row among buckets of n milliseconds
abbrev pub place_of : ℕ → Row → Place
place_of n row = record { key = row.key; start = bucket_start n row.time }

-- the place that a folded row stands at
abbrev pub own_place : Row → Place
own_place row = record { key = row.key; start = row.time }

abbrev pub same_place : Place → Place → Bool
same_place p q = bytes_eq p.key q.key && int_eq p.start q.start

-- the places of rows, each once, in the order of their first rows
abbrev pub places : ℕ → List Row → List Place
places n [] = []
places n (row ∷ rows) = place_of n row ∷ filter (λ place. not (same_place (place_of n row) place)) (places n rows)

-- the rows of one place
abbrev pub rows_at : ℕ → Place → List Row → List Row
rows_at n place rows = filter (λ row. same_place (place_of n row) place) rows

-- the rows of one series
abbrev pub rows_of : List ℕ → List Row → List Row
rows_of key rows = filter (λ row. bytes_eq row.key key) rows

-- the keys of rows, each once, in the order of their first rows
abbrev pub keys_of : List Row → List (List ℕ)
keys_of [] = []
keys_of (row ∷ rows) = row.key ∷ filter (λ key. not (bytes_eq row.key key)) (keys_of rows)

-- whether a key is among these
abbrev pub has_key : List (List ℕ) → List ℕ → Bool
has_key keys key = list_any (λ one. bytes_eq one key) keys
