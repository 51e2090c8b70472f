-- The series of rows: their keys, and how many rows each has.
use Rattle.std.specs.Prelude.{ℕ, zero, suc, ◌+◌, if◌then◌else◌, List, [], ◌∷◌, ◌++◌, map, replicate}
use Rattle.std.specs.Str.{bytes_eq}
use Rattle.row_cells.specs.declared.rows.Row.{Row}

-- a key, and how many rows that stand together have it
pub record Run : Type 0 where
  pub key : List ℕ
  pub size : ℕ

abbrev pub run_of : List ℕ → ℕ → Run
run_of key size = record { key = key; size = size }

-- one row in front of the runs of those behind it
abbrev pub with_key : List ℕ → List Run → List Run
with_key key [] = run_of key 1 ∷ []
with_key key (run ∷ runs) = if bytes_eq key run.key then run_of run.key (run.size + 1) ∷ runs else run_of key 1 ∷ run ∷ runs

-- the runs of equal keys
abbrev pub runs_of : List (List ℕ) → List Run
runs_of [] = []
runs_of (key ∷ keys) = with_key key (runs_of keys)

-- how many keys from the front on are the key
abbrev pub same_in_front : List ℕ → List (List ℕ) → ℕ
same_in_front key [] = 0
same_in_front key (k ∷ keys) = if bytes_eq k key then suc (same_in_front key keys) else 0

abbrev pub row_keys : List Row → List (List ℕ)
row_keys rows = map (λ row. row.key) rows

-- the keys of rows, each once
unfoldable pub keys_of : List Row → List (List ℕ)
keys_of rows = map (λ run. run.key) (runs_of (row_keys rows))

-- how many rows each key has
unfoldable pub sizes_of : List Row → List ℕ
sizes_of rows = map (λ run. run.size) (runs_of (row_keys rows))

-- how many rows stand before each series, and before the end
abbrev pub starts_from : ℕ → List ℕ → List ℕ
starts_from at [] = at ∷ []
starts_from at (size ∷ sizes) = at ∷ starts_from (at + size) sizes

-- the key of each row
abbrev pub spread : List (List ℕ) → List ℕ → List (List ℕ)
spread (key ∷ keys) (size ∷ sizes) = replicate size key ++ spread keys sizes
spread keys sizes = []

-- how many rows stand before a series
abbrev pub total : ℕ → List ℕ → ℕ
total zero sizes = 0
total (suc s) [] = 0
total (suc s) (n ∷ ns) = n + total s ns
