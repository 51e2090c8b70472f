-- Two lists of rows in row order made one: which of them each row comes from.
use Rattle.std.specs.Prelude.{ℕ, ℤ, int_lt, unsigned_abs, ◌+◌, if◌then◌else◌, List, [], ◌∷◌, ◌++◌, map, take, drop, replicate}
use Rattle.std.specs.Ordering.{nat_cmp}
use Rattle.std.specs.Cmp.Lexicographic.{slice_cmp}
use Rattle.std.specs.declared.cmp.Ordering.{Ordering}
use Rattle.std.specs.declared.cmp.Ordering.TheVariants.{Less, Equal, Greater}
use Rattle.row_cells.specs.declared.rows.Row.{Row}
use Rattle.row_cells.specs.Each.{Each}
use Rattle.column_block.specs.declared.kinds.Values.{Values}
use Rattle.column_block.specs.declared.kinds.Values.TheVariants.{Whole, Parts, Wholes, Words}
use Rattle.index_segment.specs.declared.shares.Counts.{Counts}
use Rattle.index_segment.specs.Directory.{Run, run_of}
use Rattle.row_cells.specs.RowLists.{AreApart}

-- no two of the lists have a series and a time in common
abbrev pub AreAllApart : List (List Row) → Type 0
AreAllApart [] = Unit {0}
AreAllApart (rows ∷ lists) = Each (AreApart rows) lists × AreAllApart lists

-- ---- series

-- a series, and how many rows each list has of it
pub record Joint : Type 0 where
  pub key : List ℕ
  pub rows : Counts

abbrev pub counts_of : ℕ → ℕ → Counts
counts_of first second = record { first = first; second = second }

abbrev pub joint : List ℕ → ℕ → ℕ → Joint
joint key first second = record { key = key; rows = counts_of first second }

abbrev pub by_order : {A : Type 0} → Ordering → A → A → A → A
by_order Less less equal greater = less
by_order Equal less equal greater = equal
by_order Greater less equal greater = greater

-- the series of two lists whose keys ascend, each once
abbrev pub joined_series : List Run → List Run → List Joint
joined_series [] [] = []
joined_series [] (b ∷ ys) = joint b.key 0 b.size ∷ joined_series [] ys
joined_series (a ∷ xs) [] = joint a.key a.size 0 ∷ joined_series xs []
joined_series (a ∷ xs) (b ∷ ys) = by_order (slice_cmp nat_cmp a.key b.key) (joint a.key a.size 0 ∷ joined_series xs (b ∷ ys)) (joint a.key a.size b.size ∷ joined_series xs ys) (joint b.key 0 b.size ∷ joined_series (a ∷ xs) ys)

-- keys, and how many rows each has
abbrev pub listed : List (List ℕ) → List ℤ → List Run
listed (key ∷ keys) (size ∷ sizes) = run_of key (unsigned_abs size) ∷ listed keys sizes
listed keys sizes = []

-- how many rows both lists have of each series
abbrev pub joint_sizes : List Counts → List ℕ
joint_sizes counts = map (λ c. c.first + c.second) counts

-- how many rows series have in the first list, and in the second
abbrev pub firsts : List Counts → ℕ
firsts [] = 0
firsts (c ∷ counts) = c.first + firsts counts

abbrev pub seconds : List Counts → ℕ
seconds [] = 0
seconds (c ∷ counts) = c.second + seconds counts

-- ---- rows

-- the list that a row comes from
pub data Side : Type 0 where
  First : Side
  Second : Side

-- where the rows of a series come from, by the times of both lists, of which the latest comes first
abbrev pub sides_by_time : List ℤ → List ℤ → List Side
sides_by_time [] [] = []
sides_by_time [] (b ∷ ys) = Second ∷ sides_by_time [] ys
sides_by_time (a ∷ xs) [] = First ∷ sides_by_time xs []
sides_by_time (a ∷ xs) (b ∷ ys) = if int_lt b a then First ∷ sides_by_time xs (b ∷ ys) else Second ∷ sides_by_time (a ∷ xs) ys

-- where the rows of all series come from
abbrev pub sides_of_series : List Counts → List ℤ → List ℤ → List Side
sides_of_series [] first second = []
sides_of_series (c ∷ counts) first second = sides_by_time (take c.first first) (take c.second second) ++ sides_of_series counts (drop c.first first) (drop c.second second)

-- so many rows of the first list and then so many of the second, and so on
abbrev pub sides : List Counts → List Side
sides [] = []
sides (c ∷ counts) = replicate c.first First ++ (replicate c.second Second ++ sides counts)

-- two lists as one, whose elements come from these sides
abbrev pub picked : {A : Type 0} → List Side → List A → List A → List A
picked [] first second = []
picked (First ∷ sides) [] second = picked sides [] second
picked (First ∷ sides) (a ∷ first) second = a ∷ picked sides first second
picked (Second ∷ sides) first [] = picked sides first []
picked (Second ∷ sides) first (b ∷ second) = b ∷ picked sides first second

-- ---- columns

-- columns of one kind as one. Those of two kinds have no rows in common
abbrev pub picked_values : List Side → Values → Values → Values
picked_values sides (Whole first) (Whole second) = Whole (picked sides first second)
picked_values sides (Parts first) (Parts second) = Parts (picked sides first second)
picked_values sides (Wholes first) (Wholes second) = Wholes (picked sides first second)
picked_values sides (Words first) (Words second) = Words (picked sides first second)
picked_values sides first second = Whole []

abbrev pub picked_columns : List Side → List Values → List Values → List Values
picked_columns sides (a ∷ first) (b ∷ second) = picked_values sides a b ∷ picked_columns sides first second
picked_columns sides first second = []
