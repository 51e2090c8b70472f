-- What a catalogue in memory stands for: facts, with the rows of each index beside them.
use Rattle.std.specs.Prelude.{◌≡◌, ℕ, List, [], ◌∷◌}
use Rattle.tsds_index.specs.Spread.{rows_of}
use Rattle.stream_catalog.specs.declared.facts.HeldIndex.{HeldIndex}
use Rattle.stream_catalog.specs.declared.held_rows.HeldRows.{HeldRows}
use Rattle.stream_catalog.specs.Plain.{PlainIndex, PlainCatalog, PlainFacts}
use Rattle.stream_catalog.specs.Sound.{IsSeenCatalog}

-- the name that rows stand under
abbrev pub rows_name : HeldRows → List ℕ
rows_name x = x.name

-- an index, of its facts and its rows
abbrev pub index_of : HeldIndex → HeldRows → PlainIndex
index_of i x = record { facts = i; rows = rows_of x.index }

abbrev pub joined : List HeldIndex → List HeldRows → List PlainIndex
joined [] xs = []
joined (i ∷ is) [] = []
joined (i ∷ is) (x ∷ xs) = index_of i x ∷ joined is xs

abbrev pub catalog_of : PlainFacts → List HeldRows → PlainCatalog
catalog_of f xs = record { templates = f.templates; streams = f.streams; indices = joined f.indices xs; tasks = f.tasks }

-- rows stand under the name of an index, and are of its schema
pub record AreRowsBy (i : HeldIndex) (x : HeldRows) : Type 0 where
  pub name : x.name ≡ i.name
  pub schema : x.index.schema ≡ i.mapping.schema

-- each index has its rows in its place
abbrev pub AreBeside : List HeldIndex → List HeldRows → Type 0
AreBeside [] [] = Unit {0}
AreBeside (i ∷ is) (x ∷ xs) = AreRowsBy i x × AreBeside is xs
AreBeside is xs = ⊥

-- what a catalogue in memory keeps
pub record IsHeldCatalog (f : PlainFacts) (xs : List HeldRows) : Type 0 where
  pub seen : IsSeenCatalog (catalog_of f xs)
  pub beside : AreBeside f.indices xs
