-- Tables of bytes by keys, and changes of them.
use Rattle.std.specs.Prelude.{◌≢◌, ℕ, List, [], ◌∷◌, Option}
use Rattle.std.specs.Ordering.{nat_cmp}
use Rattle.std.specs.Cmp.Lexicographic.{slice_cmp}
use Rattle.std.specs.Map.{lookup, remove_entry}
use Rattle.std.specs.BTreeMap.{insert_entry, is_at}
use Rattle.edge_face.specs.declared.keeper.Change.{Change}
use Rattle.edge_face.specs.declared.keeper.Change.TheVariants.{Put, Remove}

-- keys with their bytes, ascending by key in the order of bytes
abbrev pub Table : Type 0
Table = List (List ℕ × List ℕ)

-- the bytes at a key
abbrev pub bytes_at : List ℕ → Table → Option (List ℕ)
bytes_at key table = lookup (is_at (slice_cmp nat_cmp key)) table

-- the table with other bytes at a key, or without the key
abbrev pub changed : Table → Change → Table
changed table (Put key bytes) = insert_entry (slice_cmp nat_cmp) table key bytes
changed table (Remove key) = remove_entry (is_at (slice_cmp nat_cmp key)) table

-- the changes one after another
abbrev pub changed_by : Table → List Change → Table
changed_by table [] = table
changed_by table (change ∷ changes) = changed_by (changed table change) changes

abbrev pub key_of : Change → List ℕ
key_of (Put key bytes) = key
key_of (Remove key) = key

-- no change is of that key
abbrev pub LeaveKey : List ℕ → List Change → Type 0
LeaveKey key [] = Unit {0}
LeaveKey key (change ∷ changes) = (key_of change ≢ key) × LeaveKey key changes

-- no two changes are of one key
abbrev pub HaveDistinctKeys : List Change → Type 0
HaveDistinctKeys [] = Unit {0}
HaveDistinctKeys (change ∷ changes) = LeaveKey (key_of change) changes × HaveDistinctKeys changes
