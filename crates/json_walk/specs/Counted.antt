-- How many leaves a tree has.
use Rattle.std.specs.Prelude.{ℕ, ◌+◌}
use Rattle.serde_json.specs.Data.{Data, null, boolean, number, string, array, object, Items, no_items, item, Members, no_members, member}

-- the values that are neither a list nor an object; null counts too
abbrev mutual
  pub leaf_count : Data → ℕ
  leaf_count null = 1
  leaf_count (boolean b) = 1
  leaf_count (number n) = 1
  leaf_count (string s) = 1
  leaf_count (array ds) = items_leaves ds
  leaf_count (object ms) = members_leaves ms

  pub items_leaves : Items → ℕ
  items_leaves no_items = 0
  items_leaves (item d ds) = leaf_count d + items_leaves ds

  pub members_leaves : Members → ℕ
  members_leaves no_members = 0
  members_leaves (member k d ms) = leaf_count d + members_leaves ms
