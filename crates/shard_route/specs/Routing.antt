-- The shard that a series goes to.
use Rattle.std.specs.Prelude.{◌≡◌, ℕ, ◌*◌, ◌%◌, ◌^◌, ◌||◌, Bool, true, false, List, [], ◌∷◌, Option, Some, None, bit_xor}
use Rattle.std.specs.List.{slice_get}
use Rattle.std.specs.Cmp.Lexicographic.{slice_cmp}
use Rattle.std.specs.Ordering.{nat_cmp}
use Rattle.std.specs.declared.cmp.Ordering.{Ordering}
use Rattle.std.specs.declared.cmp.Ordering.TheVariants.{Less, Equal, Greater}
use Rattle.row_cells.specs.declared.schemas.Field.{Field}
use Rattle.row_cells.specs.declared.schemas.Schema.{Schema}
use Rattle.row_cells.specs.Dimensions.{Dimension, IsBefore, key_bytes}
use Rattle.row_cells.specs.Heads.{dimensions_in}

abbrev pub path_of : Option Field → List ℕ
path_of None = []
path_of (Some field) = field.path

-- the paths of the routing fields
abbrev pub routing_paths : List Field → List ℕ → List (List ℕ)
routing_paths fields [] = []
routing_paths fields (place ∷ places) = path_of (slice_get fields place) ∷ routing_paths fields places

abbrev pub is_equal : Ordering → Bool
is_equal Less = false
is_equal Equal = true
is_equal Greater = false

-- the path is one of some paths
abbrev pub is_among : List ℕ → List (List ℕ) → Bool
is_among path [] = false
is_among path (p ∷ ps) = is_equal (slice_cmp nat_cmp p path) || is_among path ps

-- paths that ascend strictly, all of them after the path `below`
abbrev pub AscendAfter : List ℕ → List (List ℕ) → Type 0
AscendAfter below [] = Unit {0}
AscendAfter below (p ∷ ps) = IsBefore below p × AscendAfter p ps

-- paths that ascend strictly
abbrev pub Ascend : List (List ℕ) → Type 0
Ascend paths = AscendAfter [] paths

-- what a look for a path leaves: of the later paths the same are left
pub record Looked (path : List ℕ) (left all : List (List ℕ)) : Type 0 where
  pub ascend : Ascend left
  pub later : (q : List ℕ) → IsBefore path q → is_among q left ≡ is_among q all

abbrev pub kept : Bool → Dimension → List Dimension → List Dimension
kept true d ds = d ∷ ds
kept false d ds = ds

-- the dimensions whose paths are among those of the routing fields
abbrev pub routing_part : List (List ℕ) → List Dimension → List Dimension
routing_part paths [] = []
routing_part paths (d ∷ ds) = kept (is_among d.path paths) d (routing_part paths ds)

-- FNV-1a of 64 bits goes on: each byte is first joined to the hash by exclusive or, then the hash is multiplied by the prime
abbrev pub fnv_from : ℕ → List ℕ → ℕ
fnv_from hash [] = hash
fnv_from hash (b ∷ bs) = fnv_from (bit_xor hash b * 1099511628211 % 2 ^ 64) bs

-- FNV-1a of 64 bits
abbrev pub fnv1a : List ℕ → ℕ
fnv1a bytes = fnv_from 14695981039346656037 bytes

-- the hash of the bytes of the routing part
abbrev pub routing_hash : List (List ℕ) → List Dimension → ℕ
routing_hash paths ds = fnv1a (key_bytes (routing_part paths ds))

-- the shard of a series of these dimensions
abbrev pub shard_with : Schema → List Dimension → ℕ → ℕ
shard_with schema ds shards = routing_hash (routing_paths schema.fields schema.routing) ds % shards

-- the shard of a series by the bytes of its key
abbrev pub shard_of_key : Schema → List ℕ → ℕ → ℕ
shard_of_key schema key shards = shard_with schema (dimensions_in key) shards
