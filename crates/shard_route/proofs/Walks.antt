-- Steps of the walk over the entries of a key.
use Rattle.std.specs.Prelude.{◌≡◌, ℕ, ◌<◌, true, false, Option, Some, None, IsNone, IsSomeAnd, List, [], ◌∷◌, ◌++◌, length}
use Rattle.std.proofs.Common.{ap, ◌∙◌, sym, subst, arith}
use Rattle.row_cells.specs.declared.scalars.Scalar.{Scalar}
use Rattle.row_cells.specs.Dimensions.{Dimension, IsDimension, dimension_bytes, key_bytes, AreDimensionsAfter}
use Rattle.shard_route.specs.Routing.{Looked, fnv_from, is_among, routing_hash, routing_part}
use Rattle.shard_route.specs.RoutingLaws.{Walked, walk_kept, walk_passed}

-- how an entry is read that a dimension spells
abbrev pub ReadsAs : List ℕ → List ℕ → List ℕ → List ℕ → Scalar → Type 0
ReadsAs rest path entry left value = (d : Dimension) (after : List ℕ) → IsDimension d → rest ≡ dimension_bytes d ++ after → (path ≡ d.path) × (entry ≡ dimension_bytes d) × (left ≡ after) × (value ≡ d.value)

module _ (left left' all : List (List ℕ)) (hash hash' : ℕ) (rest path entry after : List ℕ) (value : Scalar) (ds : List Dimension) (reads : ReadsAs rest path entry after value) (shorter : length after < length rest) (looked : Looked path left' left) where
  pub walk_on_kept : is_among path left ≡ true → hash' ≡ fnv_from hash entry → Walked left all hash rest ds → Walked left' all hash' after ds
  walk_on_kept is hash_is walked = go walked.dimensions walked.ascending walked.spelled walked.hashed
    where
      go : (es : List Dimension) → AreDimensionsAfter walked.below es → key_bytes es ≡ rest → routing_hash all ds ≡ fnv_from hash (key_bytes (routing_part left es)) → Walked left' all hash' after ds
      go [] ascending spelled hashed = absurd (omega (arith, shorter, ap length spelled))
      go (d ∷ es) ascending spelled hashed =
          let r = reads d (key_bytes es) ascending.1 (sym spelled) in
          let next = walk_kept left left' all hash walked.below d es ds ascending hashed (subst (λ p. Looked p left' left) r.0 looked) (subst (λ p. is_among p left ≡ true) r.0 is) in
          subst (λ h. Walked left' all h after ds) (sym (hash_is ∙ ap (fnv_from hash) r.1)) (subst (λ t. Walked left' all (fnv_from hash (dimension_bytes d)) t ds) (sym r.2) next)

  pub walk_on_passed : is_among path left ≡ false → hash' ≡ hash → Walked left all hash rest ds → Walked left' all hash' after ds
  walk_on_passed is hash_is walked = go walked.dimensions walked.ascending walked.spelled walked.hashed
    where
      go : (es : List Dimension) → AreDimensionsAfter walked.below es → key_bytes es ≡ rest → routing_hash all ds ≡ fnv_from hash (key_bytes (routing_part left es)) → Walked left' all hash' after ds
      go [] ascending spelled hashed = absurd (omega (arith, shorter, ap length spelled))
      go (d ∷ es) ascending spelled hashed =
          let r = reads d (key_bytes es) ascending.1 (sym spelled) in
          let next = walk_passed left left' all hash walked.below d es ds ascending hashed (subst (λ p. Looked p left' left) r.0 looked) (subst (λ p. is_among p left ≡ false) r.0 is) in
          subst (λ h. Walked left' all h after ds) (sym hash_is) (subst (λ t. Walked left' all hash t ds) (sym r.2) next)

-- where no entry is left, the hash is whole
pub walk_done : (left all : List (List ℕ)) (hash : ℕ) (rest : List ℕ) (ds : List Dimension) → ((d : Dimension) (after : List ℕ) → IsDimension d → rest ≡ dimension_bytes d ++ after → ⊥) → Walked left all hash rest ds → hash ≡ routing_hash all ds
walk_done left all hash rest ds none walked = go walked.dimensions walked.ascending walked.spelled walked.hashed
  where
    go : (es : List Dimension) → AreDimensionsAfter walked.below es → key_bytes es ≡ rest → routing_hash all ds ≡ fnv_from hash (key_bytes (routing_part left es)) → hash ≡ routing_hash all ds
    go [] ascending spelled hashed = sym hashed
    go (d ∷ es) ascending spelled hashed = absurd (none d (key_bytes es) ascending.1 (sym spelled))

pub not_absent : {A : Type 0} (P : A → Type 0) (o : Option A) → IsNone o → IsSomeAnd o P → ⊥
not_absent P None none some = some
not_absent P (Some x) none some = cc none
