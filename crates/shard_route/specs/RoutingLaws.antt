-- Paths of routing fields that ascend, and what a walk over a key beside them finds.
use Rattle.std.specs.Prelude.{◌≡◌, ℕ, zero, suc, ◌*◌, ◌%◌, ◌^◌, ◌<◌, ◌||◌, bit_xor, Bool, true, false, List, [], ◌∷◌, ◌++◌, length}
use Rattle.std.specs.List.{slice_get}
use Rattle.std.specs.Cmp.Lexicographic.{slice_cmp}
use Rattle.std.specs.Ordering.{nat_cmp}
use Rattle.std.specs.declared.cmp.Ordering.TheVariants.{Less, Equal, Greater}
use Rattle.std.proofs.Common.{refl, ap, ◌∙◌, sym, subst, arith}
use Rattle.std.proofs.lemmas.Map.Lookups.{exact_bytes}
use Rattle.row_cells.specs.declared.schemas.Field.{Field}
use Rattle.row_cells.specs.Dimensions.{Dimension, dimension_bytes, key_bytes, IsBefore, AreDimensions, AreDimensionsAfter}
use Rattle.row_cells.specs.Fitting.{FieldsAscend, FieldsAscendAfter}
use Rattle.row_cells.specs.JoinLaws.{before_chain, after_is, before_of_after}
use Rattle.shard_route.specs.Routing.{AscendAfter, Ascend, Looked, path_of, routing_paths, is_equal, is_among, kept, routing_part, fnv_from, routing_hash}
use Rattle.row_cells.specs.Mapped.{PlacesAscendFrom, PlacesAscend}

pub lower : (p q : List ℕ) (ps : List (List ℕ)) → IsBefore p q → AscendAfter q ps → AscendAfter p ps
lower p q [] before ascend = tt
lower p q (r ∷ ps) before ascend = (before_chain p q r before ascend.0, ascend.1)

first_before : (below : List ℕ) (fs : List Field) (place : ℕ) → FieldsAscendAfter below fs → place < length fs → IsBefore below (path_of (slice_get fs place))
first_before below [] place ascend within = absurd (omega (arith, within))
first_before below (f ∷ fs) zero ascend within = ascend.0
first_before below (f ∷ fs) (suc place) ascend within =
    before_chain below f.path (path_of (slice_get fs place)) ascend.0 (first_before f.path fs place ascend.1 (omega (arith, within)))

place_before : (below : List ℕ) (fs : List Field) (i j : ℕ) → FieldsAscendAfter below fs → i < j → j < length fs → IsBefore (path_of (slice_get fs i)) (path_of (slice_get fs j))
place_before below [] i j ascend less within = absurd (omega (arith, within))
place_before below (f ∷ fs) i zero ascend less within = absurd (omega (arith, less))
place_before below (f ∷ fs) zero (suc j) ascend less within = first_before f.path fs j ascend.1 (omega (arith, within))
place_before below (f ∷ fs) (suc i) (suc j) ascend less within = place_before f.path fs i j ascend.1 (omega (arith, less)) (omega (arith, within))

paths_after : (fields : List Field) (at : ℕ) (places : List ℕ) → FieldsAscend fields → PlacesAscendFrom (suc at) (length fields) places → AscendAfter (path_of (slice_get fields at)) (routing_paths fields places)
paths_after fields at [] ascend are = tt
paths_after fields at (place ∷ places) ascend are =
    (place_before [] fields at place ascend (omega (arith, are.0)) are.1, paths_after fields place places ascend are.2)

-- the paths of fields that ascend, at places that ascend
pub paths_ascend : (fields : List Field) (places : List ℕ) → FieldsAscend fields → PlacesAscend (length fields) places → Ascend (routing_paths fields places)
paths_ascend fields [] ascend are = tt
paths_ascend fields (place ∷ places) ascend are = (first_before [] fields place ascend are.1, paths_after fields place places ascend are.2)

none_after : (path below : List ℕ) (ps : List (List ℕ)) → IsBefore path below → AscendAfter below ps → is_among path ps ≡ false
none_after path below [] before ascend = refl
none_after path below (p ∷ ps) before ascend =
    let later : IsBefore path p = before_chain path below p before ascend.0 in
    ap (λ o. is_equal o || is_among path ps) (after_is path p later) ∙ none_after path p ps later ascend.1

-- ---- the first of the paths that are left, against the path looked for

drop_first : (p q : List ℕ) (ps : List (List ℕ)) → IsBefore p q → is_among q ps ≡ is_among q (p ∷ ps)
drop_first p q ps before = sym (ap (λ o. is_equal o || is_among q ps) before)

rest_ascends : (p : List ℕ) (ps : List (List ℕ)) → Ascend (p ∷ ps) → Ascend ps
rest_ascends p ps ascend = lower [] p ps ascend.0 ascend.1

pub look_less : (path p : List ℕ) (ps all : List (List ℕ)) → slice_cmp nat_cmp p path ≡ Less → Looked path (p ∷ ps) all → Looked path ps all
look_less path p ps all less looked = record {
  ascend = rest_ascends p ps looked.ascend;
  later = λ q before. drop_first p q ps (before_chain p path q less before) ∙ looked.later q before;
}

pub among_less : (path p : List ℕ) (ps : List (List ℕ)) → slice_cmp nat_cmp p path ≡ Less → is_among path (p ∷ ps) ≡ is_among path ps
among_less path p ps less = ap (λ o. is_equal o || is_among path ps) less

pub look_equal : (path p : List ℕ) (ps all : List (List ℕ)) → slice_cmp nat_cmp p path ≡ Equal → Looked path (p ∷ ps) all → Looked path ps all
look_equal path p ps all equal looked = record {
  ascend = rest_ascends p ps looked.ascend;
  later = λ q before. drop_first p q ps (subst (λ r. IsBefore r q) (sym (exact_bytes p path equal)) before) ∙ looked.later q before;
}

pub among_equal : (path p : List ℕ) (ps : List (List ℕ)) → slice_cmp nat_cmp p path ≡ Equal → is_among path (p ∷ ps) ≡ true
among_equal path p ps equal = ap (λ o. is_equal o || is_among path ps) equal

pub among_greater : (path p : List ℕ) (ps : List (List ℕ)) → slice_cmp nat_cmp p path ≡ Greater → Ascend (p ∷ ps) → is_among path (p ∷ ps) ≡ false
among_greater path p ps greater ascend =
    ap (λ o. is_equal o || is_among path ps) greater ∙ none_after path p ps (before_of_after p path greater) ascend.1

-- ---- the walk over a key

pub fnv_joined : (hash : ℕ) (a b : List ℕ) → fnv_from hash (a ++ b) ≡ fnv_from (fnv_from hash a) b
fnv_joined hash [] b = refl
fnv_joined hash (x ∷ a) b = fnv_joined (bit_xor hash x * 1099511628211 % 2 ^ 64) a b

-- where a walk over the key of some dimensions has come
pub record Walked (left all : List (List ℕ)) (hash : ℕ) (rest : List ℕ) (ds : List Dimension) : Type 0 where
  pub below : List ℕ
  pub dimensions : List Dimension
  pub ascending : AreDimensionsAfter below dimensions
  pub spelled : key_bytes dimensions ≡ rest
  pub hashed : routing_hash all ds ≡ fnv_from hash (key_bytes (routing_part left dimensions))

part_same : (below : List ℕ) (ps qs : List (List ℕ)) (ds : List Dimension) → AreDimensionsAfter below ds → ((q : List ℕ) → IsBefore below q → is_among q qs ≡ is_among q ps) → routing_part qs ds ≡ routing_part ps ds
part_same below ps qs [] are same = refl
part_same below ps qs (d ∷ ds) are same =
    let rest = part_same d.path ps qs ds are.2 (λ q before. same q (before_chain below d.path q are.0 before)) in
    ap (λ here. kept here d (routing_part qs ds)) (same d.path are.0) ∙ ap (λ part. kept (is_among d.path ps) d part) rest

pub walk_begun : (all : List (List ℕ)) (bytes : List ℕ) (ds : List Dimension) → AreDimensions ds → key_bytes ds ≡ bytes → Walked all all 14695981039346656037 bytes ds
walk_begun all bytes ds are spelled = record { below = []; dimensions = ds; ascending = are; spelled = spelled; hashed = refl }

hash_kept : (here : Bool) (hash : ℕ) (d : Dimension) (part : List Dimension) → here ≡ true → fnv_from hash (key_bytes (kept here d part)) ≡ fnv_from (fnv_from hash (dimension_bytes d)) (key_bytes part)
hash_kept true hash d part is = fnv_joined hash (dimension_bytes d) (key_bytes part)
hash_kept false hash d part is = cc

hash_passed : (here : Bool) (hash : ℕ) (d : Dimension) (part : List Dimension) → here ≡ false → fnv_from hash (key_bytes (kept here d part)) ≡ fnv_from hash (key_bytes part)
hash_passed false hash d part is = refl
hash_passed true hash d part is = cc

module _ (left left' all : List (List ℕ)) (hash : ℕ) (below : List ℕ) (d : Dimension) (es ds : List Dimension) (ascending : AreDimensionsAfter below (d ∷ es)) (hashed : routing_hash all ds ≡ fnv_from hash (key_bytes (routing_part left (d ∷ es)))) (looked : Looked d.path left' left) where
  same_part : routing_part left' es ≡ routing_part left es
  same_part = part_same d.path left left' es ascending.2 looked.later

  pub walk_kept : is_among d.path left ≡ true → Walked left' all (fnv_from hash (dimension_bytes d)) (key_bytes es) ds
  walk_kept is = record {
    below = d.path;
    dimensions = es;
    ascending = ascending.2;
    spelled = refl;
    hashed = hashed ∙ (hash_kept (is_among d.path left) hash d (routing_part left es) is ∙ ap (λ part. fnv_from (fnv_from hash (dimension_bytes d)) (key_bytes part)) (sym same_part));
  }

  pub walk_passed : is_among d.path left ≡ false → Walked left' all hash (key_bytes es) ds
  walk_passed is = record {
    below = d.path;
    dimensions = es;
    ascending = ascending.2;
    spelled = refl;
    hashed = hashed ∙ (hash_passed (is_among d.path left) hash d (routing_part left es) is ∙ ap (λ part. fnv_from hash (key_bytes part)) (sym same_part));
  }
