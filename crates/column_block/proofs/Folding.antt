-- Folds that go on block by block.
use Rattle.std.proofs.Common.{◌≡◌, ℕ, ℤ, pos, negsuc, suc, ◌+◌, ◌-◌, ◌*◌, ◌/◌, ◌<◌, ◌≤◌, ◌^◌, ◌≤ℤ◌, ◌+ℤ◌, List, [], ◌∷◌, ◌++◌, length, get_or, take, drop, map, to_z, of_z, refl, sym, ◌∙◌, ap, subst, arith}
use Rattle.std.specs.Prelude.{Option, Some, slice_range, FitsSigned, unsigned_abs}
use Rattle.std.specs.Int.{w64, w128, int_min, int_max}
use Rattle.std.specs.List.{All, Contains}
use Rattle.std.proofs.lemmas.Int.{ints, clamps, to_z-of_z}
use Rattle.std.proofs.lemmas.List.{length-map, length-take, length-drop, get_or-map, get_or-take, get_or-drop, get_or_append_left}
use Rattle.std.proofs.lemmas.List.Elements.{All-head, All-tail, All-nil, All-cons, All-contains, All-get_or, All-take, All-drop}
use Rattle.std.proofs.lemmas.List.Sums.{sum_by-append, sum_by-cons}
use Rattle.column_pack.specs.Summary.{IsSummary, total_of}
use Rattle.column_pack.specs.declared.summary.Summary.{Summary}
use Rattle.fold_law.specs.Laws.{FoldLaws, fold_of, reach_of_items}
use Rattle.fold_law.specs.ListLaws.{fold_of-append, reach-fold_of}
use Rattle.fold_law.specs.Gauges.{no_gauge, gauge_of_one, merge_gauges, reach_of_gauge}
use Rattle.fold_law.specs.declared.measures.Gauge.{Gauge}
use Rattle.fold_law.specs.declared.measures.Parts.{Parts}
use Rattle.row_cells.specs.Limits.{most_documents}
use Rattle.column_block.specs.Presence.{present}
use Rattle.row_cells.specs.Merging.{parts_of_value}
use Rattle.row_cells.specs.Each.{Each}
use Rattle.column_block.specs.Rules.{AreParts}
use Rattle.column_block.proofs.Aheads.{count-order, range-values}
use Rattle.packed_lists.specs.Laws.Picking.{range-map}
use Rattle.packed_lists.specs.Laws.Placing.{range-on}
use Rattle.column_block.proofs.SixLists.{none, block-few}

module _ {F I : Type 0} {none : F} {merge : F → F → F} {reach : F → ℕ} (laws : FoldLaws none merge reach) (one : I → F) where
  fold-on : (qs : List I) (from at end : ℕ) → from ≤ at → at ≤ end → merge (fold_of none merge one (slice_range qs from at)) (fold_of none merge one (slice_range qs at end)) ≡ fold_of none merge one (slice_range qs from end)
  fold-on qs from at end a b = sym (ap (fold_of none merge one) (range-on qs from at end a b) ∙ fold_of-append laws one (slice_range qs from at) (slice_range qs at end))

  reach-on : (qs : List I) (from at end to most : ℕ) → from ≤ at → at ≤ end → end ≤ to → reach_of_items reach one (slice_range qs from to) ≤ most
      → reach (fold_of none merge one (slice_range qs from at)) + reach_of_items reach one (slice_range qs at end) ≤ most
  reach-on qs from at end to most a b d h =
      let more : at ≤ to = omega arith in
      let first : reach_of_items reach one (slice_range qs from to) ≡ reach_of_items reach one (slice_range qs from at) + reach_of_items reach one (slice_range qs at to) =
      ap (reach_of_items reach one) (range-on qs from at to a more) ∙ sum_by-append (λ x. reach (one x)) (slice_range qs from at) (slice_range qs at to) in
      let second : reach_of_items reach one (slice_range qs at to) ≡ reach_of_items reach one (slice_range qs at end) + reach_of_items reach one (slice_range qs end to) =
      ap (reach_of_items reach one) (range-on qs at end to b d) ∙ sum_by-append (λ x. reach (one x)) (slice_range qs at end) (slice_range qs end to) in
      omega (arith, h, first, second, reach-fold_of laws one (slice_range qs from at))

  -- what a block adds, by places inside it
  pub reach-block : (qs : List I) (from at end to most : ℕ) (folded : F) → from ≤ at → at ≤ end → end ≤ to → reach_of_items reach one (slice_range qs from to) ≤ most → folded ≡ fold_of none merge one (slice_range qs from at)
      → reach folded + reach_of_items reach one (slice_range qs (128 * (at / 128) + (at - 128 * (at / 128))) (128 * (at / 128) + (end - 128 * (at / 128)))) ≤ most
  reach-block qs from at end to most folded a b d h e =
      let x : at ≡ 128 * (at / 128) + (at - 128 * (at / 128)) = omega arith in
      let y : end ≡ 128 * (at / 128) + (end - 128 * (at / 128)) = omega (arith, b) in
      subst (λ z. reach z + reach_of_items reach one (slice_range qs (128 * (at / 128) + (at - 128 * (at / 128))) (128 * (at / 128) + (end - 128 * (at / 128)))) ≤ most) (sym e)
      (subst (λ z. reach (fold_of none merge one (slice_range qs from at)) + reach_of_items reach one (slice_range qs (128 * (at / 128) + (at - 128 * (at / 128))) z) ≤ most) y
      (subst (λ z. reach (fold_of none merge one (slice_range qs from at)) + reach_of_items reach one (slice_range qs z end) ≤ most) x (reach-on qs from at end to most a b d h)))

  -- the same of what the block folds to
  pub reach-merged : (qs : List I) (from at end to most : ℕ) (folded part : F) → from ≤ at → at ≤ end → end ≤ to → reach_of_items reach one (slice_range qs from to) ≤ most → folded ≡ fold_of none merge one (slice_range qs from at)
      → part ≡ fold_of none merge one (slice_range qs (128 * (at / 128) + (at - 128 * (at / 128))) (128 * (at / 128) + (end - 128 * (at / 128)))) → reach folded + reach part ≤ most
  reach-merged qs from at end to most folded part a b d h e p =
      let inside = slice_range qs (128 * (at / 128) + (at - 128 * (at / 128))) (128 * (at / 128) + (end - 128 * (at / 128))) in
      let far : reach part ≤ reach_of_items reach one inside = subst (λ z. reach z ≤ reach_of_items reach one inside) (sym p) (reach-fold_of laws one inside) in
      omega (arith, far, reach-block qs from at end to most folded a b d h e)

  pub fold-block : (qs : List I) (from at end : ℕ) (folded : F) → from ≤ at → at ≤ end → folded ≡ fold_of none merge one (slice_range qs from at)
      → merge folded (fold_of none merge one (slice_range qs (128 * (at / 128) + (at - 128 * (at / 128))) (128 * (at / 128) + (end - 128 * (at / 128))))) ≡ fold_of none merge one (slice_range qs from end)
  fold-block qs from at end folded a b e =
      let x : 128 * (at / 128) + (at - 128 * (at / 128)) ≡ at = omega arith in
      let y : 128 * (at / 128) + (end - 128 * (at / 128)) ≡ end = omega (arith, b) in
      ap (λ z. merge z (fold_of none merge one (slice_range qs (128 * (at / 128) + (at - 128 * (at / 128))) (128 * (at / 128) + (end - 128 * (at / 128)))))) e
      ∙ ap (λ z. merge (fold_of none merge one (slice_range qs from at)) (fold_of none merge one (slice_range qs z (128 * (at / 128) + (end - 128 * (at / 128)))))) x
      ∙ ap (λ z. merge (fold_of none merge one (slice_range qs from at)) (fold_of none merge one (slice_range qs at z))) y
      ∙ fold-on qs from at end a b

-- ---- ranges of rows, by the values that are there

pub range-there : {A : Type 0} (vs : List (Option A)) (from to first last : ℕ) → from ≤ to → first ≡ length (present (take from vs)) → last ≡ length (present (take to vs)) → slice_range (present vs) first last ≡ present (slice_range vs from to)
range-there vs from to first last order a b = ap (λ z. slice_range (present vs) z last) a ∙ ap (slice_range (present vs) (length (present (take from vs)))) b ∙ range-values vs from to order

pub range-mapped : {A B : Type 0} (f : A → B) (vs : List (Option A)) (from to first last : ℕ) → from ≤ to → first ≡ length (present (take from vs)) → last ≡ length (present (take to vs)) → slice_range (map f (present vs)) first last ≡ map f (present (slice_range vs from to))
range-mapped f vs from to first last order a b = range-map f (present vs) first last ∙ ap (map f) (range-there vs from to first last order a b)

pub range-size : {A : Type 0} (vs : List (Option A)) (from to last : ℕ) → from ≤ to → last ≡ length (present (take to vs)) → last < 2 ^ 32 → length (present (slice_range vs from to)) < 2 ^ 32
range-size vs from to last order b few = omega (arith, count-order vs from to order, b, few)

-- ---- how far gauges reach

abs-few : (v : ℤ) → FitsSigned w64 v → unsigned_abs v ≤ 2 ^ 63
abs-few (pos n) fits = omega (arith, ints, fits)
abs-few (negsuc n) fits = omega (arith, ints, fits)

count-few : (n : ℤ) → pos 1 ≤ℤ n → n ≤ℤ pos (most_documents * (2 ^ 63 - 1)) → unsigned_abs n ≤ most_documents * 2 ^ 63
count-few (pos n) a b = omega (arith, ints)
count-few (negsuc n) a b = omega (arith, ints)

numbers-reach : (ns : List ℤ) → All (FitsSigned w64) ns → reach_of_items reach_of_gauge gauge_of_one (map parts_of_value ns) ≤ 2 ^ 63 * length ns
numbers-reach [] h = omega arith
numbers-reach (v ∷ ns) h =
    omega (arith, sum_by-cons (λ p. reach_of_gauge (gauge_of_one p)) (parts_of_value v) (map parts_of_value ns), abs-few v (All-head (FitsSigned w64) v ns h), numbers-reach ns (All-tail (FitsSigned w64) v ns h))

pub numbers-within : (ns : List ℤ) → All (FitsSigned w64) ns → length ns < 2 ^ 32 → reach_of_items reach_of_gauge gauge_of_one (map parts_of_value ns) ≤ 2 ^ 119
numbers-within ns h few = omega (arith, numbers-reach ns h)

parts-reach : (ps : List Parts) → Each AreParts ps → reach_of_items reach_of_gauge gauge_of_one ps ≤ most_documents * 2 ^ 63 * length ps
parts-reach [] h = omega arith
parts-reach (p ∷ ps) (a, h) =
    omega (arith, sum_by-cons (λ q. reach_of_gauge (gauge_of_one q)) p ps, a.sum_within, count-few p.count a.counted a.count_within, parts-reach ps h)

pub parts-within : (ps : List Parts) → Each AreParts ps → length ps < 2 ^ 32 → reach_of_items reach_of_gauge gauge_of_one ps ≤ 2 ^ 119
parts-within ps h few = omega (arith, parts-reach ps h)

-- ---- the gauge of a block by its summary

abbrev least : ℤ → List ℤ → ℤ
least v [] = v
least v (w ∷ ws) = int_min v (least w ws)

abbrev most : ℤ → List ℤ → ℤ
most v [] = v
most v (w ∷ ws) = int_max v (most w ws)

lower : (a b : ℤ) (xs : List ℤ) → a ≤ℤ b → All (λ x. b ≤ℤ x) xs → All (λ x. a ≤ℤ x) xs
lower a b [] l h = All-nil (λ x. a ≤ℤ x)
lower a b (x ∷ xs) l h = All-cons (λ y. a ≤ℤ y) x xs (omega (arith, ints, l, All-head (λ y. b ≤ℤ y) x xs h)) (lower a b xs l (All-tail (λ y. b ≤ℤ y) x xs h))

higher : (a b : ℤ) (xs : List ℤ) → b ≤ℤ a → All (λ x. x ≤ℤ b) xs → All (λ x. x ≤ℤ a) xs
higher a b [] l h = All-nil (λ x. x ≤ℤ a)
higher a b (x ∷ xs) l h = All-cons (λ y. y ≤ℤ a) x xs (omega (arith, ints, l, All-head (λ y. y ≤ℤ b) x xs h)) (higher a b xs l (All-tail (λ y. y ≤ℤ b) x xs h))

least-below : (v : ℤ) (vs : List ℤ) → All (λ x. least v vs ≤ℤ x) (v ∷ vs)
least-below v [] = All-cons (λ x. v ≤ℤ x) v [] (omega (arith, ints)) (All-nil (λ x. v ≤ℤ x))
least-below v (w ∷ ws) = All-cons (λ x. int_min v (least w ws) ≤ℤ x) v (w ∷ ws) (omega (arith, ints, clamps)) (lower (int_min v (least w ws)) (least w ws) (w ∷ ws) (omega (arith, ints, clamps)) (least-below w ws))

most-above : (v : ℤ) (vs : List ℤ) → All (λ x. x ≤ℤ most v vs) (v ∷ vs)
most-above v [] = All-cons (λ x. x ≤ℤ v) v [] (omega (arith, ints)) (All-nil (λ x. x ≤ℤ v))
most-above v (w ∷ ws) = All-cons (λ x. x ≤ℤ int_max v (most w ws)) v (w ∷ ws) (omega (arith, ints, clamps)) (higher (int_max v (most w ws)) (most w ws) (w ∷ ws) (omega (arith, ints, clamps)) (most-above w ws))

least-above : (m v : ℤ) (vs : List ℤ) → All (λ x. m ≤ℤ x) (v ∷ vs) → m ≤ℤ least v vs
least-above m v [] h = All-head (λ x. m ≤ℤ x) v [] h
least-above m v (w ∷ ws) h = omega (arith, ints, clamps, All-head (λ x. m ≤ℤ x) v (w ∷ ws) h, least-above m w ws (All-tail (λ x. m ≤ℤ x) v (w ∷ ws) h))

most-below : (m v : ℤ) (vs : List ℤ) → All (λ x. x ≤ℤ m) (v ∷ vs) → most v vs ≤ℤ m
most-below m v [] h = All-head (λ x. x ≤ℤ m) v [] h
most-below m v (w ∷ ws) h = omega (arith, ints, clamps, All-head (λ x. x ≤ℤ m) v (w ∷ ws) h, most-below m w ws (All-tail (λ x. x ≤ℤ m) v (w ∷ ws) h))

same-least : (m v : ℤ) (vs : List ℤ) → All (λ x. m ≤ℤ x) (v ∷ vs) → Contains (v ∷ vs) m → m ≡ least v vs
same-least m v vs h k = omega (arith, ints, least-above m v vs h, All-contains (λ x. least v vs ≤ℤ x) (v ∷ vs) m (least-below v vs) k)

same-most : (m v : ℤ) (vs : List ℤ) → All (λ x. x ≤ℤ m) (v ∷ vs) → Contains (v ∷ vs) m → m ≡ most v vs
same-most m v vs h k = omega (arith, ints, most-below m v vs h, All-contains (λ x. x ≤ℤ most v vs) (v ∷ vs) m (most-above v vs) k)

gauge-of : ℤ → ℤ → ℤ → ℤ → Gauge
gauge-of a b s n = record { 0 = Some (record { min = a; max = b; sum = s; count = n }) }

gauge-numbers : (v : ℤ) (vs : List ℤ) → fold_of no_gauge merge_gauges gauge_of_one (map parts_of_value (v ∷ vs)) ≡ gauge-of (least v vs) (most v vs) (total_of (v ∷ vs)) (pos (length (v ∷ vs)))
unfolding gauge-of
gauge-numbers v [] = ap (λ z. gauge-of v v z (pos 1)) (plus-none v)
  where
    plus-none : (a : ℤ) → a ≡ a +ℤ pos 0
    plus-none a = omega (arith, ints)
gauge-numbers v (w ∷ ws) =
    ap (merge_gauges (gauge_of_one (parts_of_value v))) (gauge-numbers w ws)
    ∙ ap (gauge-of (int_min v (least w ws)) (int_max v (most w ws)) (v +ℤ total_of (w ∷ ws))) (one-more (length (w ∷ ws)))
  where
    one-more : (n : ℕ) → pos 1 +ℤ pos n ≡ pos (suc n)
    one-more n = omega (arith, ints)

pub gauge-summary : (vs : List ℤ) (s : Summary) → 0 < length vs → IsSummary vs s → record { 0 = Some (record { min = s.min; max = s.max; sum = s.sum; count = pos s.n }) } ≡ fold_of no_gauge merge_gauges gauge_of_one (map parts_of_value vs)
unfolding gauge-of
gauge-summary [] s some h = absurd (omega (arith, some))
gauge-summary (v ∷ vs) s some h =
    ap (λ z. gauge-of z s.max s.sum (pos s.n)) (same-least s.min v vs h.least h.least_among)
    ∙ ap (λ z. gauge-of (least v vs) z s.sum (pos s.n)) (same-most s.max v vs h.greatest h.greatest_among)
    ∙ ap (λ z. gauge-of (least v vs) (most v vs) z (pos s.n)) h.total
    ∙ ap (λ z. gauge-of (least v vs) (most v vs) (total_of (v ∷ vs)) (pos z)) h.number
    ∙ sym (gauge-numbers v vs)

-- ---- the parts of numbers that were read

pub mapped-count : (ns : List ℤ) (block n : ℕ) → n ≡ length (slice_range ns (128 * block) (128 * block + 128)) → n ≡ length (slice_range (map parts_of_value ns) (128 * block) (128 * block + 128))
mapped-count ns block n e = e ∙ sym (ap (λ (z : List Parts). length z) (range-map parts_of_value ns (128 * block) (128 * block + 128)) ∙ length-map (slice_range ns (128 * block) (128 * block + 128)) parts_of_value)

pub number-read : (ns : List ℤ) (block place n : ℕ) (buffer old : List ℤ) → place < n → n ≡ length (slice_range ns (128 * block) (128 * block + 128)) → buffer ≡ slice_range ns (128 * block) (128 * block + 128) ++ old → All (FitsSigned w64) ns
    → parts_of_value (to_z w64 (of_z w64 (get_or buffer place (pos 0)))) ≡ get_or (map parts_of_value ns) (128 * block + place) none
number-read ns block place n buffer old l m e fit =
    let few = block-few ns block n m in
    let inside : 128 * block + place < length ns = omega (arith, m, length-take (128 * block + 128 - 128 * block) (drop (128 * block) ns), length-drop (128 * block) ns) in
    let v : get_or buffer place (pos 0) ≡ get_or ns (128 * block + place) (pos 0) =
    ap (λ z. get_or z place (pos 0)) e ∙ get_or_append_left (slice_range ns (128 * block) (128 * block + 128)) old (pos 0) place (subst (λ z. place < z) m l)
    ∙ get_or-take (128 * block + 128 - 128 * block) (drop (128 * block) ns) place (pos 0) (omega arith) ∙ get_or-drop (128 * block) ns place (pos 0) in
    ap parts_of_value (ap (λ z. to_z w64 (of_z w64 z)) v ∙ to_z-of_z w64 (get_or ns (128 * block + place) (pos 0)) (All-get_or (FitsSigned w64) ns (128 * block + place) (pos 0) inside fit))
    ∙ sym (get_or-map parts_of_value ns (128 * block + place) (pos 0) none inside)

-- ---- a block that lies whole in a range

pub gauge-told : (vs : List ℤ) (s : Summary) (n : ℤ) → FitsSigned w64 s.min → FitsSigned w64 s.max → FitsSigned w128 s.sum → n ≡ pos s.n → FitsSigned w128 n → 0 < length vs → IsSummary vs s
    → record { 0 = Some (record { min = to_z w64 (of_z w64 s.min); max = to_z w64 (of_z w64 s.max); sum = to_z w128 (of_z w128 s.sum); count = to_z w128 (of_z w128 n) }) } ≡ fold_of no_gauge merge_gauges gauge_of_one (map parts_of_value vs)
unfolding gauge-of
gauge-told vs s n a b d e f some h =
    ap (λ z. gauge-of z (to_z w64 (of_z w64 s.max)) (to_z w128 (of_z w128 s.sum)) (to_z w128 (of_z w128 n))) (to_z-of_z w64 s.min a)
    ∙ ap (λ z. gauge-of s.min z (to_z w128 (of_z w128 s.sum)) (to_z w128 (of_z w128 n))) (to_z-of_z w64 s.max b)
    ∙ ap (λ z. gauge-of s.min s.max z (to_z w128 (of_z w128 n))) (to_z-of_z w128 s.sum d)
    ∙ ap (gauge-of s.min s.max s.sum) (to_z-of_z w128 n f ∙ e)
    ∙ gauge-summary vs s some h

pub whole-block : (vs : List ℤ) (block from to : ℕ) (g : Gauge) → to - from ≡ 128 → to ≤ 128 → 128 * block + to ≤ length vs → ((us : List ℤ) → 0 < length us → us ≡ slice_range vs (128 * block) (128 * block + 128) → g ≡ fold_of no_gauge merge_gauges gauge_of_one (map parts_of_value us))
    → g ≡ fold_of no_gauge merge_gauges gauge_of_one (slice_range (map parts_of_value vs) (128 * block + from) (128 * block + to))
whole-block vs block from to g span inside within h =
    let us = slice_range vs (128 * block) (128 * block + 128) in
    let some : 0 < length us = omega (arith, length-take (128 * block + 128 - 128 * block) (drop (128 * block) vs), length-drop (128 * block) vs) in
    let a : 128 * block ≡ 128 * block + from = omega arith in
    let b : 128 * block + 128 ≡ 128 * block + to = omega arith in
    h us some refl ∙ ap (fold_of no_gauge merge_gauges gauge_of_one) (sym (range-map parts_of_value vs (128 * block) (128 * block + 128)))
    ∙ ap (λ z. fold_of no_gauge merge_gauges gauge_of_one (slice_range (map parts_of_value vs) z (128 * block + 128))) a
    ∙ ap (λ z. fold_of no_gauge merge_gauges gauge_of_one (slice_range (map parts_of_value vs) (128 * block + from) z)) b

-- numbers of a range have 64 bits as all have
pub fits-range : (ns : List ℤ) (from to : ℕ) → All (FitsSigned w64) ns → All (FitsSigned w64) (slice_range ns from to)
fits-range ns from to all = All-take (FitsSigned w64) (to - from) (drop from ns) (All-drop (FitsSigned w64) from ns all)
