-- Lists of places in a table.
use Rattle.std.proofs.Common.{◌≡◌, ◌↔◌, inl, inr, ℕ, ℤ, pos, negsuc, ◌+◌, ◌<◌, ◌^◌, Bool, true, false, List, [], ◌∷◌, ◌++◌, length, get_or, set, take, map, refl, sym, ◌∙◌, ap, subst, arith}
use Rattle.std.specs.Prelude.{◌+ℤ◌, ◌≤ℤ◌, ◌<ℤ◌, unsigned_abs, IsTrue}
use Rattle.std.proofs.lemmas.Bool.{cases_eq}
use Rattle.std.proofs.lemmas.Int.{ints, to_z-of_z, fits_signed_from_abs}
use Rattle.std.specs.Int.{w64, cast_signed, cast_unsigned}
use Rattle.std.proofs.lemmas.List.{append_assoc, take_more, get_or_default, get_or-set_same, get_or-set_other, length-map, length-set, map-append}
use Rattle.column_block.specs.Cutting.{IsShort}
use Rattle.row_cells.specs.Each.{Each}
use Rattle.column_block.specs.Rules.{IsText, IsTextRow, TextsAscend, TextsAscendAfter}
use Rattle.packed_lists.specs.Lists.{joined}
use Rattle.column_block.specs.Spelling.{IsIn, IsTableOf, ordinal, ordinals}
use Rattle.column_block.specs.Worded.{AreMarked, AreOrdinals, AreTexts, ClimbFrom, texts_at, worded}
use Rattle.column_block.proofs.Among.{in-left, in-right, in-either, in-at, in-map, from-map}
use Rattle.column_block.specs.EachLaws.{each-at}
use Rattle.column_block.proofs.Tabling.{stands, ord-of, ord-order, at-order}

-- what stands at a place of a list that climbs
pub record IsPlace (count v : ℤ) : Type 0 where
  pub positive : pos 0 ≤ℤ v
  pub below : v <ℤ count

pub climb-in : (low count : ℤ) (row : List ℤ) → pos 0 ≤ℤ low → ClimbFrom low count row → (v : ℤ) → IsIn v row → IsPlace count v
climb-in low count [] z h v g = absurd g
climb-in low count (w ∷ row) z h v (inl e) = subst (IsPlace count) (sym e) (record { positive = omega (arith, ints, z, h.0); below = h.1 })
climb-in low count (w ∷ row) z h v (inr g) = climb-in (w +ℤ pos 1) count row (omega (arith, ints, z, h.0)) h.2 v g

pub climb-at : (count : ℤ) (row : List ℤ) (k : ℕ) (d : ℤ) → ClimbFrom (pos 0) count row → k < length row → IsPlace count (get_or row k d)
climb-at count row k d h b = climb-in (pos 0) count row (omega (arith, ints)) h (get_or row k d) (in-at row k d b)

-- ---- marks

pub place-abs : (count : ℕ) (v : ℤ) → IsPlace (pos count) v → (pos (unsigned_abs v) ≡ v) × (unsigned_abs v < count)
place-abs count (pos n) h = (refl, omega (arith, ints, h.below))
place-abs count (negsuc n) h = absurd (omega (arith, ints, h.positive))

abbrev IsSet : List Bool → ℕ → Type 0
IsSet seen k = IsTrue (get_or seen k false)

pub marked-more : (numbers : List ℤ) (seen : List Bool) (at : ℕ) (v : ℤ) → AreMarked numbers seen → pos at ≡ v → at < length seen → AreMarked (numbers ++ v ∷ []) (set seen at true)
marked-more numbers seen at v h e inside k b = elim (cases_eq k at) [
  | inl same ↦ ((λ _. in-right (pos k) numbers (v ∷ []) (inl (ap pos same ∙ e))), (λ _. subst (IsSet (set seen at true)) (sym same) (get_or-set_same seen at true false inside)))
  | inr other ↦ (let r = get_or-set_other seen at k true false other in
      let w : k < length seen = omega (arith, b, length-set seen at true) in (
        (λ g. in-left (pos k) numbers (v ∷ []) ((h k w).0 (sym r ∙ g))),
        (λ g. elim (in-either (pos k) numbers (v ∷ []) g) [
          | inl q ↦ r ∙ (h k w).1 q
          | inr q ↦ elim q [ inl f ↦ absurd (other (omega (arith, ints, f, e))) | inr z ↦ absurd z ]
        ]),
      ))
]

pub push-take : {A : Type 0} (start row : List A) (k : ℕ) (v : A) → k < length row → v ≡ get_or row k v → (start ++ take k row) ++ v ∷ [] ≡ start ++ take (k + 1) row
push-take start row k v h e = append_assoc start (take k row) (v ∷ []) ∙ ap (λ z. start ++ (take k row ++ z ∷ [])) e ∙ ap (λ z. start ++ z) (sym (take_more row k v h))

pub marked-row : (numbers row : List ℤ) (seen : List Bool) (k at : ℕ) → k < length row → pos at ≡ get_or row k (pos 0) → at < length seen → AreMarked (numbers ++ take k row) seen → AreMarked (numbers ++ take (k + 1) row) (set seen at true)
marked-row numbers row seen k at h e inside m =
    let v = get_or row k (pos 0) in
    subst (λ z. AreMarked z (set seen at true)) (push-take numbers row k v h (get_or_default row k (pos 0) v h)) (marked-more (numbers ++ take k row) seen at v m e inside)

pub place-inside : (count : ℕ) (row : List ℤ) (k at : ℕ) → ClimbFrom (pos 0) (pos count) row → k < length row → pos at ≡ get_or row k (pos 0) → at < count
place-inside count row k at h b e = omega (arith, ints, e, (climb-at (pos count) row k (pos 0) h b).below)

-- a count as a number of 64 bits
pub limit-cast : (count : ℕ) (v : ℤ) → v ≡ pos count → count < 2 ^ 63 → cast_signed w64 (cast_unsigned w64 v) ≡ pos count
limit-cast count v e few = ap (λ z. cast_signed w64 (cast_unsigned w64 z)) e ∙ to_z-of_z w64 (pos count) (fits_signed_from_abs w64 (pos count) (omega (arith, few)))

-- rows were marked one by one
pub all-marked : (count : ℕ) (rows part : List (List ℤ)) (seen lent : List Bool) (answer : Bool) → lent ≡ seen → length seen ≡ count → part ≡ rows → Each (ClimbFrom (pos 0) (pos count)) part → AreMarked (joined part) seen
    → (IsTrue answer ↔ ((k : ℕ) → k < length lent → IsTrue (get_or lent k false))) → IsTrue answer ↔ AreOrdinals count rows
all-marked count rows part seen lent answer l n p c m a = (
  (λ g. record {
    climb = subst (λ z. Each (ClimbFrom (pos 0) (pos count)) z) p c;
    occur = λ k b.
        let seen-one = subst (λ z. IsTrue (get_or z k false)) l (a.0 g k (omega (arith, b, n, ap (λ (z : List Bool). length z) l))) in
        subst (λ z. IsIn (pos k) (joined z)) p ((m k (omega (arith, b, n))).0 seen-one);
  }),
  (λ o. a.1 (λ k b.
      let inside : k < length seen = omega (arith, b, ap (λ (z : List Bool). length z) l) in
      subst (λ z. IsTrue (get_or z k false)) (sym l) ((m k inside).1 (subst (λ z. IsIn (pos k) (joined z)) (sym p) (o.occur k (omega (arith, inside, n))))))),
)

-- ---- the places of texts

pub joined-map : {A B : Type 0} (f : A → B) (lists : List (List A)) → joined (map (map f) lists) ≡ map f (joined lists)
joined-map f [] = refl
joined-map f (xs ∷ lists) = ap (λ z. map f xs ++ z) (joined-map f lists) ∙ sym (map-append f xs (joined lists))

pub copy-more : (us : List (List ℕ)) (places : List ℤ) (k r : ℕ) (x : List ℕ) → k < length places → pos r ≡ get_or places k (pos 0) → r < length us → x ≡ get_or us r x → texts_at us (take k places) ++ x ∷ [] ≡ texts_at us (take (k + 1) places)
copy-more us places k r x h e inside at =
    let f : ℤ → List ℕ = λ v. get_or us (unsigned_abs v) [] in
    let one : x ≡ f (get_or places k (pos 0)) = at ∙ get_or_default us r x [] inside ∙ ap f e in
    ap (λ z. texts_at us (take k places) ++ z ∷ []) one ∙ sym (map-append f (take k places) (get_or places k (pos 0) ∷ [])) ∙ ap (texts_at us) (sym (take_more places k (pos 0) h))

climb-after : (us ts : List (List ℕ)) (t : List ℕ) → TextsAscend us → TextsAscendAfter t ts → IsIn t us → ((u : List ℕ) → IsIn u ts → IsIn u us) → ClimbFrom (pos (ordinal us t) +ℤ pos 1) (pos (length us)) (ordinals us ts)
climb-after us [] t h a m all = tt
climb-after us (u ∷ ts) t h a m all =
    let held = all u (inl refl) in
    (omega (arith, ints, ord-order us t u h m held a.0), omega (arith, ints, (stands us u held).within), climb-after us ts u h a.1 held (λ v g. all v (inr g)))

climb-texts : (us ts : List (List ℕ)) → TextsAscend us → TextsAscend ts → ((u : List ℕ) → IsIn u ts → IsIn u us) → ClimbFrom (pos 0) (pos (length us)) (ordinals us ts)
climb-texts us [] h a all = tt
climb-texts us (t ∷ ts) h a all =
    let held = all t (inl refl) in
    (omega (arith, ints), omega (arith, ints, (stands us t held).within), climb-after us ts t h a held (λ v g. all v (inr g)))

climb-each : (us : List (List ℕ)) (lists : List (List (List ℕ))) → TextsAscend us → Each IsTextRow lists → ((t : List ℕ) → IsIn t (joined lists) → IsIn t us) → Each (ClimbFrom (pos 0) (pos (length us))) (map (ordinals us) lists)
climb-each us [] h r all = tt
climb-each us (ts ∷ lists) h r all =
    (climb-texts us ts h r.0.ascend (λ t g. all t (in-left t ts (joined lists) g)), climb-each us lists h r.1 (λ t g. all t (in-right t ts (joined lists) g)))

-- the places of lists in their table
pub ordinals-valid : (us : List (List ℕ)) (lists : List (List (List ℕ))) → Each IsTextRow lists → IsTableOf us lists → AreOrdinals (length us) (map (ordinals us) lists)
ordinals-valid us lists r h = record {
  climb = climb-each us lists h.ascend r (λ t g. (h.occur t).1 g);
  occur = λ k b.
      let t = get_or us k [] in
      let place = in-map (λ u. pos (ordinal us u)) t (joined lists) ((h.occur t).0 (in-at us k [] b)) in
      subst (λ z. IsIn (pos k) z) (sym (joined-map (λ u. pos (ordinal us u)) lists)) (subst (λ z. IsIn (pos z) (ordinals us (joined lists))) (ord-of us k h.ascend b) place);
}

pub row-back : (us ts : List (List ℕ)) → ((t : List ℕ) → IsIn t ts → IsIn t us) → texts_at us (ordinals us ts) ≡ ts
row-back us [] all = refl
row-back us (t ∷ ts) all = ap (λ z. z ∷ texts_at us (ordinals us ts)) ((stands us t (all t (inl refl))).is) ∙ ap (λ z. t ∷ z) (row-back us ts (λ u g. all u (inr g)))

-- lists by the places of their texts
pub words-back : (us : List (List ℕ)) (lists : List (List (List ℕ))) → ((t : List ℕ) → IsIn t (joined lists) → IsIn t us) → worded us (map (ordinals us) lists) ≡ lists
words-back us [] all = refl
words-back us (ts ∷ lists) all =
    ap (λ z. z ∷ worded us (map (ordinals us) lists)) (row-back us ts (λ t g. all t (in-left t ts (joined lists) g)))
    ∙ ap (λ z. ts ∷ z) (words-back us lists (λ t g. all t (in-right t ts (joined lists) g)))

-- ---- the texts of places

places-row : (us : List (List ℕ)) (row : List ℤ) → TextsAscend us → ((v : ℤ) → IsIn v row → IsPlace (pos (length us)) v) → ordinals us (texts_at us row) ≡ row
places-row us [] h all = refl
places-row us (v ∷ row) h all =
    let p = place-abs (length us) v (all v (inl refl)) in
    ap (λ z. z ∷ ordinals us (texts_at us row)) (ap pos (ord-of us (unsigned_abs v) h p.1) ∙ p.0) ∙ ap (λ z. v ∷ z) (places-row us row h (λ w g. all w (inr g)))

climbs : (us : List (List ℕ)) (row : List ℤ) → ClimbFrom (pos 0) (pos (length us)) row → (v : ℤ) → IsIn v row → IsPlace (pos (length us)) v
climbs us row h v g = climb-in (pos 0) (pos (length us)) row (omega (arith, ints)) h v g

pub places-back : (us : List (List ℕ)) (rows : List (List ℤ)) → TextsAscend us → Each (ClimbFrom (pos 0) (pos (length us))) rows → map (ordinals us) (worded us rows) ≡ rows
places-back us [] h c = refl
places-back us (row ∷ rows) h c = ap (λ z. z ∷ map (ordinals us) (worded us rows)) (places-row us row h (climbs us row c.0)) ∙ ap (λ z. row ∷ z) (places-back us rows h c.1)

ascend-after : (us : List (List ℕ)) (v : ℤ) (row : List ℤ) → TextsAscend us → IsPlace (pos (length us)) v → ClimbFrom (v +ℤ pos 1) (pos (length us)) row → TextsAscendAfter (get_or us (unsigned_abs v) []) (texts_at us row)
ascend-after us v [] h p c = tt
ascend-after us v (w ∷ row) h p c =
    let q : IsPlace (pos (length us)) w = record { positive = omega (arith, ints, p.positive, c.0); below = c.1 } in
    let a = place-abs (length us) v p in
    let b = place-abs (length us) w q in
    (at-order us (unsigned_abs v) (unsigned_abs w) h (omega (arith, ints, a.0, b.0, c.0)) b.1, ascend-after us w row h q c.2)

ascend-row : (us : List (List ℕ)) (row : List ℤ) → TextsAscend us → ClimbFrom (pos 0) (pos (length us)) row → TextsAscend (texts_at us row)
ascend-row us [] h c = tt
ascend-row us (v ∷ row) h c = ascend-after us v row h (record { positive = c.0; below = c.1 }) c.2

good-row : (us : List (List ℕ)) (row : List ℤ) → Each IsText us → ((v : ℤ) → IsIn v row → IsPlace (pos (length us)) v) → Each IsText (texts_at us row)
good-row us [] h all = tt
good-row us (v ∷ row) h all = (each-at IsText us (unsigned_abs v) [] (place-abs (length us) v (all v (inl refl))).1 h, good-row us row h (λ w g. all w (inr g)))

-- they keep the rules
pub text-rows : (us : List (List ℕ)) (rows : List (List ℤ)) → AreTexts us → Each IsShort rows → Each (ClimbFrom (pos 0) (pos (length us))) rows → Each IsTextRow (worded us rows)
text-rows us [] h s c = tt
text-rows us (row ∷ rows) h s c = (
  record { few = omega (arith, s.0, length-map row (λ v. get_or us (unsigned_abs v) [])); ascend = ascend-row us row h.ascend c.0; texts = good-row us row h.each (climbs us row c.0) },
  text-rows us rows h s.1 c.1,
)

in-rows : (us : List (List ℕ)) (rows : List (List ℤ)) → Each (ClimbFrom (pos 0) (pos (length us))) rows → (v : ℤ) → IsIn v (joined rows) → IsPlace (pos (length us)) v
in-rows us [] c v g = absurd g
in-rows us (row ∷ rows) c v g = elim (in-either v row (joined rows) g) [ inl h ↦ climbs us row c.0 v h | inr h ↦ in-rows us rows c.1 v h ]

-- and have that table
pub table-is : (us : List (List ℕ)) (rows : List (List ℤ)) → AreTexts us → AreOrdinals (length us) rows → IsTableOf us (worded us rows)
table-is us rows h o =
    let all = joined-map (λ v. get_or us (unsigned_abs v) []) rows in
    record {
      ascend = h.ascend;
      occur = λ t. (
        (λ g.
            let s = stands us t g in
            let there = in-map (λ v. get_or us (unsigned_abs v) []) (pos (ordinal us t)) (joined rows) (o.occur (ordinal us t) s.within) in
            subst (λ z. IsIn t z) (sym all) (subst (λ z. IsIn z (texts_at us (joined rows))) s.is there)),
        (λ g.
            let (v, q, e) = from-map (λ v. get_or us (unsigned_abs v) []) t (joined rows) (subst (λ z. IsIn t z) all g) in
            subst (λ z. IsIn z us) (sym e) (in-at us (unsigned_abs v) [] (place-abs (length us) v (in-rows us rows o.climb v q)).1)),
      );
    }
