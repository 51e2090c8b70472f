-- Tables of texts, ascending by bytes, and how they are spelled.
use Rattle.std.proofs.Common.{◌≡◌, ◌↔◌, inl, inr, ℕ, suc, zero, ◌+◌, ◌-◌, ◌<◌, ◌≤◌, ◌^◌, Bool, true, false, List, [], ◌∷◌, ◌++◌, length, get_or, take, drop, refl, sym, ◌∙◌, ap, subst, arith, Less, Equal, Greater}
use Rattle.std.specs.Prelude.{if◌then◌else◌}
use Rattle.std.specs.Cmp.Lexicographic.{slice_cmp}
use Rattle.std.specs.Int.{w64, to_be_bytes, from_be_bytes}
use Rattle.std.specs.List.{flat_map, AllByRecursion}
use Rattle.std.specs.List.Sorted.{IsStrictlySortedBy}
use Rattle.std.specs.Ordering.{nat_cmp, is_eq}
use Rattle.std.specs.Str.{bytes_eq}
use Rattle.std.proofs.lemmas.Bool.{false≢true, cases_lt}
use Rattle.std.proofs.lemmas.List.{append_assoc, append-nil, length-append, take_more, take_all, drop_all, drop_more, length-take, get_or_default, take-append-drop}
use Rattle.std.proofs.lemmas.Map.Text.{is_eq-slice_cmp}
use Rattle.std.proofs.lemmas.Nat.{from_be_bytes-to_be_bytes_8, be_bytes_8}
use Rattle.std.proofs.lemmas.Slice.Eq.{bytes_eq-Decides}
use Rattle.row_cells.specs.Each.{Each}
use Rattle.row_cells.specs.Dimensions.{IsBefore}
use Rattle.column_block.specs.Rules.{IsText, TextsAscend, TextsAscendAfter}
use Rattle.row_cells.specs.Dimensions.{text_bytes}
use Rattle.row_cells.specs.JoinLaws.{before_chain, before_of_after, not_before_itself}
use Rattle.row_cells.specs.KeyLaws.{text_bytes_injective}
use Rattle.row_cells.specs.WidenLaws.{apart, other_bytes}
use Rattle.column_block.specs.Spelling.{IsIn, ordinal, table_bytes}
use Rattle.column_block.specs.Worded.{AreTexts}
use Rattle.column_block.specs.EachLaws.{each-append, each-at}
use Rattle.column_block.proofs.Among.{in-at}
use Rattle.packed_lists.specs.Laws.Fronts.{same-fronts}

-- ---- the order

before-back : (a b : List ℕ) → IsBefore a b → IsBefore b a → ⊥
before-back a b h k = not_before_itself a (before_chain a b a h k)

pub equal-same : (a b : List ℕ) → slice_cmp nat_cmp a b ≡ Equal → a ≡ b
equal-same a b h = (bytes_eq-Decides a b).0 (sym (is_eq-slice_cmp a b) ∙ ap is_eq h)

after-sorted : (t : List ℕ) (ts : List (List ℕ)) → AllByRecursion (λ y. slice_cmp nat_cmp t y ≡ Less) ts → IsStrictlySortedBy (slice_cmp nat_cmp) ts → TextsAscendAfter t ts
unfolding IsStrictlySortedBy
after-sorted t [] a h = tt
after-sorted t (u ∷ ts) a h = (a.0, after-sorted u ts h.0 h.1)

-- sorted texts ascend
pub ascend-sorted : (ts : List (List ℕ)) → IsStrictlySortedBy (slice_cmp nat_cmp) ts → TextsAscend ts
unfolding IsStrictlySortedBy
ascend-sorted [] h = tt
ascend-sorted (t ∷ ts) h = after-sorted t ts h.0 h.1

pub ascend-tail : (t : List ℕ) (ts : List (List ℕ)) → TextsAscendAfter t ts → TextsAscend ts
ascend-tail t [] h = tt
ascend-tail t (u ∷ ts) h = h.1

pub after-in : (t u : List ℕ) (ts : List (List ℕ)) → TextsAscendAfter t ts → IsIn u ts → IsBefore t u
after-in t u [] h g = absurd g
after-in t u (v ∷ ts) h (inl e) = subst (IsBefore t) (sym e) h.0
after-in t u (v ∷ ts) h (inr g) = before_chain t v u h.0 (after-in v u ts h.1 g)

-- later places have later texts
pub at-order : (us : List (List ℕ)) (k m : ℕ) → TextsAscend us → k < m → m < length us → IsBefore (get_or us k []) (get_or us m [])
at-order [] k m h a b = absurd (omega arith)
at-order (u ∷ us) k zero h a b = absurd (omega arith)
at-order (u ∷ us) zero (suc m) h a b = after-in u (get_or us m []) us h (in-at us m [] (omega arith))
at-order (u ∷ us) (suc k) (suc m) h a b = at-order us k m (ascend-tail u us h) (omega arith) (omega arith)

-- ---- places in a table

ord-first : (u t : List ℕ) (us : List (List ℕ)) → bytes_eq u t ≡ true → ordinal (u ∷ us) t ≡ 0
ord-first u t us e = ap (λ b. if b then 0 else 1 + ordinal us t) e

ord-later : (u t : List ℕ) (us : List (List ℕ)) → bytes_eq u t ≡ false → ordinal (u ∷ us) t ≡ suc (ordinal us t)
ord-later u t us e = (let one : 1 + ordinal us t ≡ suc (ordinal us t) = omega arith in ap (λ b. if b then 0 else 1 + ordinal us t) e ∙ one)

-- the text at a place of a table, and its place
pub record Stands (us : List (List ℕ)) (t : List ℕ) : Type 0 where
  pub within : ordinal us t < length us
  pub is : get_or us (ordinal us t) [] ≡ t

stands-first : (u t : List ℕ) (us : List (List ℕ)) (v : Bool) → bytes_eq u t ≡ v → (IsIn t us → Stands us t) → IsIn t (u ∷ us) → Stands (u ∷ us) t
stands-first u t us true e rest h =
    let z = ord-first u t us e in
    record { within = omega (arith, z); is = ap (λ k. get_or (u ∷ us) k []) z ∙ (bytes_eq-Decides u t).0 e }
stands-first u t us false e rest (inl g) = absurd (false≢true (sym e ∙ (bytes_eq-Decides u t).1 (sym g)))
stands-first u t us false e rest (inr g) =
    let z = ord-later u t us e in
    let r = rest g in
    record { within = omega (arith, z, r.within); is = ap (λ k. get_or (u ∷ us) k []) z ∙ r.is }

pub stands : (us : List (List ℕ)) (t : List ℕ) → IsIn t us → Stands us t
stands [] t h = absurd h
stands (u ∷ us) t h = stands-first u t us (bytes_eq u t) refl (stands us t) h

pub ord-of : (us : List (List ℕ)) (k : ℕ) → TextsAscend us → k < length us → ordinal us (get_or us k []) ≡ k
ord-of [] k h b = absurd (omega arith)
ord-of (u ∷ us) zero h b = ord-first u u us ((bytes_eq-Decides u u).1 refl)
ord-of (u ∷ us) (suc k) h b =
    let t = get_or us k [] in
    let before = after-in u t us h (in-at us k [] (omega arith)) in
    ord-later u t us (other_bytes u t (apart u t before)) ∙ ap suc (ord-of us k (ascend-tail u us h) (omega arith))

-- a later text has a later place
pub ord-order : (us : List (List ℕ)) (t v : List ℕ) → TextsAscend us → IsIn t us → IsIn v us → IsBefore t v → ordinal us t < ordinal us v
ord-order us t v h a b before = elim (cases_lt (ordinal us t) (ordinal us v)) [
  | inl g ↦ g
  | inr g ↦ elim (cases_lt (ordinal us v) (ordinal us t)) [
    | inl more ↦ absurd (before-back t v before (rw (sym (stands us v b).is, sym (stands us t a).is) (at-order us (ordinal us v) (ordinal us t) h more (stands us t a).within)))
    | inr less ↦ (let same : ordinal us t ≡ ordinal us v = omega (arith, g, less) in
        absurd (apart t v before (sym (stands us t a).is ∙ ap (λ k. get_or us k []) same ∙ (stands us v b).is)))
  ]
]

pub search-less : (us : List (List ℕ)) (t x : List ℕ) (m : ℕ) → TextsAscend us → IsIn t us → m < length us → x ≡ get_or us m x → slice_cmp nat_cmp t x ≡ Less → ordinal us t < m
search-less us t x m h a b at e =
    let y : x ≡ get_or us m [] = at ∙ get_or_default us m x [] b in
    omega (arith, ord-order us t (get_or us m []) h a (in-at us m [] b) (ap (slice_cmp nat_cmp t) (sym y) ∙ e), ord-of us m h b)

pub search-more : (us : List (List ℕ)) (t x : List ℕ) (m : ℕ) → TextsAscend us → IsIn t us → m < length us → x ≡ get_or us m x → slice_cmp nat_cmp t x ≡ Greater → m < ordinal us t
search-more us t x m h a b at e =
    let y : x ≡ get_or us m [] = at ∙ get_or_default us m x [] b in
    omega (arith, ord-order us (get_or us m []) t h (in-at us m [] b) a (before_of_after t (get_or us m []) (ap (slice_cmp nat_cmp t) (sym y) ∙ e)), ord-of us m h b)

pub search-same : (us : List (List ℕ)) (t x : List ℕ) (m : ℕ) → TextsAscend us → m < length us → x ≡ get_or us m x → slice_cmp nat_cmp t x ≡ Equal → ordinal us t ≡ m
search-same us t x m h b at e = ap (ordinal us) (equal-same t x e ∙ at ∙ get_or_default us m x [] b) ∙ ord-of us m h b

-- ---- one text more

pub push-after : (low : List ℕ) (ts : List (List ℕ)) (t d : List ℕ) → TextsAscendAfter low ts → IsBefore (get_or (low ∷ ts) (length ts) d) t ↔ TextsAscendAfter low (ts ++ t ∷ [])
push-after low [] t d h = ((λ g. (g, tt)), (λ g. g.0))
push-after low (u ∷ ts) t d h = let r = push-after u ts t d h.1 in ((λ g. (h.0, r.0 g)), (λ g. r.1 g.1))

pub push-last : (ts : List (List ℕ)) (t x : List ℕ) → TextsAscend ts → 0 < length ts → x ≡ get_or ts (length ts - 1) x → IsBefore x t ↔ TextsAscend (ts ++ t ∷ [])
push-last [] t x h n e = absurd (omega arith)
push-last (u ∷ ts) t x h n e =
    let k : length (u ∷ ts) - 1 ≡ length ts = omega arith in
    let s : x ≡ get_or (u ∷ ts) (length ts) x = e ∙ ap (λ i. get_or (u ∷ ts) i x) k in
    let r = push-after u ts t x h in
    ((λ g. r.0 (subst (λ z. IsBefore z t) s g)), (λ g. subst (λ z. IsBefore z t) (sym s) (r.1 g)))

pub ascend-take : (k : ℕ) (ts : List (List ℕ)) → TextsAscend ts → TextsAscend (take k ts)
ascend-take zero ts h = tt
ascend-take (suc k) [] h = tt
ascend-take (suc k) (t ∷ ts) h = after-take k t ts h
  where
    after-take : (n : ℕ) (low : List ℕ) (us : List (List ℕ)) → TextsAscendAfter low us → TextsAscendAfter low (take n us)
    after-take zero low us g = tt
    after-take (suc n) low [] g = tt
    after-take (suc n) low (u ∷ us) g = (g.0, after-take n u us g.1)

pub texts-more : (ts : List (List ℕ)) (t : List ℕ) → AreTexts ts → TextsAscend (ts ++ t ∷ []) → IsText t → AreTexts (ts ++ t ∷ [])
texts-more ts t h a k = record { ascend = a; each = each-append IsText ts (t ∷ []) h.each (k, tt) }

-- ---- bytes

-- a text's bytes say where it ends
pub text-one : (t u x y : List ℕ) → IsText t → IsText u → text_bytes t ++ x ≡ text_bytes u ++ y → (t ≡ u) × (x ≡ y)
text-one t u x y h k e =
    let same = text_bytes_injective t u x y (omega (arith, h.short)) (omega (arith, k.short)) e in
    (same.text, same.rest_is)

small-take : (n : ℕ) (xs : List ℕ) → ((i : ℕ) → get_or xs i 0 < 256) → (i : ℕ) → get_or (take n xs) i 0 < 256
small-take zero xs h i = omega arith
small-take (suc n) [] h i = omega arith
small-take (suc n) (x ∷ xs) h zero = h 0
small-take (suc n) (x ∷ xs) h (suc i) = small-take n xs (λ k. h (suc k)) i

pub same-texts : (ts us : List (List ℕ)) (x y : List ℕ) → Each IsText ts → Each IsText us → length ts ≤ length us → flat_map text_bytes ts ++ x ≡ flat_map text_bytes us ++ y
    → (ts ≡ take (length ts) us) × (x ≡ flat_map text_bytes (drop (length ts) us) ++ y)
same-texts [] us x y h k n e = (refl, e)
same-texts (t ∷ ts) [] x y h k n e = absurd (omega arith)
same-texts (t ∷ ts) (u ∷ us) x y h k n e =
    let s = text-one t u (flat_map text_bytes ts ++ x) (flat_map text_bytes us ++ y) h.0 k.0 (sym (append_assoc (text_bytes t) (flat_map text_bytes ts) x) ∙ e ∙ append_assoc (text_bytes u) (flat_map text_bytes us) y) in
    let r = same-texts ts us x y h.1 k.1 (omega arith) s.1 in
    (ap (λ z. z ∷ ts) s.0 ∙ ap (λ z. u ∷ z) r.0, r.1)

-- as many texts are the same ones
pub same-many : (ts us : List (List ℕ)) (x y : List ℕ) → length ts ≡ length us → Each IsText ts → Each IsText us → flat_map text_bytes ts ++ x ≡ flat_map text_bytes us ++ y → (ts ≡ us) × (x ≡ y)
same-many ts us x y n h k e =
    let s = same-texts ts us x y h k (omega (arith, n)) e in
    (s.0 ∙ take_all (length ts) us (omega (arith, n)), s.1 ∙ ap (λ z. flat_map text_bytes z ++ y) (drop_all (length ts) us (omega (arith, n))))

texts-long : (us : List (List ℕ)) → length us ≤ length (flat_map text_bytes us)
texts-long [] = omega arith
texts-long (u ∷ us) = omega (arith, texts-long us, length-append (text_bytes u) (flat_map text_bytes us))

-- a table has as many bytes as texts, or more
pub table-long : (us : List (List ℕ)) (bytes rest : List ℕ) → bytes ≡ table_bytes us ++ rest → length us + 8 ≤ length bytes
table-long us bytes rest e = omega (arith, ap (λ (z : List ℕ). length z) e, length-append (table_bytes us) rest, texts-long us)

-- the first eight bytes, and those that follow
pub cut-eight : (bytes head tail : List ℕ) → ((i : ℕ) → get_or bytes i 0 < 256) → head ≡ take 8 bytes → tail ≡ drop 8 bytes → length tail + 8 ≡ length bytes → (length head ≡ 8) × (bytes ≡ head ++ tail) × ((i : ℕ) → get_or head i 0 < 256)
cut-eight bytes head tail small h t n =
    (omega (arith, ap (λ (z : List ℕ). length z) h, length-take 8 bytes, n), sym (rw (h, t) (take-append-drop 8 bytes)), λ i. rw h (small-take 8 bytes small i))

-- the first eight bytes are the number of texts
pub table-head : (head tail bytes rest : List ℕ) (us : List (List ℕ)) → length head ≡ 8 → bytes ≡ head ++ tail → length bytes < 2 ^ 64 → bytes ≡ table_bytes us ++ rest
    → (from_be_bytes w64 head ≡ length us) × (tail ≡ flat_map text_bytes us ++ rest)
table-head head tail bytes rest us n b few e =
    let split : head ++ tail ≡ to_be_bytes w64 (length us) ++ (flat_map text_bytes us ++ rest) = sym b ∙ e ∙ append_assoc (to_be_bytes w64 (length us)) (flat_map text_bytes us) rest in
    let r = same-fronts head (to_be_bytes w64 (length us)) tail (flat_map text_bytes us ++ rest) n split in
    (ap (from_be_bytes w64) r.0 ∙ from_be_bytes-to_be_bytes_8 (length us) (omega (arith, few, table-long us bytes rest e)), r.1)

-- where fewer texts were read than there are, another one comes
pub record Next (ts us : List (List ℕ)) (rest : List ℕ) : Type 0 where
  pub text : List ℕ
  pub more : List ℕ
  pub good : IsText text
  pub ascend : TextsAscend (ts ++ text ∷ [])
  pub begins : rest ≡ text_bytes text ++ more

pub next-text : (head tail bytes last rest : List ℕ) (ts us : List (List ℕ)) (count k : ℕ) → length head ≡ 8 → bytes ≡ head ++ tail → length bytes < 2 ^ 64 → count ≡ from_be_bytes w64 head → k < count
    → AreTexts ts → length ts ≡ k → tail ≡ flat_map text_bytes ts ++ rest → AreTexts us → bytes ≡ table_bytes us ++ last → Next ts us rest
next-text head tail bytes last rest ts us count k n b few c less h m s g e =
    let top = table-head head tail bytes last us n b few e in
    let inside : length ts < length us = omega (arith, top.0, c, less, m) in
    let r = same-texts ts us rest last h.each g.each (omega (arith, inside)) (sym s ∙ top.1) in
    let d = length ts in
    let t = get_or us d [] in
    let more = flat_map text_bytes (drop (d + 1) us) ++ last in
    record {
      text = t;
      more = more;
      good = each-at IsText us d [] inside g.each;
      ascend = subst (λ z. TextsAscend z) (take_more us d [] inside ∙ ap (λ z. z ++ t ∷ []) (sym r.0)) (ascend-take (d + 1) us g.ascend);
      begins = r.1 ∙ ap (λ z. flat_map text_bytes z ++ last) (drop_more us d [] inside) ∙ append_assoc (text_bytes t) (flat_map text_bytes (drop (d + 1) us)) last;
    }

-- two tables that begin the same bytes are one
pub table-one : (ts us : List (List ℕ)) (x y : List ℕ) → AreTexts ts → AreTexts us → length (table_bytes ts ++ x) < 2 ^ 64 → table_bytes ts ++ x ≡ table_bytes us ++ y → (ts ≡ us) × (x ≡ y)
table-one ts us x y h k few e =
    let whole = table_bytes ts ++ x in
    let top = table-head (to_be_bytes w64 (length ts)) (flat_map text_bytes ts ++ x) whole y us refl (append_assoc (to_be_bytes w64 (length ts)) (flat_map text_bytes ts) x) few e in
    let n : length ts ≡ length us = sym (from_be_bytes-to_be_bytes_8 (length ts) (omega (arith, few, table-long ts whole x refl))) ∙ top.0 in
    same-many ts us x y n h.each k.each top.1

-- what was read is a table
pub table-read : (head tail bytes rest : List ℕ) (ts : List (List ℕ)) (count : ℕ) → length head ≡ 8 → ((i : ℕ) → get_or head i 0 < 256) → bytes ≡ head ++ tail → count ≡ from_be_bytes w64 head → length ts ≡ count
    → tail ≡ flat_map text_bytes ts ++ rest → bytes ≡ table_bytes ts ++ rest
table-read head tail bytes rest ts count n small b c m e =
    b ∙ ap (λ z. z ++ tail) (sym (be_bytes_8 head (length ts) n small (m ∙ c))) ∙ ap (λ z. to_be_bytes w64 (length ts) ++ z) e
    ∙ sym (append_assoc (to_be_bytes w64 (length ts)) (flat_map text_bytes ts) rest)

pub texts-push : (tail rest text after : List ℕ) (ts : List (List ℕ)) → tail ≡ flat_map text_bytes ts ++ rest → rest ≡ text_bytes text ++ after → tail ≡ flat_map text_bytes (ts ++ text ∷ []) ++ after
texts-push tail rest text after ts e f =
    e ∙ ap (λ z. flat_map text_bytes ts ++ z) f ∙ sym (append_assoc (flat_map text_bytes ts) (text_bytes text) after) ∙ ap (λ z. z ++ after) (sym (flat-push ts text))
  where
    flat-push : (us : List (List ℕ)) (t : List ℕ) → flat_map text_bytes (us ++ t ∷ []) ≡ flat_map text_bytes us ++ text_bytes t
    flat-push [] t = append-nil (text_bytes t)
    flat-push (u ∷ us) t = ap (λ z. text_bytes u ++ z) (flat-push us t) ∙ sym (append_assoc (text_bytes u) (flat_map text_bytes us) (text_bytes t))
