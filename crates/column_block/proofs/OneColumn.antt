-- Values have one spelling, and a spelling tells its values and its end.
use Rattle.std.proofs.Common.{◌≡◌, ℕ, ℤ, pos, ◌*◌, ◌<◌, ◌≤◌, Bool, List, [], ◌∷◌, ◌++◌, length, get_or, take, refl, sym, ◌∙◌, ap, subst, arith, inl, inr}
use Rattle.std.specs.Prelude.{Option}
use Rattle.std.specs.Int.{w64, to_be_bytes}
use Rattle.std.specs.List.{concat, flat_map}
use Rattle.std.specs.Option.{is_some}
use Rattle.std.proofs.lemmas.Bool.{cases_lt}
use Rattle.std.proofs.lemmas.List.{append_assoc, length-append, length-map, length-take-le, get_or_append_left}
use Rattle.fold_law.specs.declared.measures.Parts.{Parts}
use Rattle.column_pack.specs.Laws.OneList.{block-count, block-size}
use Rattle.row_cells.specs.Limits.{longest_list}
use Rattle.column_block.specs.declared.kinds.ColumnKind.{ColumnKind}
use Rattle.column_block.specs.declared.kinds.Values.{Values}
use Rattle.column_block.specs.declared.kinds.Values.TheVariants.{Whole, Parts as PartsOf, Wholes, Words}
use Rattle.packed_lists.specs.Nums.{IsNums, AreNums}
use Rattle.column_block.specs.Presence.{presence, present, flags_of, flags_in, ones, spread}
use Rattle.row_cells.specs.Each.{Each}
use Rattle.column_block.specs.Rules.{IsText, IsTextRow, IsColumnOf, KeepsRules, kind_of, rows_of}
use Rattle.row_cells.specs.Dimensions.{text_bytes}
use Rattle.column_block.specs.Cutting.{cut, total}
use Rattle.column_block.specs.Spelling.{IsIn, IsAhead, IsTableOf, Spells, lengths, ordinal, ordinals, six_lists, table_bytes}
use Rattle.packed_lists.specs.Lists.{joined}
use Rattle.packed_lists.specs.Laws.Spelled.{one-each, same-each}
use Rattle.packed_lists.specs.Laws.Fronts.{same-fronts, same-nums}
use Rattle.column_block.proofs.Presences.{flags-are, length-present, spread-present}
use Rattle.column_block.specs.EachLaws.{each-append}
use Rattle.column_block.proofs.Among.{each-all, each-in}
use Rattle.column_block.proofs.Cuts.{cut-joined, total-lengths}
use Rattle.column_block.proofs.SixLists.{six-alike, six-tell}
use Rattle.column_block.proofs.Tabling.{same-many, same-texts}
use Rattle.column_block.proofs.TextTables.{same-table, no-longer, same-ordinals, more-first, same-eight}

-- ---- one spelling

same-tables : (ts us : List (List ℕ)) (lists : List (List (List ℕ))) → IsTableOf ts lists → IsTableOf us lists → ts ≡ us
same-tables ts us lists h k = same-table ts us h.ascend k.ascend (λ t i. (k.occur t).1 ((h.occur t).0 i)) (λ t i. (h.occur t).1 ((k.occur t).0 i))

one-ahead : (front : List ℕ) (lists : List (List ℤ)) (a b : List ℕ) → IsAhead front lists a → IsAhead front lists b → a ≡ b
one-ahead front lists a b (rest, h, e) (more, k, f) = e ∙ ap (λ z. front ++ z) (one-each lists rest more h k) ∙ sym f

pub one-column : (vs : Values) (a b : List ℕ) → Spells vs a → Spells vs b → a ≡ b
one-column (Whole vs) a b h k = one-ahead (presence (flags_of vs)) (present vs ∷ []) a b h k
one-column (PartsOf ps) a b h k = one-ahead (presence (flags_of ps)) (six_lists (present ps)) a b h k
one-column (Wholes lists) a b h k = one-each (lengths lists ∷ joined lists ∷ []) a b h k
one-column (Words lists) a b (ts, h, g) (us, k, f) =
    let same = same-tables us ts lists k h in
    one-ahead (table_bytes ts) (lengths lists ∷ ordinals ts (joined lists) ∷ []) a b g
    (subst (λ z. IsAhead (table_bytes z) (lengths lists ∷ ordinals z (joined lists) ∷ []) b) same f)

-- ---- which rows have a value

same-flags : (fs gs : List Bool) (x y : List ℕ) → length fs ≡ length gs → presence fs ++ x ≡ presence gs ++ y → (fs ≡ gs) × (x ≡ y)
same-flags fs gs x y n e =
    let same : fs ≡ gs = sym (flags-are fs (presence fs ++ x) x refl) ∙ ap (λ z. flags_in z (presence fs ++ x)) n ∙ flags-are gs (presence fs ++ x) y e in
    (same, (same-fronts (presence fs) (presence gs) x y (ap (λ (z : List Bool). length (presence z)) same) e).1)

same-marks : {A : Type 0} (vs ws : List (Option A)) (x y : List ℕ) → length vs ≡ length ws → presence (flags_of vs) ++ x ≡ presence (flags_of ws) ++ y → (flags_of vs ≡ flags_of ws) × (x ≡ y)
same-marks vs ws x y n e = same-flags (flags_of vs) (flags_of ws) x y (length-map vs is_some ∙ n ∙ sym (length-map ws is_some)) e

same-rows : {A : Type 0} (vs ws : List (Option A)) → flags_of vs ≡ flags_of ws → present vs ≡ present ws → vs ≡ ws
same-rows vs ws f p = sym (spread-present vs) ∙ ap (λ z. spread z (present vs)) f ∙ ap (spread (flags_of ws)) p ∙ spread-present ws

as-many : {A : Type 0} (vs ws : List (Option A)) → flags_of vs ≡ flags_of ws → length (present vs) ≡ length (present ws)
as-many vs ws f = length-present vs ∙ ap ones f ∙ sym (length-present ws)

-- what stands behind which rows have a value
behind : {A : Type 0} (vs ws : List (Option A)) (a b r s x y : List ℕ) → length vs ≡ length ws → a ≡ presence (flags_of vs) ++ r → b ≡ presence (flags_of ws) ++ s → a ++ x ≡ b ++ y
    → (flags_of vs ≡ flags_of ws) × (r ++ x ≡ s ++ y)
behind vs ws a b r s x y n e f q =
    same-marks vs ws (r ++ x) (s ++ y) n (sym (append_assoc (presence (flags_of vs)) r x) ∙ ap (λ z. z ++ x) (sym e) ∙ q ∙ ap (λ z. z ++ y) f ∙ append_assoc (presence (flags_of ws)) s y)

bytes-same : {A : Type 0} (vs ws : List (Option A)) (a b r s : List ℕ) → a ≡ presence (flags_of vs) ++ r → b ≡ presence (flags_of ws) ++ s → flags_of vs ≡ flags_of ws → r ≡ s → a ≡ b
bytes-same vs ws a b r s e f g h = e ∙ ap (λ z. presence z ++ r) g ∙ ap (λ z. presence (flags_of ws) ++ z) h ∙ sym f

same-whole : (vs ws : List (Option ℤ)) (a b x y : List ℕ) → length vs ≡ length ws → Spells (Whole vs) a → Spells (Whole ws) b → a ++ x ≡ b ++ y → (vs ≡ ws) × (a ≡ b) × (x ≡ y)
same-whole vs ws a b x y n (r, h, e) (s, k, f) q =
    let front = behind vs ws a b r s x y n e f q in
    let rest = same-each (present vs ∷ []) (present ws ∷ []) r s x y (as-many vs ws front.0, tt) h k front.1 in
    (same-rows vs ws front.0 (ap (λ (z : List (List ℤ)). get_or z 0 []) rest.0), bytes-same vs ws a b r s e f front.0 rest.1, rest.2)

-- ---- parts by their six lists

same-parts-column : (vs ws : List (Option Parts)) (a b x y : List ℕ) → length vs ≡ length ws → Spells (PartsOf vs) a → Spells (PartsOf ws) b → a ++ x ≡ b ++ y → (vs ≡ ws) × (a ≡ b) × (x ≡ y)
same-parts-column vs ws a b x y n (r, h, e) (s, k, f) q =
    let front = behind vs ws a b r s x y n e f q in
    let rest = same-each (six_lists (present vs)) (six_lists (present ws)) r s x y (six-alike (present vs) (present ws) (as-many vs ws front.0)) h k front.1 in
    (same-rows vs ws front.0 (six-tell (present vs) (present ws) rest.0), bytes-same vs ws a b r s e f front.0 rest.1, rest.2)

-- ---- lists by their lengths and items

joined-length : {A : Type 0} (xs ys : List (List A)) → lengths xs ≡ lengths ys → length (joined xs) ≡ length (joined ys)
joined-length xs ys same = sym (total-lengths xs) ∙ ap total same ∙ total-lengths ys

-- items are cut by the lengths
same-cut : {A : Type 0} (xs ys : List (List A)) → lengths xs ≡ lengths ys → joined xs ≡ joined ys → xs ≡ ys
same-cut xs ys same all = sym (cut-joined xs) ∙ ap (λ z. cut z (joined xs)) same ∙ ap (cut (lengths ys)) all ∙ cut-joined ys

-- a list whose length is known, and one whose length it tells
two-lists : (ls ms us ws : List ℤ) (a b x y : List ℕ) → length ls ≡ length ms → (ls ≡ ms → length us ≡ length ws) → AreNums (ls ∷ us ∷ []) a → AreNums (ms ∷ ws ∷ []) b → a ++ x ≡ b ++ y
    → (ls ≡ ms) × (us ≡ ws) × (a ≡ b) × (x ≡ y)
two-lists ls ms us ws a b x y n tell (c, r, g, h, e) (d, s, k, l, f) q =
    let first = same-nums ls ms c d (r ++ x) (s ++ y) n g k (sym (append_assoc c r x) ∙ ap (λ z. z ++ x) (sym e) ∙ q ∙ ap (λ z. z ++ y) f ∙ append_assoc d s y) in
    let rest = same-each (us ∷ []) (ws ∷ []) r s x y (tell first.0, tt) h l first.2 in
    (first.0, ap (λ (z : List (List ℤ)). get_or z 0 []) rest.0, e ∙ ap (λ z. z ++ r) first.1 ∙ ap (λ z. d ++ z) rest.1 ∙ sym f, rest.2)

same-lengths : {A : Type 0} (xs ys : List (List A)) → length xs ≡ length ys → length (lengths xs) ≡ length (lengths ys)
same-lengths xs ys n = length-map xs (λ z. pos (length z)) ∙ n ∙ sym (length-map ys (λ z. pos (length z)))

pub same-wholes : (vs ws : List (List ℤ)) (a b x y : List ℕ) → length vs ≡ length ws → Spells (Wholes vs) a → Spells (Wholes ws) b → a ++ x ≡ b ++ y → (vs ≡ ws) × (a ≡ b) × (x ≡ y)
same-wholes vs ws a b x y n h k q =
    let both = two-lists (lengths vs) (lengths ws) (joined vs) (joined ws) a b x y (same-lengths vs ws n) (joined-length vs ws) h k q in
    (same-cut vs ws both.0 both.1, both.2, both.3)

-- ---- texts by their table

-- all texts of rows are texts
joined-texts : (lists : List (List (List ℕ))) → Each IsTextRow lists → Each IsText (joined lists)
joined-texts [] h = tt
joined-texts (ts ∷ lists) h = each-append IsText ts (joined lists) h.0.texts (joined-texts lists h.1)

joined-few : (lists : List (List (List ℕ))) → Each IsTextRow lists → length (joined lists) ≤ longest_list * length lists
joined-few [] h = omega arith
joined-few (ts ∷ lists) h = omega (arith, h.0.few, length-append ts (joined lists), joined-few lists h.1)

pub texts-each : (ts : List (List ℕ)) (lists : List (List (List ℕ))) → IsTableOf ts lists → Each IsTextRow lists → Each IsText ts
texts-each ts lists t h = each-all IsText ts (λ u i. each-in IsText (joined lists) u (joined-texts lists h) ((t.occur u).0 i))

table-few : (ts : List (List ℕ)) (lists : List (List (List ℕ))) → IsTableOf ts lists → Each IsTextRow lists → length ts ≤ longest_list * length lists
table-few ts lists t h = omega (arith, no-longer ts (joined lists) t.ascend (λ u i. (t.occur u).0 i), joined-few lists h)

in-table : (ts : List (List ℕ)) (lists : List (List (List ℕ))) → IsTableOf ts lists → Each (λ t. IsIn t ts) (joined lists)
in-table ts lists t = each-all (λ u. IsIn u ts) (joined lists) (λ u i. (t.occur u).1 i)

-- 128 rows or more begin with a block of 128
nums-first : (vs : List ℤ) (nums x : List ℕ) → IsNums vs nums → 128 ≤ length vs → get_or (nums ++ x) 0 0 ≡ 128
nums-first vs nums x ([], h, e) many = absurd (omega (arith, many, ap (λ (z : List ℤ). length z) h))
nums-first vs nums x (b ∷ bs, h, e) many =
    let long : 0 < length b = omega (arith, block-size (take 128 vs) b h.0) in
    ap (λ z. get_or (z ++ x) 0 0) e ∙ ap (λ (z : List ℕ). get_or z 0 0) (append_assoc b (concat bs) x) ∙ get_or_append_left b (concat bs ++ x) 0 0 long
    ∙ block-count (take 128 vs) b h.0 ∙ length-take-le 128 vs many

-- no table has fewer texts where lengths of 128 rows or more follow
not-fewer : (ts us : List (List ℕ)) (vs : List ℤ) (nums x y : List ℕ) → Each IsText ts → Each IsText us → IsNums vs nums → 128 ≤ length vs
    → flat_map text_bytes ts ++ (nums ++ x) ≡ flat_map text_bytes us ++ y → length ts < length us → ⊥
not-fewer ts us vs nums x y h k g many e fewer =
    let rest = same-texts ts us (nums ++ x) y h k (omega (arith, fewer)) e in
    absurd (omega (arith, nums-first vs nums x g many, ap (λ (z : List ℕ). get_or z 0 0) rest.1, more-first us (length ts) y fewer k))

-- a table's bytes tell how many texts it has, by their number or, where so many would be cut, by what follows
as-many-texts : (ts us : List (List ℕ)) (rows : ℕ) (vs ws : List ℤ) (c d x y : List ℕ) → Each IsText ts → Each IsText us → length ts ≤ longest_list * rows → length us ≤ longest_list * rows
    → length vs ≡ rows → length ws ≡ rows → IsNums vs c → IsNums ws d → to_be_bytes w64 (length ts) ≡ to_be_bytes w64 (length us)
    → flat_map text_bytes ts ++ (c ++ x) ≡ flat_map text_bytes us ++ (d ++ y) → length ts ≡ length us
as-many-texts ts us rows vs ws c d x y h k few_ts few_us n m g l eight e = elim (cases_lt rows 128) [
  | inl few ↦ same-eight (length ts) (length us) (omega (arith, few, few_ts)) (omega (arith, few, few_us)) eight
  | inr many ↦ elim (cases_lt (length ts) (length us)) [
    | inl less ↦ absurd (not-fewer ts us vs c x (d ++ y) h k g (omega (arith, many, n)) e less)
    | inr not_less ↦ elim (cases_lt (length us) (length ts)) [
      | inl less ↦ absurd (not-fewer us ts ws d y (c ++ x) k h l (omega (arith, many, m)) (sym e) less)
      | inr not_more ↦ omega (arith, not_less, not_more)
    ]
  ]
]

same-words : (vs ws : List (List (List ℕ))) (a b x y : List ℕ) → length vs ≡ length ws → Each IsTextRow vs → Each IsTextRow ws → Spells (Words vs) a → Spells (Words ws) b → a ++ x ≡ b ++ y
    → (vs ≡ ws) × (a ≡ b) × (x ≡ y)
same-words vs ws a b x y n rules_v rules_w (ts, t, (r, (c, r2, g, h, e2), e)) (us, u, (s, (d, s2, k, l, f2), f)) q =
    let split = same-fronts (to_be_bytes w64 (length ts)) (to_be_bytes w64 (length us)) (flat_map text_bytes ts ++ (r ++ x)) (flat_map text_bytes us ++ (s ++ y)) refl
    (sym (opened ts r x) ∙ ap (λ z. z ++ x) (sym e) ∙ q ∙ ap (λ z. z ++ y) f ∙ opened us s y) in
    let texts_t = texts-each ts vs t rules_v in
    let texts_u = texts-each us ws u rules_w in
    let many : length ts ≡ length us = as-many-texts ts us (length vs) (lengths vs) (lengths ws) c d (r2 ++ x) (s2 ++ y) texts_t texts_u
    (table-few ts vs t rules_v) (subst (λ z. length us ≤ longest_list * z) (sym n) (table-few us ws u rules_w))
    (length-map vs (λ z. pos (length z))) (length-map ws (λ z. pos (length z)) ∙ sym n) g k split.0
    (ap (λ z. flat_map text_bytes ts ++ z) (sym (append_assoc c r2 x) ∙ ap (λ z. z ++ x) (sym e2)) ∙ split.1 ∙ ap (λ z. flat_map text_bytes us ++ z) (ap (λ z. z ++ y) f2 ∙ append_assoc d s2 y)) in
    let table = same-many ts us (r ++ x) (s ++ y) many texts_t texts_u split.1 in
    let both = two-lists (lengths vs) (lengths ws) (ordinals ts (joined vs)) (ordinals us (joined ws)) r s x y (same-lengths vs ws n)
    (λ same. length-map (joined vs) (λ z. pos (ordinal ts z)) ∙ joined-length vs ws same ∙ sym (length-map (joined ws) (λ z. pos (ordinal us z)))) (c, r2, g, h, e2) (d, s2, k, l, f2) table.1 in
    let all : joined vs ≡ joined ws = same-ordinals ts (joined vs) (joined ws) (in-table ts vs t) (subst (λ z. Each (λ v. IsIn v z) (joined ws)) (sym table.0) (in-table us ws u))
    (both.1 ∙ ap (λ z. ordinals z (joined ws)) (sym table.0)) in
    (same-cut vs ws both.0 all, e ∙ ap (λ z. table_bytes z ++ r) table.0 ∙ ap (λ z. table_bytes us ++ z) both.2 ∙ sym f, both.3)
  where
    opened : (table' : List (List ℕ)) (m z : List ℕ) → (table_bytes table' ++ m) ++ z ≡ to_be_bytes w64 (length table') ++ (flat_map text_bytes table' ++ (m ++ z))
    opened table' m z = append_assoc (table_bytes table') m z ∙ append_assoc (to_be_bytes w64 (length table')) (flat_map text_bytes table') (m ++ z)

-- ---- any kind

pub one-value : (kind : ColumnKind) (rows : ℕ) (vs ws : Values) (a b x y : List ℕ) → IsColumnOf kind rows vs → IsColumnOf kind rows ws → Spells vs a → Spells ws b → a ++ x ≡ b ++ y → (vs ≡ ws) × (a ≡ b) × (x ≡ y)
one-value kind rows vs ws a b x y h k s t e = go vs ws (h.kind_is ∙ sym k.kind_is) (h.rows_are ∙ sym k.rows_are) h.rules k.rules s t
  where
    go : (v w : Values) → kind_of v ≡ kind_of w → rows_of v ≡ rows_of w → KeepsRules v → KeepsRules w → Spells v a → Spells w b → (v ≡ w) × (a ≡ b) × (x ≡ y)
    go (Whole v) (Whole w) same n p q g l = (let r = same-whole v w a b x y n g l e in (ap Whole r.0, r.1, r.2))
    go (PartsOf v) (PartsOf w) same n p q g l = (let r = same-parts-column v w a b x y n g l e in (ap PartsOf r.0, r.1, r.2))
    go (Wholes v) (Wholes w) same n p q g l = (let r = same-wholes v w a b x y n g l e in (ap Wholes r.0, r.1, r.2))
    go (Words v) (Words w) same n p q g l = (let r = same-words v w a b x y n p q g l e in (ap Words r.0, r.1, r.2))
    go (Whole v) (PartsOf w) same n p q g l = absurd cc
    go (Whole v) (Wholes w) same n p q g l = absurd cc
    go (Whole v) (Words w) same n p q g l = absurd cc
    go (PartsOf v) (Whole w) same n p q g l = absurd cc
    go (PartsOf v) (Wholes w) same n p q g l = absurd cc
    go (PartsOf v) (Words w) same n p q g l = absurd cc
    go (Wholes v) (Whole w) same n p q g l = absurd cc
    go (Wholes v) (PartsOf w) same n p q g l = absurd cc
    go (Wholes v) (Words w) same n p q g l = absurd cc
    go (Words v) (Whole w) same n p q g l = absurd cc
    go (Words v) (PartsOf w) same n p q g l = absurd cc
    go (Words v) (Wholes w) same n p q g l = absurd cc
