-- Columns of texts.
use Rattle.std.proofs.Common.{◌≡◌, ℕ, ℤ, pos, ◌-◌, ◌<◌, ◌≤◌, ◌^◌, List, [], ◌∷◌, ◌++◌, length, take, drop, map, refl, sym, ◌∙◌, ap, subst, arith}
use Rattle.std.specs.Prelude.{slice_range}
use Rattle.std.proofs.lemmas.List.{append_assoc, length-append, length-map, length-take-le, take-append-drop, take-map, drop-map}
use Rattle.packed_lists.specs.Lists.{Fronted, joined}
use Rattle.column_block.specs.declared.kinds.Values.TheVariants.{Words}
use Rattle.column_block.specs.Cutting.{IsShort, cut, total}
use Rattle.packed_lists.specs.Nums.{AreNums}
use Rattle.row_cells.specs.Each.{Each}
use Rattle.column_block.specs.Rules.{IsTextRow, KeepsRules, TextsAscend}
use Rattle.column_block.specs.Spelling.{IsTableOf, Spells, lengths, ordinal, ordinals, table_bytes}
use Rattle.column_block.specs.Worded.{AreOrdinals, AreTexts, AreWords, ClimbFrom, HaveSame, texts_at, worded}
use Rattle.column_block.specs.EachLaws.{each-range}
use Rattle.column_block.proofs.Climbing.{joined-map, ordinals-valid, words-back, places-back, text-rows, table-is}
use Rattle.column_block.proofs.Cuts.{cut-joined, total-lengths}
use Rattle.packed_lists.specs.Laws.Fronts.{same-nums, take-front, drop-front}
use Rattle.column_block.proofs.NumberRowed.{all-rows}
use Rattle.column_block.proofs.OneColumn.{texts-each}
use Rattle.column_block.proofs.Rowed.{begins-sizes}
use Rattle.column_block.proofs.Tabling.{table-one}

-- lists by what is kept
pub words-are : (us : List (List ℕ)) (rows : Fronted) (lists : List (List (List ℕ))) → AreWords us rows lists → worded us rows.lists ≡ lists
words-are us rows lists h = ap (worded us) h.rows_are ∙ words-back us lists (λ t g. (h.table.occur t).1 g)

pub lengths-map : {A B : Type 0} (f : A → B) (lists : List (List A)) → lengths (map (map f) lists) ≡ lengths lists
lengths-map f [] = refl
lengths-map f (xs ∷ lists) = ap (λ n. pos n ∷ lengths (map (map f) lists)) (length-map xs f) ∙ ap (λ z. pos (length xs) ∷ z) (lengths-map f lists)

pub spell-words : (us : List (List ℕ)) (lists : List (List (List ℕ))) (rows : List (List ℤ)) (nums : List ℕ) → rows ≡ map (ordinals us) lists → AreNums (lengths rows ∷ joined rows ∷ []) nums → AreNums (lengths lists ∷ ordinals us (joined lists) ∷ []) nums
spell-words us lists rows nums e h =
    let f : List ℕ → ℤ = λ u. pos (ordinal us u) in
    let g = subst (λ z. AreNums (lengths z ∷ joined z ∷ []) nums) e h in
    subst (λ z. AreNums (z ∷ ordinals us (joined lists) ∷ []) nums) (lengths-map f lists) (subst (λ z. AreNums (lengths (map (ordinals us) lists) ∷ z ∷ []) nums) (joined-map f lists) g)

pub words-spell : (us : List (List ℕ)) (lists : List (List (List ℕ))) (nums : List ℕ) → AreNums (lengths lists ∷ ordinals us (joined lists) ∷ []) nums → AreNums (lengths (map (ordinals us) lists) ∷ joined (map (ordinals us) lists) ∷ []) nums
words-spell us lists nums h =
    let f : List ℕ → ℤ = λ u. pos (ordinal us u) in
    subst (λ z. AreNums (lengths (map (ordinals us) lists) ∷ z ∷ []) nums) (sym (joined-map f lists)) (subst (λ z. AreNums (z ∷ ordinals us (joined lists) ∷ []) nums) (sym (lengths-map f lists)) h)

-- the bytes of a column
pub words-bytes : (us : List (List ℕ)) (rows : Fronted) (lists : List (List (List ℕ))) (bytes : List ℕ) → AreWords us rows lists → ((nums : List ℕ) × AreNums (lengths rows.lists ∷ joined rows.lists ∷ []) nums × (bytes ≡ rows.front ++ nums)) → Spells (Words lists) bytes
words-bytes us rows lists bytes h (nums, g, e) = (us, h.table, (nums, spell-words us lists rows.lists nums h.rows_are g, e ∙ ap (λ z. z ++ nums) h.front))

-- ---- building

short-rows : (us : List (List ℕ)) (lists : List (List (List ℕ))) → Each IsTextRow lists → Each IsShort (map (ordinals us) lists)
short-rows us [] h = tt
short-rows us (ts ∷ lists) h = (omega (arith, h.0.few, length-map ts (λ u. pos (ordinal us u))), short-rows us lists h.1)

pub short-places : (us : List (List ℕ)) (lists : List (List (List ℕ))) (rows : List (List ℤ)) → rows ≡ map (ordinals us) lists → Each IsTextRow lists → Each IsShort rows
short-places us lists rows e h = subst (λ z. Each IsShort z) (sym e) (short-rows us lists h)

-- the texts of a table can be one
pub table-texts : (us : List (List ℕ)) (lists : List (List (List ℕ))) → TextsAscend us → HaveSame us (joined lists) → Each IsTextRow lists → AreTexts us
table-texts us lists a s h = record { ascend = a; each = texts-each us lists (record { ascend = a; occur = s }) h }

pub built-words : (us lent other : List (List ℕ)) (lists : List (List (List ℕ))) (rows : Fronted) (front : List ℕ) (places shown : List (List ℤ)) → TextsAscend us → HaveSame us (joined lists) → Each IsTextRow lists
    → lent ≡ us → front ≡ table_bytes lent → other ≡ us → places ≡ map (ordinals other) lists → shown ≡ places → rows.front ≡ front → rows.lists ≡ shown → AreWords us rows lists
built-words us lent other lists rows front places shown a s h l f o p v r q = record {
  table = record { ascend = a; occur = s };
  front = r ∙ f ∙ ap table_bytes l;
  rows_are = q ∙ v ∙ p ∙ ap (λ z. map (ordinals z) lists) o;
  rules = h;
}

-- ---- ranges

pub worded-range : (us : List (List ℕ)) (rows : List (List ℤ)) (from to : ℕ) → worded us (slice_range rows from to) ≡ slice_range (worded us rows) from to
worded-range us rows from to = sym (take-map (texts_at us) (to - from) (drop from rows)) ∙ ap (take (to - from)) (sym (drop-map (texts_at us) from rows))

-- ---- reading

-- two packed groups of lists that stand at one place are one
pub rows-one : (bytes nums more rest : List ℕ) (front end : ℕ) (rows lists : List (List ℤ)) → front ≤ length bytes → length rows ≡ length lists → AreNums (lengths rows ∷ joined rows ∷ []) nums → take end bytes ≡ take front bytes ++ nums
    → AreNums (lengths lists ∷ joined lists ∷ []) more → drop front bytes ≡ more ++ rest → rows ≡ lists
rows-one bytes nums more rest front end rows lists inside n h e k f =
    let whole : bytes ≡ take front bytes ++ (nums ++ drop end bytes) = sym (take-append-drop end bytes) ∙ ap (λ z. z ++ drop end bytes) e ∙ append_assoc (take front bytes) nums (drop end bytes) in
    let behind : drop front bytes ≡ nums ++ drop end bytes = drop-front bytes (take front bytes) (nums ++ drop end bytes) front whole (sym (length-take-le front bytes inside)) in
    let (a1, b1, h1, e1, g1) = begins-sizes bytes nums (drop end bytes) front rows h behind in
    let (a2, b2, h2, e2, g2) = begins-sizes bytes more rest front lists k f in
    let sizes = same-nums (lengths rows) (lengths lists) a1 a2 (b1 ++ drop end bytes) (b2 ++ rest) (length-map rows (λ xs. pos (length xs)) ∙ n ∙ sym (length-map lists (λ xs. pos (length xs)))) h1 h2 (sym e1 ∙ e2) in
    let many : length (joined rows) ≡ length (joined lists) = sym (total-lengths rows) ∙ ap (λ z. total z) sizes.0 ∙ total-lengths lists in
    let all = same-nums (joined rows) (joined lists) b1 b2 (drop end bytes) rest many g1 g2 sizes.2 in
    sym (cut-joined rows) ∙ ap (λ z. cut z (joined rows)) sizes.0 ∙ ap (cut (lengths lists)) all.0 ∙ cut-joined lists

-- what bytes that begin with a column of some lists have behind its table
pub record Begun (us : List (List ℕ)) (bytes : List ℕ) (used rows : ℕ) : Type 0 where
  pub lists : List (List ℤ)
  pub nums : List ℕ
  pub rest : List ℕ
  pub long : length lists ≡ rows
  pub short : Each IsShort lists
  pub spelled : AreNums (lengths lists ∷ joined lists ∷ []) nums
  pub behind : drop used bytes ≡ nums ++ rest
  pub valid : AreOrdinals (length us) lists

-- the table that a column's bytes begin with
pub begins-table : (bytes spelling rest : List ℕ) (lists : List (List (List ℕ))) → KeepsRules (Words lists) → Spells (Words lists) spelling → bytes ≡ spelling ++ rest → (us : List (List ℕ)) × (more : List ℕ) × AreTexts us × (bytes ≡ table_bytes us ++ more)
begins-table bytes spelling rest lists h (us, t, (nums, g, e)) f =
    (us, nums ++ rest, table-texts us lists t.ascend t.occur h, f ∙ ap (λ z. z ++ rest) e ∙ append_assoc (table_bytes us) nums rest)

pub begun : (us : List (List ℕ)) (bytes tail spelling rest : List ℕ) (used rows : ℕ) (lists : List (List (List ℕ))) → AreTexts us → used ≡ length (table_bytes us) → bytes ≡ table_bytes us ++ tail → length bytes < 2 ^ 64
    → length lists ≡ rows → KeepsRules (Words lists) → Spells (Words lists) spelling → bytes ≡ spelling ++ rest → Begun us bytes used rows
begun us bytes tail spelling rest used rows lists a u e few n h (vs, t, (nums, g, d)) f =
    let whole : bytes ≡ table_bytes vs ++ (nums ++ rest) = f ∙ ap (λ z. z ++ rest) d ∙ append_assoc (table_bytes vs) nums rest in
    let one = table-one us vs tail (nums ++ rest) a (table-texts vs lists t.ascend t.occur h) (subst (λ z. length z < 2 ^ 64) e few) (sym e ∙ whole) in
    let table : IsTableOf us lists = subst (λ z. IsTableOf z lists) (sym one.0) t in
    record {
      lists = map (ordinals us) lists;
      nums = nums;
      rest = rest;
      long = length-map lists (ordinals us) ∙ n;
      short = short-rows us lists h;
      spelled = words-spell us lists nums (subst (λ z. AreNums (lengths lists ∷ ordinals z (joined lists) ∷ []) nums) (sym one.0) g);
      behind = drop-front bytes (table_bytes us) tail used e u ∙ one.1;
      valid = ordinals-valid us lists h table;
    }

-- what was read
pub read-words : (us : List (List ℕ)) (bytes tail : List ℕ) (used : ℕ) (rows : Fronted) → AreTexts us → used ≡ length (table_bytes us) → bytes ≡ table_bytes us ++ tail → rows.front ≡ take used bytes → Each IsShort rows.lists → AreOrdinals (length us) rows.lists
    → AreWords us rows (worded us rows.lists)
read-words us bytes tail used rows a u e f s o = record {
  table = table-is us rows.lists a o;
  front = f ∙ take-front bytes (table_bytes us) tail used e u;
  rows_are = sym (places-back us rows.lists a.ascend o.climb);
  rules = text-rows us rows.lists a s o.climb;
}

pub table-inside : (us : List (List ℕ)) (bytes tail : List ℕ) (used : ℕ) → used ≡ length (table_bytes us) → bytes ≡ table_bytes us ++ tail → used ≤ length bytes
table-inside us bytes tail used u e = omega (arith, u, ap (λ (z : List ℕ). length z) e, length-append (table_bytes us) tail)

-- the test of places, of all rows
pub read-ordinals : (count n rows : ℕ) (shown places lists : List (List ℤ)) → AreOrdinals count shown → count ≡ n → shown ≡ places → places ≡ slice_range lists 0 rows → length lists ≡ rows → AreOrdinals n lists
read-ordinals count n rows shown places lists h c s p m =
    subst (λ z. AreOrdinals z lists) c (subst (λ z. AreOrdinals count z) (s ∙ p ∙ all-rows lists rows m) h)

pub shown-ordinals : (count n rows : ℕ) (shown places lists other : List (List ℤ)) → AreOrdinals n other → count ≡ n → shown ≡ places → places ≡ slice_range lists 0 rows → length lists ≡ rows → lists ≡ other → AreOrdinals count shown
shown-ordinals count n rows shown places lists other h c s p m e =
    subst (λ z. AreOrdinals z shown) (sym c) (subst (λ z. AreOrdinals n z) (sym (s ∙ p ∙ all-rows lists rows m ∙ e)) h)

pub climb-range : (us lent : List (List ℕ)) (rows : Fronted) (lists : List (List (List ℕ))) (shown places : List (List ℤ)) (from to : ℕ) → AreWords us rows lists → lent ≡ us → shown ≡ places → places ≡ slice_range rows.lists from to
    → Each (ClimbFrom (pos 0) (pos (length lent))) shown
climb-range us lent rows lists shown places from to h l s p =
    let all : Each (ClimbFrom (pos 0) (pos (length us))) rows.lists = subst (λ z. Each (ClimbFrom (pos 0) (pos (length us))) z) (sym h.rows_are) (ordinals-valid us lists h.rules h.table).climb in
    subst (λ z. Each (ClimbFrom (pos 0) (pos (length z))) shown) (sym l)
    (subst (λ z. Each (ClimbFrom (pos 0) (pos (length us))) z) (sym (s ∙ p)) (each-range (ClimbFrom (pos 0) (pos (length us))) rows.lists from to all))

pub values-are : (us lent : List (List ℕ)) (rows shown places : List (List ℤ)) (lists : List (List (List ℕ))) (from to : ℕ) → lent ≡ us → shown ≡ places → places ≡ slice_range rows from to → worded us rows ≡ lists → worded lent shown ≡ slice_range lists from to
values-are us lent rows shown places lists from to l s p v =
    ap (λ z. worded z shown) l ∙ ap (worded us) (s ∙ p) ∙ worded-range us rows from to ∙ ap (λ z. slice_range z from to) v
