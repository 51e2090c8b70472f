-- Columns of parts.
use Rattle.std.proofs.Common.{◌≡◌, ℕ, ◌+◌, ◌<◌, ◌^◌, Bool, true, false, List, [], ◌++◌, length, take, drop, map, refl, sym, ◌∙◌, ap, subst, arith}
use Rattle.std.specs.Prelude.{Option}
use Rattle.std.specs.Int.{div_ceil}
use Rattle.std.specs.Option.{is_some}
use Rattle.std.proofs.lemmas.List.{length-map, append_assoc}
use Rattle.fold_law.specs.declared.measures.Parts.{Parts}
use Rattle.column_block.specs.declared.kinds.Values.TheVariants.{Parts as PartsOf}
use Rattle.packed_lists.specs.Nums.{AreNums}
use Rattle.packed_lists.specs.Decoded.{ArePlaced, values_at}
use Rattle.column_block.specs.HeldParts.{IsPartsColumn, AreListsFound, first_parts, rows_held}
use Rattle.column_block.specs.Presence.{presence, present, flags_of, flags_in, ones, spread, AreCounts}
use Rattle.row_cells.specs.Each.{Each}
use Rattle.column_block.specs.Rules.{AreParts}
use Rattle.column_block.specs.Spelling.{Spells, six_lists}
use Rattle.column_block.proofs.Aheads.{flags-known, flags-spread, found-behind, present-spread, presence-size}
use Rattle.packed_lists.specs.Laws.Spelled.{same-each}
use Rattle.packed_lists.specs.Laws.Fronts.{drop-front}
use Rattle.column_block.proofs.Presences.{flags-are, spread-present, length-present, length-flags, no-ones}
use Rattle.packed_lists.specs.Laws.Listed.{lists-are}
use Rattle.column_block.proofs.SixLists.{first-again, six-alike, six-tell}

-- the rows of a column, by what it keeps
pub parts-are : (rows : ℕ) (bytes : List ℕ) (places : List (List ℕ)) (counts : List ℕ) (vs : List (Option Parts)) → IsPartsColumn rows bytes places counts vs → rows_held rows bytes places ≡ vs
parts-are rows bytes places counts vs h =
    let f : flags_in rows bytes ≡ flags_of vs = flags-known rows bytes vs (six_lists (present vs)) h.length_is h.spelled in
    let n : ones (flags_in rows bytes) ≡ length (present vs) = ap ones f ∙ sym (length-present vs) in
    ap (λ z. spread z (first_parts (ones (flags_in rows bytes)) (map (values_at bytes) places))) f
    ∙ ap (λ z. spread (flags_of vs) (first_parts z (map (values_at bytes) places))) n
    ∙ ap (λ z. spread (flags_of vs) (first_parts (length (present vs)) z)) (lists-are bytes places (six_lists (present vs)) h.placed)
    ∙ ap (spread (flags_of vs)) (first-again (present vs)) ∙ spread-present vs

-- ---- building, by what each step says

pub parts-built : (vs : List (Option Parts)) (old mid now again : List ℕ) (places : List (List ℕ)) (counts : List ℕ) (parts lent : List Parts) → Each AreParts (present vs) → length vs < 2 ^ 32 → old ≡ [] → mid ≡ old ++ presence (flags_of vs)
    → parts ≡ present vs → lent ≡ parts → ((rest : List ℕ) × AreNums (six_lists lent) rest × (now ≡ mid ++ rest)) → ArePlaced now places (six_lists lent) → again ≡ now → AreCounts (length vs) again counts
    → IsPartsColumn (length vs) now places counts vs
parts-built vs old mid now again places counts parts lent rules few a b d e (nums, h, f) p g k =
    let same : lent ≡ present vs = e ∙ d in
    record {
      length_is = refl;
      few = few;
      rules = rules;
      spelled = (nums, subst (λ z. AreNums (six_lists z) nums) same h, f ∙ ap (λ z. z ++ nums) (b ∙ ap (λ z. z ++ presence (flags_of vs)) a));
      placed = subst (λ z. ArePlaced now places (six_lists z)) same p;
      counted = subst (λ z. AreCounts (length vs) z counts) g k;
    }

-- ---- reading

pub parts-held : (rows size end count : ℕ) (bytes mine lent : List ℕ) (places : List (List ℕ)) (counts : List ℕ) → rows < 2 ^ 32 → ((rest : List ℕ) × (bytes ≡ presence (flags_in rows bytes) ++ rest)) → size ≡ div_ceil rows 8
    → ((ps : List Parts) × AreListsFound bytes size end places count (six_lists ps) × (length ps ≡ count)) → ones (flags_in rows bytes) ≡ ones (flags_in 0 bytes) + count
    → ((ps : List Parts) → ArePlaced (take end bytes) places (six_lists ps) → Each AreParts ps) → mine ≡ take end bytes → lent ≡ mine → AreCounts rows lent counts
    → (vs : List (Option Parts)) × IsPartsColumn rows mine places counts vs
parts-held rows size end count bytes mine lent places counts few (rest, e) s (ps, h, n) total kept m l k =
    let fs = flags_in rows bytes in
    let vs = spread fs ps in
    let many : length ps ≡ ones fs = omega (arith, n, total, no-ones bytes) in
    let f : flags_of vs ≡ fs = flags-spread fs ps many in
    let p : present vs ≡ ps = present-spread fs ps many in
    let is : IsPartsColumn rows (take end bytes) places counts vs = record {
      length_is = sym (length-map vs is_some) ∙ ap (λ (z : List _). length z) f ∙ length-flags rows bytes;
      few = few;
      rules = subst (Each AreParts) (sym p) (kept ps h.placed);
      spelled = (
        h.nums,
        subst (λ z. AreNums (six_lists z) h.nums) (sym p) h.spelled,
        found-behind bytes (presence fs) h.nums rest size end e (s ∙ presence-size rows bytes) h.behind h.within ∙ ap (λ z. presence z ++ h.nums) (sym f),
      );
      placed = subst (λ z. ArePlaced (take end bytes) places (six_lists z)) (sym p) h.placed;
      counted = subst (λ z. AreCounts rows z counts) (l ∙ m) k;
    } in
    (vs, subst (λ z. IsPartsColumn rows z places counts vs) (sym m) is)

-- bytes that begin with a column have its lists behind its bits
pub begins-parts : (rows size : ℕ) (vs : List (Option Parts)) (bytes spelling rest : List ℕ) → length vs ≡ rows → size ≡ div_ceil rows 8 → Spells (PartsOf vs) spelling → bytes ≡ spelling ++ rest
    → (nums more : List ℕ) × (length (present vs) ≡ ones (flags_in rows bytes)) × AreNums (six_lists (present vs)) nums × (drop size bytes ≡ nums ++ more)
begins-parts rows size vs bytes spelling rest n s (nums, h, e) f =
    let whole : bytes ≡ presence (flags_of vs) ++ (nums ++ rest) = f ∙ ap (λ z. z ++ rest) e ∙ append_assoc (presence (flags_of vs)) nums rest in
    let fs : flags_in rows bytes ≡ flags_of vs = ap (λ z. flags_in z bytes) (sym (length-map vs is_some ∙ n)) ∙ flags-are (flags_of vs) bytes (nums ++ rest) whole in
    (nums, rest, length-present vs ∙ ap ones (sym fs), h, drop-front bytes (presence (flags_of vs)) (nums ++ rest) size whole (s ∙ presence-size rows bytes ∙ ap (λ z. length (presence z)) fs))

-- what was found is what the bytes begin with
pub found-parts : (bytes : List ℕ) (size end count : ℕ) (places : List (List ℕ)) (ps qs : List Parts) (nums more : List ℕ) → AreListsFound bytes size end places count (six_lists ps) → length ps ≡ length qs → AreNums (six_lists qs) nums → drop size bytes ≡ nums ++ more → ps ≡ qs
found-parts bytes size end count places ps qs nums more h n k e =
    six-tell ps qs (same-each (six_lists ps) (six_lists qs) h.nums nums (drop end bytes) more (six-alike ps qs n) h.spelled k (sym h.behind ∙ e)).0

-- what was looked at by places that were lent
pub kept-lent : (bytes : List ℕ) (places lent : List (List ℕ)) → lent ≡ places → ((ps : List Parts) → ArePlaced bytes lent (six_lists ps) → Each AreParts ps) → (ps : List Parts) → ArePlaced bytes places (six_lists ps) → Each AreParts ps
kept-lent bytes places lent e kept ps h = kept ps (subst (λ z. ArePlaced bytes z (six_lists ps)) (sym e) h)

-- parts that a column may hold are not refused
pub kept-refused : (bytes : List ℕ) (places lent : List (List ℕ)) (ps qs : List Parts) (b : Bool) → lent ≡ places → ArePlaced bytes places (six_lists ps) → ps ≡ qs → Each AreParts qs
    → ((rs : List Parts) → ArePlaced bytes lent (six_lists rs) → Each AreParts rs → b ≡ true) → b ≡ false → ⊥
kept-refused bytes places lent ps qs b e h same rules accepts refused =
    both (accepts ps (subst (λ z. ArePlaced bytes z (six_lists ps)) (sym e) h) (subst (Each AreParts) (sym same) rules)) refused
  where
    both : b ≡ true → b ≡ false → ⊥
    both t f = cc
