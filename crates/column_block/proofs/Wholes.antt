-- Columns of whole numbers.
use Rattle.std.proofs.Common.{◌≡◌, ℕ, ℤ, ◌+◌, ◌<◌, ◌≤◌, ◌^◌, List, [], ◌∷◌, ◌++◌, length, take, drop, refl, sym, ◌∙◌, ap, subst, arith}
use Rattle.std.specs.Prelude.{Option, slice_range}
use Rattle.std.specs.Int.{div_ceil}
use Rattle.std.specs.Option.{is_some}
use Rattle.std.proofs.lemmas.List.{length-map, append-nil, append_assoc}
use Rattle.column_block.specs.declared.kinds.Values.TheVariants.{Whole}
use Rattle.packed_lists.specs.Nums.{IsNums, AreNums}
use Rattle.packed_lists.specs.Decoded.{AreBlocksAt, values_at}
use Rattle.column_block.specs.Presence.{presence, present, flags_of, flags_in, ones, spread, AreCounts}
use Rattle.column_block.specs.Spelling.{Spells}
use Rattle.packed_lists.specs.Found.{IsFound}
use Rattle.column_block.specs.Held.{IsWhole}
use Rattle.packed_lists.specs.Laws.Decodes.{values_at-is}
use Rattle.packed_lists.specs.Laws.Fronts.{drop-front}
use Rattle.column_block.proofs.Presences.{flags-are, spread-present, length-present, length-flags, no-ones}
use Rattle.column_block.proofs.Aheads.{flags-known, flags-spread, present-spread, found-behind, presence-size, range-values, range-flags}

-- the values of a column, by what it keeps
pub whole-is : (rows : ℕ) (bytes places counts : List ℕ) (vs : List (Option ℤ)) → IsWhole rows bytes places counts vs → spread (flags_in rows bytes) (values_at bytes places) ≡ vs
whole-is rows bytes places counts vs h =
    ap (λ z. spread z (values_at bytes places)) (flags-known rows bytes vs (present vs ∷ []) h.length_is h.spelled) ∙ ap (spread (flags_of vs)) (values_at-is bytes places (present vs) h.placed) ∙ spread-present vs

-- a list by itself
pub one-list-each : (vs : List ℤ) (nums : List ℕ) → IsNums vs nums → AreNums (vs ∷ []) nums
one-list-each vs nums h = (nums, [], h, refl, sym (append-nil nums))

pub built : (bytes places counts nums : List ℕ) (vs : List (Option ℤ)) → length vs < 2 ^ 32 → bytes ≡ presence (flags_of vs) ++ nums → IsNums (present vs) nums → AreBlocksAt bytes places (present vs) → AreCounts (length vs) bytes counts → IsWhole (length vs) bytes places counts vs
built bytes places counts nums vs few e h p k = record { length_is = refl; few = few; spelled = (nums, one-list-each (present vs) nums h, e); placed = p; counted = k }

-- what was read
pub read-whole : (rows size end : ℕ) (bytes places counts rest : List ℕ) (ns : List ℤ) → rows < 2 ^ 32 → bytes ≡ presence (flags_in rows bytes) ++ rest → size ≡ div_ceil rows 8 → IsFound bytes size end places ns → length ns ≡ ones (flags_in rows bytes)
    → AreCounts rows (take end bytes) counts → IsWhole rows (take end bytes) places counts (spread (flags_in rows bytes) ns)
read-whole rows size end bytes places counts rest ns few e s h n k =
    let fs = flags_in rows bytes in
    let vs = spread fs ns in
    let f : flags_of vs ≡ fs = flags-spread fs ns n in
    let p : present vs ≡ ns = present-spread fs ns n in
    record {
      length_is = sym (length-map vs is_some) ∙ ap (λ (z : List _). length z) f ∙ length-flags rows bytes;
      few = few;
      spelled = (h.nums, subst (λ z. AreNums (z ∷ []) h.nums) (sym p) (one-list-each ns h.nums h.spelled), found-behind bytes (presence fs) h.nums rest size end e (s ∙ presence-size rows bytes) h.behind h.within ∙ ap (λ z. presence z ++ h.nums) (sym f));
      placed = subst (λ z. AreBlocksAt (take end bytes) places z) (sym p) h.placed;
      counted = k;
    }

-- bytes that begin with a column have its numbers behind its bits
pub begins-numbers : (rows size : ℕ) (vs : List (Option ℤ)) (bytes spelling rest : List ℕ) → length vs ≡ rows → size ≡ div_ceil rows 8 → Spells (Whole vs) spelling → bytes ≡ spelling ++ rest
    → (ns : List ℤ) × (nums more : List ℕ) × (length ns ≡ ones (flags_in rows bytes)) × IsNums ns nums × (drop size bytes ≡ nums ++ more)
begins-numbers rows size vs bytes spelling rest n s (nums, (front, behind, h, g, d), e) f =
    let front-nums : nums ≡ front = d ∙ ap (λ z. front ++ z) g ∙ append-nil front in
    let whole : bytes ≡ presence (flags_of vs) ++ (front ++ rest) = f ∙ ap (λ z. z ++ rest) (e ∙ ap (λ z. presence (flags_of vs) ++ z) front-nums) ∙ append_assoc (presence (flags_of vs)) front rest in
    let fs : flags_in rows bytes ≡ flags_of vs = ap (λ z. flags_in z bytes) (sym (length-map vs is_some ∙ n)) ∙ flags-are (flags_of vs) bytes (front ++ rest) whole in
    (present vs, front, rest, length-present vs ∙ ap ones (sym fs), h, drop-front bytes (presence (flags_of vs)) (front ++ rest) size whole (s ∙ presence-size rows bytes ∙ ap (λ z. length (presence z)) fs))

-- the same by what each step of building says
pub built-from : (vs : List (Option ℤ)) (old mid now again places counts : List ℕ) (numbers lent : List ℤ) → length vs < 2 ^ 32 → old ≡ [] → mid ≡ old ++ presence (flags_of vs) → numbers ≡ present vs → lent ≡ numbers
    → ((nums : List ℕ) × IsNums lent nums × (now ≡ mid ++ nums)) → AreBlocksAt now places lent → again ≡ now → AreCounts (length vs) again counts → IsWhole (length vs) now places counts vs
built-from vs old mid now again places counts numbers lent few a b d e (nums, h, f) p g k =
    let same : lent ≡ present vs = e ∙ d in
    built now places counts nums vs few (f ∙ ap (λ z. z ++ nums) (b ∙ ap (λ z. z ++ presence (flags_of vs)) a)) (subst (λ z. IsNums z nums) same h) (subst (λ z. AreBlocksAt now places z) same p) (subst (λ z. AreCounts (length vs) z counts) g k)

-- the numbers of a range of rows, by what each step of reading says
pub numbers-are : {A : Type 0} (vs : List (Option A)) (from to first last : ℕ) (lent numbers old : List A) → from ≤ to → first ≡ length (present (take from vs)) → last ≡ length (present (take to vs))
    → lent ≡ numbers → numbers ≡ old ++ slice_range (present vs) first last → old ≡ [] → lent ≡ present (slice_range vs from to)
numbers-are vs from to first last lent numbers old order a b e f none =
    e ∙ f ∙ ap (λ z. z ++ slice_range (present vs) first last) none ∙ ap (λ z. slice_range (present vs) z last) a ∙ ap (slice_range (present vs) (length (present (take from vs)))) b ∙ range-values vs from to order

-- the rows of a range
pub rows-are : {A : Type 0} (rows from to : ℕ) (bytes lent : List ℕ) (vs : List (Option A)) (numbers : List A) → lent ≡ bytes → flags_in rows bytes ≡ flags_of vs → from ≤ to → to ≤ rows → numbers ≡ present (slice_range vs from to)
    → spread (drop from (flags_in to lent)) numbers ≡ slice_range vs from to
rows-are rows from to bytes lent vs numbers l f order within e =
    ap (λ z. spread (drop from (flags_in to z)) numbers) l ∙ ap (λ z. spread z numbers) (range-flags rows from to bytes vs f order within) ∙ ap (spread (flags_of (slice_range vs from to))) e ∙ spread-present (slice_range vs from to)

pub rows-count : {A : Type 0} (rows from to : ℕ) (bytes lent : List ℕ) (vs : List (Option A)) (numbers : List A) → lent ≡ bytes → flags_in rows bytes ≡ flags_of vs → from ≤ to → to ≤ rows → numbers ≡ present (slice_range vs from to)
    → length numbers ≡ ones (drop from (flags_in to lent))
rows-count rows from to bytes lent vs numbers l f order within e =
    ap (λ (z : List _). length z) e ∙ length-present (slice_range vs from to) ∙ ap ones (sym (range-flags rows from to bytes vs f order within)) ∙ ap (λ z. ones (drop from (flags_in to z))) (sym l)

-- what was read, by what each step of reading says
pub read-held : (rows size end count : ℕ) (bytes mine lent places counts : List ℕ) → rows < 2 ^ 32 → ((rest : List ℕ) × (bytes ≡ presence (flags_in rows bytes) ++ rest)) → size ≡ div_ceil rows 8
    → ((ns : List ℤ) × IsFound bytes size end places ns × (length ns ≡ count)) → ones (flags_in rows bytes) ≡ ones (flags_in 0 bytes) + count → mine ≡ take end bytes → lent ≡ mine → AreCounts rows lent counts
    → (vs : List (Option ℤ)) × IsWhole rows mine places counts vs
read-held rows size end count bytes mine lent places counts few (rest, e) s (ns, h, n) total m l k =
    let many : length ns ≡ ones (flags_in rows bytes) = omega (arith, n, total, no-ones bytes) in
    let counted : AreCounts rows (take end bytes) counts = subst (λ z. AreCounts rows z counts) (l ∙ m) k in
    (spread (flags_in rows bytes) ns, subst (λ z. IsWhole rows z places counts (spread (flags_in rows bytes) ns)) (sym m) (read-whole rows size end bytes places counts rest ns few e s h many counted))
