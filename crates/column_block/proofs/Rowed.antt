-- Lists behind other bytes.
use Rattle.std.proofs.Common.{◌≡◌, ℕ, ℤ, ◌+◌, ◌-◌, ◌<◌, ◌≤◌, ◌^◌, List, [], ◌∷◌, ◌++◌, length, take, drop, refl, sym, ◌∙◌, ap, subst, arith}
use Rattle.std.specs.List.{All}
use Rattle.std.proofs.lemmas.List.{length-append, length-drop, length-take-le, append-nil, append_assoc, take-append-drop}
use Rattle.std.proofs.Math.Seq.{take-add}
use Rattle.packed_lists.specs.Nums.{IsNums, AreNums}
use Rattle.packed_lists.specs.Decoded.{AreBlocksAt, values_at}
use Rattle.packed_lists.specs.Found.{IsFound}
use Rattle.packed_lists.specs.Lists.{joined}
use Rattle.column_block.specs.Cutting.{cut, total, IsSize, IsShort, AreStarts, AreRows, lists_at}
use Rattle.row_cells.specs.Each.{Each}
use Rattle.column_block.specs.Spelling.{lengths}
use Rattle.packed_lists.specs.Laws.Decodes.{values_at-is}
use Rattle.packed_lists.specs.Laws.Fronts.{take-front, drop-front}
use Rattle.packed_lists.specs.Laws.Placing.{blocks-before}
use Rattle.column_block.proofs.Cuts.{cut-joined, lengths-cut, joined-cut, length-cut, short-cut}

-- lists by what is kept of them
pub lists-are : (front rows : ℕ) (bytes sizes numbers starts : List ℕ) (lists : List (List ℤ)) → AreRows front rows bytes sizes numbers starts lists → lists_at bytes sizes numbers ≡ lists
unfolding lists_at
lists-are front rows bytes sizes numbers starts lists h =
    ap (λ z. cut z (values_at bytes numbers)) (values_at-is bytes sizes (lengths lists) h.sized) ∙ ap (cut (lengths lists)) (values_at-is bytes numbers (joined lists) h.placed) ∙ cut-joined lists

two-lists : (vs ws : List ℤ) (a b : List ℕ) → IsNums vs a → IsNums ws b → AreNums (vs ∷ ws ∷ []) (a ++ b)
two-lists vs ws a b h k = (a, b, h, (b, [], k, refl, sym (append-nil b)), refl)

-- lists that were put behind other bytes
pub built-rows : (front mid now sizes numbers starts : List ℕ) (before : ℕ) (lists : List (List ℤ)) (lens lent all shown again : List ℤ) → length lists < 2 ^ 32 → Each IsShort lists → before ≡ length front
    → lens ≡ lengths lists → lent ≡ lens → all ≡ joined lists → shown ≡ all → again ≡ lens
    → ((nums : List ℕ) × IsNums lent nums × (mid ≡ front ++ nums)) → AreBlocksAt mid sizes lent → ((nums : List ℕ) × IsNums shown nums × (now ≡ mid ++ nums)) → AreBlocksAt now numbers shown → AreStarts again starts
    → AreRows before (length lists) now sizes numbers starts lists
built-rows front mid now sizes numbers starts before lists lens lent all shown again few short b l e a f g (n1, h1, e1) p1 (n2, h2, e2) p2 s =
    let s1 : lent ≡ lengths lists = e ∙ l in
    let s2 : shown ≡ joined lists = f ∙ a in
    let whole : now ≡ front ++ (n1 ++ n2) = e2 ∙ ap (λ z. z ++ n2) e1 ∙ append_assoc front n1 n2 in
    record {
      length_is = refl;
      few = few;
      short = short;
      inside = omega (arith, ap (λ (z : List ℕ). length z) whole, length-append front (n1 ++ n2));
      spelled = subst (λ z. AreNums (lengths lists ∷ joined lists ∷ []) z) (sym (drop-front now front (n1 ++ n2) before whole b)) (two-lists (lengths lists) (joined lists) n1 n2 (subst (λ z. IsNums z n1) s1 h1) (subst (λ z. IsNums z n2) s2 h2));
      sized = subst (λ z. AreBlocksAt now sizes z) s1 (subst (λ z. AreBlocksAt z sizes lent) (sym e2) (blocks-before mid n2 sizes lent p1));
      placed = subst (λ z. AreBlocksAt now numbers z) s2 p2;
      started = subst (λ z. AreStarts z starts) (g ∙ l) s;
    }

-- two lists that were found one behind the other
pub found-both : (bytes : List ℕ) (from mid end : ℕ) (sizes numbers : List ℕ) (vs ws : List ℤ) → from ≤ length bytes → (h : IsFound bytes from mid sizes vs) → (k : IsFound bytes mid end numbers ws) → take end bytes ≡ take from bytes ++ (h.nums ++ k.nums)
found-both bytes from mid end sizes numbers vs ws inside h k =
    let front = take from bytes ++ (h.nums ++ k.nums) in
    let whole : bytes ≡ front ++ drop end bytes =
    sym (take-append-drop from bytes) ∙ ap (λ z. take from bytes ++ z) (h.behind ∙ ap (λ z. h.nums ++ z) k.behind ∙ sym (append_assoc h.nums k.nums (drop end bytes))) ∙ sym (append_assoc (take from bytes) (h.nums ++ k.nums) (drop end bytes)) in
    let n : end ≡ length front = omega (arith, ap (λ (z : List ℕ). length z) whole, length-append front (drop end bytes), length-drop end bytes, k.within) in
    take-front bytes front (drop end bytes) end whole n

pub read-rows : (bytes mine sizes numbers starts : List ℕ) (from mid end rows count : ℕ) (lens lent again : List ℤ) → from ≤ length bytes → rows < 2 ^ 32 → All IsSize lens → length lens ≡ rows
    → IsFound bytes from mid sizes lens → count ≡ total lent → lent ≡ lens → ((ws : List ℤ) × IsFound bytes mid end numbers ws × (length ws ≡ count)) → mine ≡ take end bytes → AreStarts again starts → again ≡ lens
    → (lists : List (List ℤ)) × AreRows from rows mine sizes numbers starts lists × ((nums : List ℕ) × AreNums (lengths lists ∷ joined lists ∷ []) nums × (take end bytes ≡ take from bytes ++ nums))
read-rows bytes mine sizes numbers starts from mid end rows count lens lent again inside few all n h c l (ws, k, m) e s g =
    let lists = cut lens ws in
    let many : total lens ≡ length ws = omega (arith, c, ap total l, m) in
    let a : lengths lists ≡ lens = lengths-cut lens ws all (omega (arith, many)) in
    let b : joined lists ≡ ws = joined-cut lens ws many in
    let nums = h.nums ++ k.nums in
    let both : take end bytes ≡ take from bytes ++ nums = found-both bytes from mid end sizes numbers lens ws inside h k in
    let spelled : AreNums (lengths lists ∷ joined lists ∷ []) nums = subst (λ z. AreNums (z ∷ joined lists ∷ []) nums) (sym a) (subst (λ z. AreNums (lens ∷ z ∷ []) nums) (sym b) (two-lists lens ws h.nums k.nums h.spelled k.spelled)) in
    let f : from ≡ length (take from bytes) = sym (length-take-le from bytes inside) in
    let span : mid + (end - mid) ≡ end = omega (arith, k.order) in
    let front : take end bytes ≡ take mid bytes ++ take (end - mid) (drop mid bytes) = ap (λ z. take z bytes) (sym span) ∙ take-add mid (end - mid) bytes in
    let own : AreRows from rows (take end bytes) sizes numbers starts lists = record {
      length_is = length-cut lens ws ∙ n;
      few = few;
      short = short-cut lens ws all;
      inside = omega (arith, ap (λ (z : List ℕ). length z) both, length-append (take from bytes) nums, f);
      spelled = subst (λ z. AreNums (lengths lists ∷ joined lists ∷ []) z) (sym (drop-front (take end bytes) (take from bytes) nums from both f)) spelled;
      sized = subst (λ z. AreBlocksAt (take end bytes) sizes z) (sym a) (subst (λ z. AreBlocksAt z sizes lens) (sym front) (blocks-before (take mid bytes) (take (end - mid) (drop mid bytes)) sizes lens h.placed));
      placed = subst (λ z. AreBlocksAt (take end bytes) numbers z) (sym b) k.placed;
      started = subst (λ z. AreStarts z starts) (g ∙ sym a) s;
    } in
    (lists, subst (λ z. AreRows from rows z sizes numbers starts lists) (sym e) own, (nums, spelled, both))

-- bytes where lists stand have the lengths first, and then all numbers
pub begins-sizes : (bytes nums rest : List ℕ) (from : ℕ) (lists : List (List ℤ)) → AreNums (lengths lists ∷ joined lists ∷ []) nums → drop from bytes ≡ nums ++ rest
    → (front behind : List ℕ) × IsNums (lengths lists) front × (drop from bytes ≡ front ++ (behind ++ rest)) × IsNums (joined lists) behind
begins-sizes bytes nums rest from lists (n1, r1, h1, (n2, r2, h2, e2, f2), f1) e =
    let b : r1 ≡ n2 = f2 ∙ ap (λ z. n2 ++ z) e2 ∙ append-nil n2 in
    (n1, n2, h1, e ∙ ap (λ z. z ++ rest) f1 ∙ append_assoc n1 r1 rest ∙ ap (λ z. n1 ++ (z ++ rest)) b, h2)
