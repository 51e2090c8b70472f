-- What was found in bytes, by itself.
use Rattle.std.proofs.Common.{◌≡◌, ℕ, ℤ, ◌-◌, List, [], ◌++◌, length, take, drop, sym, ◌∙◌, ap, subst, arith}
use Rattle.std.specs.Prelude.{slice_range}
use Rattle.std.proofs.lemmas.List.{length-append, length-drop, take-append-drop, take_all}
use Rattle.std.proofs.Math.Seq.{take-append_seam}
use Rattle.packed_lists.specs.Nums.{IsNums}
use Rattle.packed_lists.specs.Decoded.{AreBlocksAt}
use Rattle.packed_lists.specs.Found.{IsFound}
use Rattle.packed_lists.specs.Laws.Fronts.{same-nums}
use Rattle.packed_lists.specs.Laws.Placing.{blocks-before}

-- bytes up to where a list ends that they begin with are that list's
pub found-nums : (bytes : List ℕ) (to : ℕ) (places : List ℕ) (vs : List ℤ) → IsFound bytes 0 to places vs → IsNums vs (take to bytes)
found-nums bytes to places vs h =
    let n : to ≡ length h.nums = omega (arith, ap (λ (z : List ℕ). length z) h.behind, length-append h.nums (drop to bytes), length-drop to bytes, h.within) in
    subst (λ z. IsNums vs z) (sym (ap (λ z. take z bytes) n ∙ ap (take (length h.nums)) h.behind ∙ take-append_seam h.nums (drop to bytes))) h.spelled

-- where blocks stand in the bytes before an end they stand in all
pub found-places : (bytes : List ℕ) (from to : ℕ) (places : List ℕ) (vs : List ℤ) → IsFound bytes from to places vs → AreBlocksAt bytes places vs
found-places bytes from to places vs h = subst (λ z. AreBlocksAt z places vs) (take-append-drop to bytes) (blocks-before (take to bytes) (drop to bytes) places vs h.placed)

pub whole-range : (ns now old : List ℤ) (rows : ℕ) → length ns ≡ rows → old ≡ [] → now ≡ old ++ slice_range ns 0 rows → now ≡ ns
whole-range ns now old rows n none e =
    let z : rows - 0 ≡ length ns = omega arith in
    e ∙ ap (λ z. z ++ slice_range ns 0 rows) none ∙ ap (λ k. take k ns) z ∙ take_all (length ns) ns (omega arith)

-- what was found is all that the bytes begin with
pub found-one : (bytes : List ℕ) (from to : ℕ) (places : List ℕ) (vs ws : List ℤ) (nums rest : List ℕ) → IsFound bytes from to places vs → length ws ≡ length vs → IsNums ws nums → drop from bytes ≡ nums ++ rest → (ws ≡ vs) × (drop to bytes ≡ rest)
found-one bytes from to places vs ws nums rest h n k e =
    let r = same-nums vs ws h.nums nums (drop to bytes) rest (sym n) h.spelled k (sym h.behind ∙ e) in
    (sym r.0, r.2)
