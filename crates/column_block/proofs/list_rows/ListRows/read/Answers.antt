use Rattle.std.proofs.Common.{◌≡◌, ◌∙◌, ap, sym, subst, refl, length, take, ◌++◌, [], ◌∷◌, ℕ, ℤ, pos, List, Err}
use Rattle.std.proofs.lemmas.List.{length-map}
use Rattle.packed_lists.specs.Lists.{joined}
use Rattle.column_block.specs.Cutting.{IsShort, total}
use Rattle.packed_lists.specs.Nums.{AreNums}
use Rattle.row_cells.specs.Each.{Each}
use Rattle.column_block.specs.Spelling.{lengths}
use Rattle.column_block.proofs.Cuts.{lengths-sizes, total-lengths}
use Rattle.packed_lists.specs.Laws.Founds.{found-one}
use Rattle.packed_lists.specs.Laws.Fronts.{err-same}
use Rattle.column_block.proofs.Rowed.{lists-are, read-rows, begins-sizes}
use Rattle.column_block.proofs.list_rows.ListRows.read.Goals as goal

pub returns-in-Err-clause-bad : goal.returns-in-Err-clause-bad
returns-in-Err-clause-bad c = λ same lists nums rest n short h e.
    let (front, behind, k, f, g) = begins-sizes c.args.bytes.now nums rest c.args.front lists h e in
    c.in-Err.ensures.bad (ap Err (err-same c.in-Err.error _ same)) (lengths lists) front (behind ++ rest) (length-map lists (λ xs. pos (length xs)) ∙ n) (lengths-sizes lists short) k f

pub returns-in_default-found-clause-bad : goal.returns-in_default-found-clause-bad
returns-in_default-found-clause-bad c = λ same lists nums rest n short h e.
    let (front, behind, k, f, g) = begins-sizes c.args.bytes.now nums rest c.args.front lists h e in
    let one = found-one c.args.bytes.now c.args.front c.in-Ok.first.end c.in-Ok.first.places.items c.in-Ok.first.sizes.items (lengths lists) front (behind ++ rest) c.in-Ok.ensures.found (length-map lists (λ xs. pos (length xs)) ∙ n ∙ sym c.in-Ok.ensures.rows) k f in
    c.in-Ok-find_numbers.ensures.none (rw c.in_default-found.is refl) (joined lists) behind rest (sym (total-lengths lists) ∙ ap total one.0 ∙ sym (c.sum_of-count.ensures.sum ∙ ap total c.as_slice.ensures.value)) g one.1

pub invariant_of-rows : goal.invariant_of-rows
invariant_of-rows c =
    let (lists, h, s) = read-rows c.args.bytes.now c.in-Ok-from_slice.own.items c.in-Ok.first.places.items c.in-Some.second.places.items c.in-Ok-starts_of.starts.items c.args.front c.in-Ok.first.end c.in-Some.second.end c.args.rows c.sum_of-count.result
    c.in-Ok.first.sizes.items c.as_slice.result.now c.as_slice-2.result.now c.requires.front c.requires.few c.in-Ok.ensures.sizes c.in-Ok.ensures.rows c.in-Ok.ensures.found c.sum_of-count.ensures.sum c.as_slice.ensures.value
    (rw c.in-Some.is at c.in-Ok-find_numbers.ensures.some) c.in-Ok-from_slice.ensures.items c.in-Ok-starts_of.ensures c.as_slice-2.ensures.value in
    rw (lists-are _ _ _ _ _ _ lists h) h

pub returns-clause-rows : goal.returns-clause-rows
returns-clause-rows c =
    let (lists, h, s) = read-rows c.args.bytes.now c.in-Ok-from_slice.own.items c.in-Ok.first.places.items c.in-Some.second.places.items c.in-Ok-starts_of.starts.items c.args.front c.in-Ok.first.end c.in-Some.second.end c.args.rows c.sum_of-count.result
    c.in-Ok.first.sizes.items c.as_slice.result.now c.as_slice-2.result.now c.requires.front c.requires.few c.in-Ok.ensures.sizes c.in-Ok.ensures.rows c.in-Ok.ensures.found c.sum_of-count.ensures.sum c.as_slice.ensures.value
    (rw c.in-Some.is at c.in-Ok-find_numbers.ensures.some) c.in-Ok-from_slice.ensures.items c.in-Ok-starts_of.ensures c.as_slice-2.ensures.value in
    ap (λ (z : List (List ℤ)). length z) (lists-are _ _ _ _ _ _ lists h) ∙ h.length_is

pub returns-clause-short : goal.returns-clause-short
returns-clause-short c =
    let (lists, h, s) = read-rows c.args.bytes.now c.in-Ok-from_slice.own.items c.in-Ok.first.places.items c.in-Some.second.places.items c.in-Ok-starts_of.starts.items c.args.front c.in-Ok.first.end c.in-Some.second.end c.args.rows c.sum_of-count.result
    c.in-Ok.first.sizes.items c.as_slice.result.now c.as_slice-2.result.now c.requires.front c.requires.few c.in-Ok.ensures.sizes c.in-Ok.ensures.rows c.in-Ok.ensures.found c.sum_of-count.ensures.sum c.as_slice.ensures.value
    (rw c.in-Some.is at c.in-Ok-find_numbers.ensures.some) c.in-Ok-from_slice.ensures.items c.in-Ok-starts_of.ensures c.as_slice-2.ensures.value in
    subst (λ z. Each IsShort z) (sym (lists-are _ _ _ _ _ _ lists h)) h.short

pub returns-clause-spelled : goal.returns-clause-spelled
returns-clause-spelled c =
    let (lists, h, s) = read-rows c.args.bytes.now c.in-Ok-from_slice.own.items c.in-Ok.first.places.items c.in-Some.second.places.items c.in-Ok-starts_of.starts.items c.args.front c.in-Ok.first.end c.in-Some.second.end c.args.rows c.sum_of-count.result
    c.in-Ok.first.sizes.items c.as_slice.result.now c.as_slice-2.result.now c.requires.front c.requires.few c.in-Ok.ensures.sizes c.in-Ok.ensures.rows c.in-Ok.ensures.found c.sum_of-count.ensures.sum c.as_slice.ensures.value
    (rw c.in-Some.is at c.in-Ok-find_numbers.ensures.some) c.in-Ok-from_slice.ensures.items c.in-Ok-starts_of.ensures c.as_slice-2.ensures.value in
    subst (λ z. (nums : List ℕ) × AreNums (lengths z ∷ joined z ∷ []) nums × (take c.in-Some.second.end c.args.bytes.now ≡ take c.args.front c.args.bytes.now ++ nums)) (sym (lists-are _ _ _ _ _ _ lists h)) s
