-- Columns of lists of whole numbers.
use Rattle.std.proofs.Common.{◌≡◌, ℕ, ℤ, ◌-◌, List, [], ◌∷◌, ◌++◌, length, take, drop, sym, ◌∙◌, ap, subst, arith}
use Rattle.std.specs.Prelude.{slice_range}
use Rattle.std.proofs.lemmas.List.{take_all, take-append-drop}
use Rattle.packed_lists.specs.Lists.{joined}
use Rattle.column_block.specs.declared.kinds.Values.TheVariants.{Wholes}
use Rattle.column_block.specs.Cutting.{IsShort}
use Rattle.packed_lists.specs.Nums.{AreNums}
use Rattle.row_cells.specs.Each.{Each}
use Rattle.column_block.specs.Rules.{Ascend, IsNumberRow}
use Rattle.column_block.specs.Spelling.{Spells, lengths}
use Rattle.column_block.proofs.OneColumn.{same-wholes}

pub all-rows : {A : Type 0} (xs : List A) (n : ℕ) → length xs ≡ n → slice_range xs 0 n ≡ xs
all-rows xs n e = let z : n - 0 ≡ length xs = omega arith in ap (λ k. take k xs) z ∙ take_all (length xs) xs (omega arith)

pub rows-keep : (lists : List (List ℤ)) → Each IsShort lists → Each Ascend lists → Each IsNumberRow lists
rows-keep [] h k = tt
rows-keep (x ∷ lists) h k = (record { few = h.0; ascend = k.0 }, rows-keep lists h.1 k.1)

pub rows-ascend : (lists : List (List ℤ)) → Each IsNumberRow lists → Each Ascend lists
rows-ascend [] h = tt
rows-ascend (x ∷ lists) h = (h.0.ascend, rows-ascend lists h.1)

pub spelled-rows : (lists own : List (List ℤ)) (front bytes : List ℕ) → ((nums : List ℕ) × AreNums (lengths own ∷ joined own ∷ []) nums × (bytes ≡ front ++ nums)) → front ≡ [] → own ≡ lists → Spells (Wholes lists) bytes
spelled-rows lists own front bytes (nums, h, e) none same =
    subst (λ z. Spells (Wholes z) bytes) same (subst (λ z. AreNums (lengths own ∷ joined own ∷ []) z) (sym (e ∙ ap (λ z. z ++ nums) none)) h)

-- lists that were read are those that the bytes begin with
pub read-same : (own lists : List (List ℤ)) (bytes spelling rest : List ℕ) (used rows : ℕ) → length own ≡ rows → length lists ≡ rows → ((nums : List ℕ) × AreNums (lengths own ∷ joined own ∷ []) nums × (take used bytes ≡ take 0 bytes ++ nums))
    → Spells (Wholes lists) spelling → bytes ≡ spelling ++ rest → own ≡ lists
read-same own lists bytes spelling rest used rows n m (nums, h, e) k f =
    (same-wholes own lists nums spelling (drop used bytes) rest (n ∙ sym m) h k (ap (λ z. z ++ drop used bytes) (sym e) ∙ take-append-drop used bytes ∙ f)).0
