-- Lists of blocks are what the fields of the blocks say.
use Rattle.std.proofs.Common.{◌≡◌, ℕ, ℤ, List, [], ◌∷◌, ◌++◌, length, take, drop, sym, ◌∙◌, ap}
use Rattle.std.proofs.lemmas.List.{take-append-drop}
use Rattle.std.proofs.Math.Seq.{drop-append_seam}
use Rattle.column_pack.specs.BlockLaws.{front_is, values_are}
use Rattle.column_pack.specs.Decoded.{front_block, block_in, values_of}
use Rattle.packed_lists.specs.Decoded.{values_at, IsBlockAt, AreBlocksAt}

pub block-at-is : (bytes : List ℕ) (at : ℕ) (vs : List ℤ) → IsBlockAt bytes at vs → values_of (block_in (front_block (drop at bytes))) ≡ vs
block-at-is bytes at vs (ahead, block, rest, h, e, n) =
    let d : drop at bytes ≡ block ++ rest = ap (λ z. drop z bytes) (sym n) ∙ ap (drop (length ahead)) e ∙ drop-append_seam ahead (block ++ rest) in
    ap (λ z. values_of (block_in z)) (ap front_block d ∙ front_is vs block rest h) ∙ values_are vs block h

-- blocks at their places tell their values
pub values_at-is : (bytes places : List ℕ) (vs : List ℤ) → AreBlocksAt bytes places vs → values_at bytes places ≡ vs
unfolding values_at
values_at-is bytes [] vs h = sym h
values_at-is bytes (at ∷ places) vs h =
    ap (λ z. z ++ values_at bytes places) (block-at-is bytes at (take 128 vs) h.0)
    ∙ ap (λ z. take 128 vs ++ z) (values_at-is bytes places (drop 128 vs) h.1)
    ∙ take-append-drop 128 vs
