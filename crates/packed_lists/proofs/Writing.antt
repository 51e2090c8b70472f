-- A list while it is written: whole blocks, and what is not packed yet.
use Rattle.std.proofs.Common.{◌≡◌, ℕ, ℤ, ◌-◌, set, ◌+◌, ◌*◌, ◌≤◌, List, [], ◌∷◌, ◌++◌, length, take, drop, refl, sym, ◌∙◌, ap, subst, arith}
use Rattle.std.specs.List.{concat}
use Rattle.std.proofs.lemmas.List.{append-nil, length-append, length-set, take_all, drop_all, take_more_set, take_rest, length-drop}
use Rattle.std.proofs.Math.Seq.{take-add}
use borrow.Rule.Slice.PartMut.{put_mid, post_of}
use Rattle.std.proofs.lemmas.List.Folds.{concat-append}
use Rattle.column_pack.specs.Block.{IsBlock}
use Rattle.packed_lists.specs.Nums.{AreBlocksOf}
use Rattle.packed_lists.specs.Decoded.{AreBlocksAt, values_at}
use Rattle.packed_lists.specs.Packing.{IsPacking, IsPacked}
use Rattle.packed_lists.specs.Laws.Decodes.{values_at-is}
use Rattle.packed_lists.specs.Laws.Placing.{blocks-push, blocks-before, places-push, put-at}

pub none-packed : (bytes places : List ℕ) → bytes ≡ [] → places ≡ [] → IsPacking bytes places 0 [] × (values_at bytes places ≡ [])
none-packed bytes places e f =
    let placed : AreBlocksAt bytes places [] = subst (λ z. AreBlocksAt bytes z []) (sym f) refl in
    (record { whole = omega (arith, ap (λ (z : List ℕ). length z) f); blocks = []; as_many = sym (ap (λ (z : List ℕ). length z) f); packed = refl; same = e; placed = placed; few = omega arith }, values_at-is bytes places [] placed)

-- a block more, whole or the last one
pub record IsGrown (bytes places block : List ℕ) (done ws : List ℤ) : Type 0 where
  pub placed : AreBlocksAt (bytes ++ block) (places ++ length bytes ∷ []) (done ++ ws)
  pub blocks : List (List ℕ)
  pub as_many : length blocks ≡ length (places ++ length bytes ∷ [])
  pub packed : AreBlocksOf blocks (done ++ ws)
  pub same : bytes ++ block ≡ concat blocks
  pub long : length (places ++ length bytes ∷ []) ≡ length places + 1

pub grow : (bytes places : List ℕ) (filled : ℕ) (done ws : List ℤ) (block : List ℕ) → IsPacking bytes places filled done → IsBlock ws block → length ws ≤ 128 → IsGrown bytes places block done ws
grow bytes places filled done ws block h k few =
    let more : length (places ++ length bytes ∷ []) ≡ length places + 1 = length-append places (length bytes ∷ []) in
    record {
      placed = places-push (bytes ++ block) places done ws (length bytes) (blocks-before bytes block places done h.placed) h.whole (put-at bytes block ws k) few;
      blocks = h.blocks ++ block ∷ [];
      as_many = length-append h.blocks (block ∷ []) ∙ omega (arith, h.as_many, more);
      packed = blocks-push h.blocks done ws block h.packed (omega (arith, h.whole, h.as_many)) k few;
      same = ap (λ z. z ++ block) h.same ∙ ap (λ z. concat h.blocks ++ z) (sym (append-nil block)) ∙ sym (concat-append h.blocks (block ∷ []));
      long = more;
    }

-- the whole block that was put
pub whole-put : (bytes places now more : List ℕ) (filled : ℕ) (ws : List ℤ) (block : List ℕ) → IsPacking bytes places filled (values_at bytes places) → IsBlock ws block → length ws ≡ 128
    → now ≡ bytes ++ block → more ≡ places ++ length bytes ∷ [] → IsPacking now more 0 (values_at now more) × (values_at now more ≡ values_at bytes places ++ ws)
whole-put bytes places now more filled ws block h k n e f =
    let done = values_at bytes places in
    let g = grow bytes places filled done ws block h k (omega (arith, n)) in
    let is : values_at (bytes ++ block) (places ++ length bytes ∷ []) ≡ done ++ ws = values_at-is (bytes ++ block) (places ++ length bytes ∷ []) (done ++ ws) g.placed in
    rw (e, f) (rw is (record { whole = length-append done ws ∙ omega (arith, n, h.whole, g.long); blocks = g.blocks; as_many = g.as_many; packed = g.packed; same = g.same; placed = g.placed; few = omega arith }, refl))

-- the list, where nothing is left, and where a last block was put
pub packed-whole : (bytes places : List ℕ) (filled len : ℕ) (done : List ℤ) → IsPacking bytes places filled done → len ≡ 128 * length places → IsPacked bytes places len done
packed-whole bytes places filled len done h e = record { spelled = (h.blocks, h.packed, h.same); placed = h.placed; count = omega (arith, h.whole) }

pub packed-last : (bytes places now more : List ℕ) (filled len : ℕ) (done ws : List ℤ) (block : List ℕ) → IsPacking bytes places filled done → IsBlock ws block → length ws ≡ filled
    → now ≡ bytes ++ block → more ≡ places ++ length bytes ∷ [] → len ≡ 128 * length places + filled → IsPacked now more len (done ++ ws)
packed-last bytes places now more filled len done ws block h k n e f l =
    let g = grow bytes places filled done ws block h k (omega (arith, n, h.few)) in
    rw (e, f) (record { spelled = (g.blocks, g.packed, g.same); placed = g.placed; count = l ∙ omega (arith, h.whole, n) ∙ sym (length-append done ws) })

-- ---- the numbers of the buffer

pub last-set : (buffer : List ℤ) (filled : ℕ) (v : ℤ) → length buffer ≡ 128 → filled ≡ 127 → set buffer filled v ≡ take filled buffer ++ v ∷ []
last-set buffer filled v n e =
    let m : length (set buffer filled v) ≡ 128 = length-set buffer filled v ∙ n in
    sym (take_all (filled + 1) (set buffer filled v) (omega (arith, m, e))) ∙ take_more_set buffer filled v (omega (arith, n, e))

pub last-mid : (buffer ys : List ℤ) (filled k : ℕ) → length buffer ≡ 128 → filled + length ys ≡ 128 → k ≡ length ys → put_mid filled k buffer ys ≡ take filled buffer ++ ys
last-mid buffer ys filled k n e f =
    let post : post_of filled k buffer ≡ [] = drop_all k (drop filled buffer) (omega (arith, length-drop filled buffer)) in
    ap (λ z. take filled buffer ++ (ys ++ z)) post ∙ ap (λ z. take filled buffer ++ z) (append-nil ys)

pub front-more : {A : Type 0} (vs : List A) (done n : ℕ) → take done vs ++ take n (take (length vs - done) (drop done vs)) ≡ take (done + n) vs
front-more vs done n = ap (λ z. take done vs ++ take n z) (take_rest vs done) ∙ sym (take-add done n vs)
