-- One block more, put behind others or found behind them.
use Rattle.std.proofs.Common.{◌≡◌, ℕ, ℤ, ◌+◌, ◌-◌, ◌*◌, ◌<◌, ◌≤◌, List, [], ◌∷◌, ◌++◌, length, take, drop, refl, sym, ◌∙◌, ap, subst, arith, inl, inr}
use Rattle.std.specs.Prelude.{min}
use Rattle.std.specs.List.{concat}
use Rattle.std.proofs.lemmas.Bool.{cases_lt}
use Rattle.std.proofs.lemmas.List.{append_assoc, append-nil, length-append, length-take-le, length-take, length-drop, take-append-drop, drop-drop, take_all, take_rest}
use Rattle.std.proofs.lemmas.List.Folds.{concat-append}
use Rattle.std.proofs.Math.Seq.{take-add}
use Rattle.column_pack.specs.Block.{IsBlock}
use Rattle.packed_lists.specs.Nums.{AreBlocksOf}
use Rattle.packed_lists.specs.Decoded.{IsBlockAt, AreBlocksAt}
use Rattle.packed_lists.specs.Found.{Begins, ArePut, AreFound}
use Rattle.packed_lists.specs.Laws.Fronts.{same-front}
use Rattle.packed_lists.specs.Laws.Placing.{blocks-push, blocks-before, places-push, put-at}

-- the numbers of a block: 128, or fewer where the list ends
pub take-part : {A : Type 0} (vs : List A) (from to : ℕ) → from ≤ length vs → to ≡ min (length vs) (from + 128) → take (to - from) (drop from vs) ≡ take 128 (drop from vs)
take-part vs from to inside e = elim (cases_lt (length vs) (from + 128)) [
  | inl short ↦
      let d : length (drop from vs) ≡ length vs - from = length-drop from vs in
      take_all (to - from) (drop from vs) (omega (arith, d)) ∙ sym (take_all 128 (drop from vs) (omega (arith, d)))
  | inr long ↦ (let n : to - from ≡ 128 = omega arith in ap (λ z. take z (drop from vs)) n)
]

concat-push : (blocks : List (List ℕ)) (block : List ℕ) → concat (blocks ++ block ∷ []) ≡ concat blocks ++ block
concat-push blocks block = concat-append blocks (block ∷ []) ∙ ap (λ z. concat blocks ++ z) (append-nil block)

pub put-more : (old now places : List ℕ) (done : ℕ) (vs ws : List ℤ) (block : List ℕ) → ArePut old now places done vs → 128 * done < length vs
    → ws ≡ take 128 (drop (128 * done) vs) → IsBlock ws block → ArePut old (now ++ block) (places ++ length now ∷ []) (done + 1) vs
put-more old now places done vs ws block h inside e k =
    let us = take (128 * done) vs in
    let n : length us ≡ 128 * done = length-take-le (128 * done) vs (omega arith) in
    let few : length ws ≤ 128 = omega (arith, ap (λ (z : List ℤ). length z) e, length-take 128 (drop (128 * done) vs)) in
    let more : us ++ ws ≡ take (128 * (done + 1)) vs = ap (λ z. us ++ z) e ∙ sym (take-add (128 * done) 128 vs) ∙ ap (λ z. take z vs) (omega arith) in
    record {
      blocks = h.blocks ++ block ∷ [];
      count = omega (arith, length-append h.blocks (block ∷ []), h.count);
      as_many = omega (arith, length-append places (length now ∷ []), h.as_many);
      packed = subst (λ z. AreBlocksOf (h.blocks ++ block ∷ []) z) more (blocks-push h.blocks us ws block h.packed (omega (arith, n, h.count)) k few);
      bytes = ap (λ z. z ++ block) h.bytes ∙ append_assoc old (concat h.blocks) block ∙ ap (λ z. old ++ z) (sym (concat-push h.blocks block));
      placed = subst (λ z. AreBlocksAt (now ++ block) (places ++ length now ∷ []) z) more
          (places-push (now ++ block) places us ws (length now) (blocks-before now block places us h.placed) (omega (arith, n, h.as_many)) (put-at now block ws k) few);
    }

pub begins-block : (n : ℕ) (bytes : List ℕ) → Begins n bytes → 0 < n → (ws : List ℤ) × (block rest : List ℕ) × (length ws ≡ min n 128) × IsBlock ws block × (bytes ≡ block ++ rest)
begins-block n bytes (us, nums, rest, m, ([], h, e), f) some = absurd (omega (arith, ap (λ (z : List ℤ). length z) h))
begins-block n bytes (us, nums, rest, m, (b ∷ bs, h, e), f) some =
    (take 128 us, b, concat bs ++ rest, omega (arith, length-take 128 us), h.0, f ∙ ap (λ z. z ++ rest) e ∙ append_assoc b (concat bs) rest)

begins-after : (n : ℕ) (bytes : List ℕ) (ws : List ℤ) (block behind : List ℕ) → Begins n bytes → 0 < n → IsBlock ws block → bytes ≡ block ++ behind → Begins (n - min n 128) behind
begins-after n bytes ws block behind (us, nums, rest, m, ([], h, e), f) some k g = absurd (omega (arith, ap (λ (z : List ℤ). length z) h))
begins-after n bytes ws block behind (us, nums, rest, m, (b ∷ bs, h, e), f) some k g =
    let s = same-front (take 128 us) ws b block (concat bs ++ rest) behind h.0 k (sym (f ∙ ap (λ z. z ++ rest) e ∙ append_assoc b (concat bs) rest) ∙ g) in
    (drop 128 us, concat bs, rest, omega (arith, length-drop 128 us), (bs, h.1, refl), sym s.1)

pub found-more : (bytes : List ℕ) (from end : ℕ) (places : List ℕ) (count left size len : ℕ) (ws : List ℤ) → AreFound bytes from end places count left → 0 < left → size ≡ min left 128
    → len ≤ length (take (length bytes - end) (drop end bytes)) → IsBlock ws (take len (take (length bytes - end) (drop end bytes))) → length ws ≡ size
    → AreFound bytes from (end + len) (places ++ end ∷ []) count (left - size)
found-more bytes from end places count left size len ws h some s fits k n =
    let tail = drop end bytes in
    let same : take (length bytes - end) tail ≡ tail = take_rest bytes end in
    let long : len ≤ length tail = subst (λ z. len ≤ length z) same fits in
    let block = take len tail in
    let is : IsBlock ws block = subst (λ z. IsBlock ws (take len z)) same k in
    let split : tail ≡ block ++ drop (end + len) bytes = sym (take-append-drop len tail) ∙ ap (λ z. block ++ z) (drop-drop len end bytes) in
    let full : length h.vs ≡ 128 * length h.blocks = h.whole some in
    record {
      vs = h.vs ++ ws;
      blocks = h.blocks ++ block ∷ [];
      as_many = omega (arith, length-append places (end ∷ []), length-append h.blocks (block ∷ []), h.as_many);
      whole = λ more. omega (arith, length-append h.vs ws, length-append h.blocks (block ∷ []));
      done = omega (arith, length-append h.vs ws, h.done);
      packed = blocks-push h.blocks h.vs ws block h.packed full is (omega arith);
      order = omega (arith, h.order);
      within = omega (arith, h.within, length-drop end bytes);
      behind = h.behind ∙ ap (λ z. concat h.blocks ++ z) split ∙ sym (append_assoc (concat h.blocks) block (drop (end + len) bytes)) ∙ ap (λ z. z ++ drop (end + len) bytes) (sym (concat-push h.blocks block));
      placed = subst (λ z. AreBlocksAt z (places ++ end ∷ []) (h.vs ++ ws)) (sym (take-add end len bytes))
          (places-push (take end bytes ++ block) places h.vs ws end (blocks-before (take end bytes) block places h.vs h.placed) (omega (arith, h.as_many)) (subst (λ z. IsBlockAt (take end bytes ++ block) z ws) (length-take-le end bytes h.within) (put-at (take end bytes) block ws is)) (omega arith));
      ahead = λ b. subst (λ z. Begins (left - z) (drop (end + len) bytes)) (sym s) (begins-after left tail ws block (drop (end + len) bytes) (h.ahead b) some is split);
    }

pub none-found : (bytes : List ℕ) (from count : ℕ) (places : List ℕ) → from ≤ length bytes → places ≡ [] → AreFound bytes from from places count count
none-found bytes from count places within none = record {
  vs = [];
  blocks = [];
  as_many = ap (λ (z : List ℕ). length z) none;
  whole = λ some. refl;
  done = omega arith;
  packed = refl;
  order = omega arith;
  within = within;
  behind = refl;
  placed = subst (λ z. AreBlocksAt (take from bytes) z []) (sym none) refl;
  ahead = λ b. b;
}
