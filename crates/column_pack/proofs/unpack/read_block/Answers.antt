use Rattle.std.proofs.Common.{◌≡◌, ℕ, List, ◌^◌, ◌<◌, ◌-◌, rules, length, take, drop, ap, ◌∙◌, sym, subst}
use Rattle.std.specs.List.{All}
use Rattle.std.proofs.lemmas.List.{take_rest}
use Rattle.std.proofs.lemmas.Bool.{iff_false}
use Rattle.std.proofs.lemmas.Nat.{pow_pos}
use Rattle.column_pack.specs.Block.{Fits, layout}
use Rattle.column_pack.specs.Digits.{number, digits}
use Rattle.column_pack.specs.Parts.{block_with, residuals_in}
use Rattle.column_pack.specs.Spread.{IsSpread}
use Rattle.column_pack.specs.Laws.Blocks.{below-width}
use Rattle.column_pack.specs.Laws.Numbers.{digits-below}
use Rattle.column_pack.specs.Laws.Sounds.{sound-same, counted-below}
use Rattle.column_pack.proofs.unpack.read_block.Goals as goal

-- the residuals that were read are those that the bytes have
residuals-are : (bytes rs : List ℕ) (w n : ℕ) → rs ≡ digits (2 ^ w) n (number 256 (take (length bytes - 27) (drop 27 bytes))) → rs ≡ residuals_in bytes w n
residuals-are bytes rs w n e = e ∙ ap (λ ys. digits (2 ^ w) n (number 256 ys)) (take_rest bytes 27)

below : (bytes rs : List ℕ) (w n : ℕ) → rs ≡ residuals_in bytes w n → All (λ r. r < 2 ^ w) rs
below bytes rs w n e = subst (λ ys. All (λ r. r < 2 ^ w) ys) (sym e) (digits-below (2 ^ w) n (number 256 (drop 27 bytes)) (pow_pos w))

pub returns-in_default-clause-bad : goal.returns-in_default-clause-bad
returns-in_default-clause-bad c = λ b s e. c.in_default.ensures.none b s.canonical.fits (below-width b.width b.residuals s.canonical.width) e

pub spread_of-spread-requires-clause-below : goal.spread_of-spread-requires-clause-below
spread_of-spread-requires-clause-below c =
    let h = c.in-Some.header in
    let bytes = c.args.bytes.now in
    let rs = take c.in-Some.count c.unpack_residuals.new.residuals in
    subst (λ ys. All (λ r. r < 2 ^ h.width) ys) (sym c.counted_of.ensures)
    (counted-below h.kind (2 ^ h.width) rs (below bytes rs h.width c.in-Some.count (residuals-are bytes rs h.width c.in-Some.count c.unpack_residuals.ensures)))

pub returns-then-is_sound-clause-ok : goal.returns-then-is_sound-clause-ok
returns-then-is_sound-clause-ok c =
    let h = c.in-Some.header in
    let bytes = c.args.bytes.now in
    let rs = take c.in-Some.count c.unpack_residuals.new.residuals in
    record {
      some = c.in-Some.ensures.some.some;
      few = c.in-Some.ensures.some.few;
      sound = c.is_sound.ensures.0 c.if-is_sound.true;
      same = c.in-Some.ensures.some.same ∙ ap (λ ys. layout (block_with h ys)) (sym (residuals-are bytes rs h.width c.in-Some.count c.unpack_residuals.ensures));
      spread = subst (λ ys. IsSpread ys c.spread_of-spread.result) c.counted_of.ensures c.spread_of-spread.ensures;
    }

pub returns-else-is_sound-clause-bad : goal.returns-else-is_sound-clause-bad
returns-else-is_sound-clause-bad c =
    let h = c.in-Some.header in
    let bytes = c.args.bytes.now in
    let rs = take c.in-Some.count c.unpack_residuals.new.residuals in
    let e : rs ≡ residuals_in bytes h.width c.in-Some.count = residuals-are bytes rs h.width c.in-Some.count c.unpack_residuals.ensures in
    let fits : Fits (block_with h rs) = search rules in
    let same : bytes ≡ layout (block_with h rs) = c.in-Some.ensures.some.same ∙ ap (λ ys. layout (block_with h ys)) (sym e) in
    λ b s t. iff_false c.is_sound.ensures c.if-is_sound.false (sound-same (block_with h rs) b fits (below bytes rs h.width c.in-Some.count e) s (sym same ∙ t))
