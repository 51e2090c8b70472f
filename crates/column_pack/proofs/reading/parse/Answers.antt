use Rattle.std.proofs.Common.{◌≡◌, ℕ, List, ◌<◌, ◌≤◌, ◌*◌, ◌^◌, length, drop, get_or, arith, ap, ◌∙◌, sym, subst, refl, inl, inr}
use Rattle.std.proofs.lemmas.List.{take_rest}
use Rattle.std.proofs.lemmas.Bool.{iff_false, cases_lt}
use Rattle.std.proofs.lemmas.Nat.{mul-le}
use Rattle.column_pack.specs.Block.{Block, layout}
use Rattle.column_pack.specs.Digits.{number, bytes_for}
use Rattle.column_pack.specs.Laws.Words.{bytes-all}
use Rattle.column_pack.specs.Laws.Layouts.{length-layout, layout-count, layout-kind, layout-width, layout-stream, stream-number, number-stream, bytes-again}
use Rattle.column_pack.proofs.reading.parse.Goals as goal

pub returns-then-bytes-lt27-clause-none : goal.returns-then-bytes-lt27-clause-none
returns-then-bytes-lt27-clause-none c = λ b fits below e. omega (arith, length-layout b, ap length e)

pub returns-in_default-clause-none : goal.returns-in_default-clause-none
returns-in_default-clause-none c = λ b fits below e. c.in_default.ensures.none b.kind (ap (λ (bs : List ℕ). get_or bs 1 0) e ∙ layout-kind b)

pub returns-then-count-eq0-clause-none : goal.returns-then-count-eq0-clause-none
returns-then-count-eq0-clause-none c = λ b fits below e. omega (arith, fits.some, layout-count b, ap (λ (bs : List ℕ). get_or bs 0 0) e)

pub returns-then-count-gt128-clause-none : goal.returns-then-count-gt128-clause-none
returns-then-count-gt128-clause-none c = λ b fits below e. omega (arith, fits.few, layout-count b, ap (λ (bs : List ℕ). get_or bs 0 0) e)

pub returns-then-width-gt64-clause-none : goal.returns-then-width-gt64-clause-none
returns-then-width-gt64-clause-none c = λ b fits below e. omega (arith, fits.width, layout-width b, ap (λ (bs : List ℕ). get_or bs 26 0) e)

bits-of : (bytes : List ℕ) (b : Block) → bytes ≡ layout b → length b.residuals * b.width ≡ get_or bytes 0 0 * get_or bytes 26 0
bits-of bytes b e = ap (λ z. z * b.width) (sym (ap (λ (bs : List ℕ). get_or bs 0 0) e ∙ layout-count b)) ∙ ap (λ z. get_or bytes 0 0 * z) (sym (ap (λ (bs : List ℕ). get_or bs 26 0) e ∙ layout-width b))

pub returns-then-bytes-div_ceil-clause-none : goal.returns-then-bytes-div_ceil-clause-none
returns-then-bytes-div_ceil-clause-none c = λ b fits below e.
    omega (arith, length-layout b, ap length e, ap bytes_for (bits-of c.args.bytes.now b e), c.div_ceil.ensures)

pub returns-then-has_spare-clause-none : goal.returns-then-has_spare-clause-none
returns-then-has_spare-clause-none c = λ b fits below e.
    let bytes = c.args.bytes.now in
    let a : 2 ^ (get_or bytes 0 0 * get_or bytes 26 0) ≤ number 256 (drop 27 bytes) = subst (λ ys. 2 ^ (get_or bytes 0 0 * get_or bytes 26 0) ≤ number 256 ys) (take_rest bytes 27) (c.has_spare.ensures.0 c.if-has_spare.true) in
    let n : number 256 (drop 27 bytes) ≡ number (2 ^ b.width) b.residuals = ap (λ ys. number 256 (drop 27 ys)) e ∙ ap (number 256) (layout-stream b) ∙ number-stream b.width b.residuals below in
    let p : number (2 ^ b.width) b.residuals < 2 ^ (get_or bytes 0 0 * get_or bytes 26 0) = subst (λ z. number (2 ^ b.width) b.residuals < 2 ^ z) (bits-of bytes b e) (stream-number b.width b.residuals below) in
    omega arith

pub returns-clause-some : goal.returns-clause-some
returns-clause-some c = record {
  some = omega arith;
  few = omega arith;
  width = omega arith;
  front = omega arith;
  size = omega (arith, c.div_ceil.ensures, mul-le (get_or c.args.bytes.now 0 0) (get_or c.args.bytes.now 26 0) 128 64 (omega arith) (omega arith));
  same =
      let bytes = c.args.bytes.now in
      let bits = get_or bytes 0 0 * get_or bytes 26 0 in
      let no : 2 ^ bits ≤ number 256 (drop 27 bytes) → ⊥ = λ h. iff_false c.has_spare.ensures c.if-has_spare.false (subst (λ ys. 2 ^ bits ≤ number 256 ys) (sym (take_rest bytes 27)) h) in
      let low : number 256 (drop 27 bytes) < 2 ^ bits = elim (cases_lt (number 256 (drop 27 bytes)) (2 ^ bits)) [ inl h ↦ h | inr h ↦ absurd (no h) ] in
      bytes-again bytes _ (get_or bytes 0 0) (bytes-all bytes c.type_inv.bytes) (omega (arith, c.div_ceil.ensures)) low refl (sym c.in-Some.ensures.some) refl c.word_at.ensures c.word_at-2.ensures c.word_at-3.ensures;
}
