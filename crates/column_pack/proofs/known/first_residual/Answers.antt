use Rattle.std.proofs.lemmas.Nat.{pow_pos}
use Rattle.std.proofs.Common.{◌≡◌, ◌≤◌, sym, ◌%◌, ◌^◌, ◌*◌, ◌<◌, ◌+◌, arith, ap, ◌∙◌, get_or, drop, ℕ, List}
use Rattle.std.proofs.lemmas.List.{take_rest}
use Rattle.std.proofs.Math.Nat.{mod-eq_of_lt, pow-le-pow_right}
use Rattle.column_pack.specs.Digits.{number}
use Rattle.column_pack.proofs.Leading.{lead-sizes, lead-width, lead-residual}
use Rattle.column_pack.proofs.known.first_residual.Goals as goal

pub slice_bounds-word_ahead-count : goal.slice_bounds-word_ahead-count
slice_bounds-word_ahead-count c = let (b, h) = c.requires in omega (arith, (lead-sizes b c.args.bytes.now h).long)

pub slice_bounds-word_ahead-start : goal.slice_bounds-word_ahead-start
slice_bounds-word_ahead-start c = let (b, h) = c.requires in omega (arith, (lead-sizes b c.args.bytes.now h).long)

pub bounds-bytes-26 : goal.bounds-bytes-26
bounds-bytes-26 c = let (b, h) = c.requires in omega (arith, (lead-sizes b c.args.bytes.now h).long)

pub overflow_shl-result : goal.overflow_shl-result
overflow_shl-result c = let (b, h) = c.requires in omega (arith, (lead-sizes b c.args.bytes.now h).thin)

power : (w : ℕ) → w ≤ 64 → 1 * 2 ^ w % 2 ^ 128 ≡ 2 ^ w
power w h = let p : 2 ^ w ≤ 2 ^ 64 = pow-le-pow_right (omega arith) h in let e : 1 * 2 ^ w ≡ 2 ^ w = omega arith in ap (λ z. z % 2 ^ 128) e ∙ mod-eq_of_lt (omega arith)

pub nonzero_rem-result : goal.nonzero_rem-result
nonzero_rem-result c = let (b, h) = c.requires in omega (arith, power (get_or c.args.bytes.now 26 0) (lead-sizes b c.args.bytes.now h).thin, pow_pos (get_or c.args.bytes.now 26 0))

pub returns : goal.returns
returns c = λ b h.
    let bytes = c.args.bytes.now in
    ap (λ z. c.word_ahead-word.result % z) (power (get_or bytes 26 0) (lead-sizes b bytes h).thin)
    ∙ lead-residual b bytes c.word_ahead-word.result _ (get_or bytes 26 0) h (lead-width b bytes h) (ap (number 256) (sym (take_rest bytes 27)) ∙ c.word_ahead-word.ensures)
