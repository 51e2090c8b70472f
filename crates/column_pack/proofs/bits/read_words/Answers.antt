use Rattle.std.proofs.Common.{◌≡◌, ◌≢◌, ◌+◌, ◌*◌, ◌^◌, ◌≤◌, length, take, drop, set, arith, ◌∙◌, ap, sym, subst}
use Rattle.std.proofs.lemmas.List.{get_or-set_other}
use Rattle.std.specs.Int.{from_le_bytes, w64}
use Rattle.column_pack.specs.Digits.{number}
use Rattle.column_pack.specs.Laws.Words.{word-read, number-set_last}
use Rattle.column_pack.proofs.bits.read_words.Goals as goal

pub loop-word-preserved : goal.loop-word-preserved
loop-word-preserved c =
    let l = c.loop-word in
    let rest = l.rest.now in
    let n = c.from_le_bytes.result in
    let whole : 8 ≤ length rest = omega (arith, c.in-Some.ensures.cases.2) in
    let word : c.in-Some.word.now ≡ take 8 rest = c.in-Some.ensures.cases.0 in
    let after : c.in-Some.after.now ≡ drop 8 rest = c.in-Some.ensures.cases.1 in
    let e : n ≡ from_le_bytes w64 (take 8 rest) = c.from_le_bytes.ensures ∙ ap (from_le_bytes w64) word in
    record {
      value = subst (λ ys. number (2 ^ 64) (take (l.count + 1) (set l.words l.count n)) + (2 ^ 64) ^ (l.count + 1) * number 256 ys ≡ number 256 c.args.bytes.now) (sym after)
          (word-read l.count (number 256 c.args.bytes.now) n l.words rest (omega arith) whole e l.invariant.value);
      behind = λ k h. let ne : k ≢ l.count = omega arith in get_or-set_other l.words l.count k n 0 ne ∙ l.invariant.behind k (omega arith);
      room = omega (arith, c.in-Some.ensures.cases.2);
    }

pub returns : goal.returns
returns c =
    let l = c.loop-word in
    number-set_last (2 ^ 64) l.words l.count c.last_word.result (omega arith) l.invariant.behind
    ∙ ap (λ z. number (2 ^ 64) (take l.count l.words) + (2 ^ 64) ^ l.count * z) c.last_word.ensures ∙ l.invariant.value
