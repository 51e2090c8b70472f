use Rattle.std.proofs.Common.{◌≡◌, ◌+◌, ◌*◌, ◌^◌, ◌++◌, take, get_or, ap, ◌∙◌, arith}
use Rattle.std.specs.Int.{to_le_bytes, w64}
use Rattle.std.proofs.lemmas.List.{append_assoc}
use Rattle.column_pack.specs.Digits.{number, digits}
use Rattle.column_pack.specs.Laws.Words.{words-all}
use Rattle.column_pack.proofs.Bytes.{words-more}
use Rattle.column_pack.proofs.pack.put_words.Goals as goal

pub loop-i-preserved : goal.loop-i-preserved
loop-i-preserved c =
    let ws = c.args.words.now in
    let i = c.loop-i.i in
    let front = take 27 c.args.bytes.now in
    let n = number (2 ^ 64) (take i ws) in
    let e : 27 + 8 * (i + 1) ≡ 27 + 8 * i + 8 = omega arith in
    ap (λ k. take k c.put_word.new.bytes) e
    ∙ c.put_word.ensures
    ∙ ap (λ ys. ys ++ c.to_le_bytes.result) c.loop-i.invariant
    ∙ ap (λ ys. front ++ digits 256 (8 * i) n ++ ys) c.to_le_bytes.ensures
    ∙ append_assoc front (digits 256 (8 * i) n) (to_le_bytes w64 (get_or ws i 0))
    ∙ ap (λ ys. front ++ ys) (words-more ws i (omega arith) (words-all ws c.type_inv.words))
