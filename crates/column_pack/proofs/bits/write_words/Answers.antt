use Rattle.std.proofs.Common.{◌≡◌, ◌+◌, ◌*◌, ◌^◌, ◌%◌, ◌<◌, get_or, take, arith, ◌∙◌, ap}
use Rattle.std.proofs.lemmas.List.{take_all}
use Rattle.std.proofs.lemmas.Nat.{mul-le}
use Rattle.column_pack.specs.Digits.{number}
use Rattle.column_pack.specs.Laws.Numbers.{pending-lt, number-more_set}
use Rattle.column_pack.specs.Laws.Words.{grown, put, shifted, rest-lt}
use Rattle.column_pack.proofs.bits.write_words.Goals as goal
use Rattle.column_pack.proofs.bits.write_words.Goals.{then-filled-ge64, else-filled-ge64}

pub loop-residual-preserved : goal.loop-residual-preserved
loop-residual-preserved c =
    let l = c.loop-residual in
    let i = l.residual-index in
    let rs = c.args.residuals.now in
    let r = get_or rs i 0 in
    let w = c.args.width in
    let below : r < 2 ^ w = c.requires.below i 0 (omega arith) in
    let s : r * 2 ^ l.filled % 2 ^ 128 ≡ r * 2 ^ l.filled = shifted r l.filled w below c.requires.width l.invariant.filled in
    let p = l.pending + r * 2 ^ l.filled in
    let v = grown w l.count l.filled i l.pending rs l.words (omega arith) l.invariant.bits l.invariant.value in
    let lt : p < 2 ^ (l.filled + w) = pending-lt l.pending l.filled r w l.invariant.short below in
    elim c.if-filled-ge64.branch [
      | then-filled-ge64 b ↦ record {
        value = rw (b.words-is, b.count-is, b.pending-is, s) (put l.count p (number (2 ^ w) (take (i + 1) rs)) l.words (omega (arith, mul-le i w 128 64 (omega arith) c.requires.width)) v);
        bits = rw (b.count-is, b.filled-is) (omega arith);
        short = rw (b.filled-is, b.pending-is, s) (rest-lt p l.filled w b.if-filled-ge64.true lt);
        filled = omega arith;
      }
      | else-filled-ge64 b ↦ record {
        value = rw (b.words-is, b.count-is, b.pending-is, s) v;
        bits = rw (b.count-is, b.filled-is) (omega arith);
        short = rw (b.filled-is, b.pending-is, s) lt;
        filled = omega arith;
      }
    ]

pub returns-clause-number : goal.returns-clause-number
returns-clause-number c =
    let l = c.loop-residual in
    number-more_set (2 ^ 64) l.words l.count l.pending (omega (arith, mul-le l.residual-index c.args.width 128 64 (omega arith) c.requires.width)) ∙ l.invariant.value ∙ ap (number (2 ^ c.args.width)) (take_all l.residual-index c.args.residuals.now (omega arith))
