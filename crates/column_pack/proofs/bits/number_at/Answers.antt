use Rattle.std.proofs.Common.{◌≡◌, ◌+◌, ◌*◌, ◌/◌, ◌%◌, ◌^◌, get_or, arith}
use Rattle.std.proofs.lemmas.Nat.{one_shl, shl_whole}
use Rattle.column_pack.specs.Laws.Words.{bits-at, words-all}
use Rattle.column_pack.proofs.bits.number_at.Goals as goal

pub returns : goal.returns
returns c =
    let ws = c.args.words.now in
    let at = c.args.at in
    let j = at / 64 in
    let high : get_or ws (j + 1) 0 * 2 ^ 64 % 2 ^ 128 ≡ get_or ws (j + 1) 0 * 2 ^ 64 = shl_whole (get_or ws (j + 1) 0) 64 64 128 (omega (arith, c.type_inv.words (j + 1))) (omega arith) in
    let mask : 1 * 2 ^ c.args.width % 2 ^ 128 ≡ 2 ^ c.args.width = one_shl c.args.width 128 (omega arith) in
    rw (high, mask) (bits-at ws at j (at % 64) c.args.width (words-all ws c.type_inv.words) (omega arith) (omega arith) c.requires.width (omega arith))
