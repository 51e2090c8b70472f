use Rattle.std.proofs.Common.{◌≡◌, ℕ, List, Some, ◌+◌, ◌*◌, length, get_or, ap, arith}
use Rattle.std.proofs.lemmas.List.{length-append}
use Rattle.column_pack.specs.Laws.OneList.{block-size, length-before}
use Rattle.column_pack.proofs.laws.block_len.Goals as goal

pub returns-then-bytes-lt27-clause-some : goal.returns-then-bytes-lt27-clause-some
returns-then-bytes-lt27-clause-some c = λ vs block rest h e. absurd (omega (arith, block-size vs block h, length-append block rest, ap (λ (xs : List ℕ). length xs) e))

pub returns-clause-some : goal.returns-clause-some
returns-clause-some c = λ vs block rest h e.
    let n : 27 + c.div_ceil.result ≡ length block = omega (arith, c.div_ceil.ensures, length-before vs block rest h, ap (λ (xs : List ℕ). get_or xs 0 0 * get_or xs 26 0) e) in ap Some n
