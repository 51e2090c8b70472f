use Rattle.std.proofs.Common.{◌++◌, Ok, Err, Result, ap, ◌∙◌, refl}
use Rattle.std.specs.Prelude.{OnOk}
use Rattle.column_pack.specs.Block.{layout}
use Rattle.column_pack.specs.Parts.{block_with}
use Rattle.column_pack.specs.Laws.Blocks.{below-width}
use Rattle.column_pack.proofs.Level.{zeros-take}
use Rattle.column_pack.specs.Laws.OneBlock.{one-block}
use Rattle.column_pack.proofs.pack.pack_block.Goals as goal

-- what is known at Ok, weakened
on-ok : {T E P Q : Type 0} (r : Result T E) → (P → Q) → OnOk r P → OnOk r Q
on-ok (Ok x) f h = f h
on-ok (Err e) f h = h

pub append-requires-clause-below : goal.append-requires-clause-below
append-requires-clause-below c = below-width c.describe-header.result.width c.describe-header.new.residuals c.describe-header.ensures.canonical.width

pub returns-clause-only : goal.returns-clause-only
returns-clause-only c =
    let b = block_with c.describe-header.result c.describe-header.new.residuals in
    on-ok c.append.result (λ e block h. e ∙ ap (λ ys. c.args.into.now.items ++ ys) (one-block c.args.values.now (layout b) block (b, c.describe-header.ensures, refl) h)) c.append.ensures.ok

pub describe-header-requires-clause-zero : goal.describe-header-requires-clause-zero
describe-header-requires-clause-zero c = λ k. zeros-take _ 128 k
