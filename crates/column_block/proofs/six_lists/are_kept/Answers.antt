use Rattle.std.proofs.Common.{◌∙◌, sym, subst, arith, ◌*◌, ◌+◌}
use Rattle.std.proofs.lemmas.List.{take_all}
use Rattle.row_cells.specs.Each.{Each}
use Rattle.column_block.specs.Rules.{AreParts}
use Rattle.column_block.specs.EachLaws.{each-range}
use Rattle.column_block.proofs.SixLists.{each-block, one-long}
use Rattle.column_block.proofs.six_lists.are_kept.Goals as goal

pub read_parts-found-requires : goal.read_parts-found-requires
read_parts-found-requires c =
    let (ps, h, n) = c.requires in
    (ps, h, omega (arith, n, c.loop-block-test.true, c.div_ceil-block-end.ensures))

pub returns-then-not-are_all_kept-clause-no : goal.returns-then-not-are_all_kept-clause-no
returns-then-not-are_all_kept-clause-no c = λ ps h k.
    let block = c.loop-block.block in
    let t = c.are_all_kept.ensures.no (subst (Each AreParts) (sym (c.read_parts-found.ensures.parts ps h)) (each-range AreParts ps (128 * block) (128 * block + 128) k)) in
    sym c.if-not-are_all_kept.true ∙ t

pub loop-block-preserved : goal.loop-block-preserved
loop-block-preserved c = λ ps h. each-block AreParts ps _ c.loop-block.block (c.loop-block.invariant ps h) (c.are_all_kept.ensures.yes c.if-not-are_all_kept.false) (c.read_parts-found.ensures.parts ps h)

pub returns-clause-yes : goal.returns-clause-yes
returns-clause-yes c = λ _ ps h.
    let (us, g, n) = c.requires in
    subst (Each AreParts) (take_all (128 * c.loop-block.block) ps (omega (arith, n, one-long c.args.bytes.now c.args.places.now us ps g h, c.loop-block-test.false, c.div_ceil-block-end.ensures))) (c.loop-block.invariant ps h)
