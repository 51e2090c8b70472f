use Rattle.std.proofs.Common.{◌∙◌, sym, subst}
use Rattle.std.proofs.lemmas.List.{take_all}
use Rattle.row_cells.specs.Each.{Each}
use Rattle.column_block.specs.Rules.{AreParts}
use Rattle.column_block.specs.EachLaws.{each-at, each-more}
use Rattle.column_block.proofs.six_lists.are_all_kept.Goals as goal

pub loop-part-preserved : goal.loop-part-preserved
loop-part-preserved c = each-more AreParts c.args.parts.now c.loop-part.part-index _ c.loop-part-test.true c.loop-part.invariant (c.is_kept.ensures.yes c.if-not-is_kept.false)

pub returns-then-not-is_kept-clause-no : goal.returns-then-not-is_kept-clause-no
returns-then-not-is_kept-clause-no c = λ h. (let t = c.is_kept.ensures.no (each-at AreParts c.args.parts.now c.loop-part.part-index _ c.loop-part-test.true h) in sym c.if-not-is_kept.true ∙ t)

pub returns-clause-yes : goal.returns-clause-yes
returns-clause-yes c = λ _. subst (Each AreParts) (take_all c.loop-part.part-index c.args.parts.now c.loop-part-test.false) c.loop-part.invariant
