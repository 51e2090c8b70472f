use Rattle.std.proofs.Common.{sym, subst}
use Rattle.column_pack.specs.Summary.{IsSummary}
use Rattle.column_block.specs.Presence.{present}
use Rattle.column_block.proofs.Folding.{whole-block}
use Rattle.column_block.proofs.whole.WholeColumn.gauge_part.Goals as goal

pub returns-then-to-from-eq-BLOCK : goal.returns-then-to-from-eq-BLOCK
returns-then-to-from-eq-BLOCK c =
    whole-block (present c.args.self.now) c.args.block c.args.from c.args.to c.gauge_of_summary.result c.if-to-from-eq-BLOCK.true c.requires.inside c.requires.within
    (λ us some e. c.gauge_of_summary.ensures us some (subst (λ z. IsSummary z c.summary.result) (sym e) c.summary.ensures))
