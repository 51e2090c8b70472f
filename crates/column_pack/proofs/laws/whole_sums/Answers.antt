use Rattle.column_pack.proofs.WholeSums.{plain-sum, first-sum, rising-sum, falling-sum}
use Rattle.column_pack.proofs.laws.whole_sums.Goals as goal

pub returns-clause-plain : goal.returns-clause-plain
returns-clause-plain c = λ vs b h e i l. plain-sum vs b.kind b.first b.offset b.factor b.width b.residuals h e i l

pub returns-clause-first : goal.returns-clause-first
returns-clause-first c = λ vs b h e. first-sum vs b.kind b.first b.offset b.factor b.width b.residuals h e

pub returns-clause-rising : goal.returns-clause-rising
returns-clause-rising c = λ vs b h e i l. rising-sum vs b.kind b.first b.offset b.factor b.width b.residuals h e i l

pub returns-clause-falling : goal.returns-clause-falling
returns-clause-falling c = λ vs b h e i l. falling-sum vs b.kind b.first b.offset b.factor b.width b.residuals h e i l
