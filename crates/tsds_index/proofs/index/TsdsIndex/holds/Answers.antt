use Rattle.std.proofs.Common.{subst}
use Rattle.tsds_index.specs.Sound.{IsSpread}
use Rattle.tsds_index.specs.Spread.{rows_of}
use Rattle.tsds_index.proofs.Answered.{are_rows}
use Rattle.tsds_index.proofs.Keys.{keys_bound}
use Rattle.tsds_index.proofs.index.TsdsIndex.holds.Goals as goal

pub returns-clause-rows : goal.returns-clause-rows
returns-clause-rows c = are_rows c.args.self.now (subst IsSpread c.self.view_is c.self.invariant.are.spread)

pub returns-clause-series : goal.returns-clause-series
returns-clause-series c = keys_bound c.args.self.now.schema (rows_of c.args.self.now) (are_rows c.args.self.now (subst IsSpread c.self.view_is c.self.invariant.are.spread))
