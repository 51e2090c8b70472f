use Rattle.std.proofs.Common.{arith}
use Rattle.tsds_index.specs.Spread.{rows_of}
use Rattle.tsds_index.proofs.Counted.{more_few}
use Rattle.tsds_index.proofs.index.TsdsIndex.put.Goals as goal

pub add-requires-clause-few : goal.add-requires-clause-few
add-requires-clause-few c = more_few c.args.self.now.schema (rows_of c.args.self.now) c.args.row.now c.holds.ensures.rows c.requires.row c.requires.few (omega arith)
