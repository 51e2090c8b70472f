use Rattle.index_segment.specs.Directory.{keys_of}
use Rattle.tsds_index.specs.Spread.{rows_of}
use Rattle.tsds_index.proofs.Keys.{all_ahead}
use Rattle.tsds_index.proofs.index.TsdsIndex.walk.Goals as goal

pub returns-clause-ahead : goal.returns-clause-ahead
returns-clause-ahead c = all_ahead (keys_of (rows_of c.args.self.now))
