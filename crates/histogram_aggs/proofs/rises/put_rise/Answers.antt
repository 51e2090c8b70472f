use Rattle.std.specs.BTreeMap.{get}
use Rattle.histogram_aggs.specs.Rises.{moment_cmp}
use Rattle.histogram_aggs.proofs.RiseSteps.{rise_put}
use Rattle.histogram_aggs.proofs.rises.put_rise.Goals as goal

pub returns : goal.returns
returns c = rise_put (get moment_cmp c.args.series.now) (get moment_cmp c.insert.new.self) c.args.at c.args.rise c.in_ok-both.both c.in_ok-both.ensures c.in_ok-insert.ensures.updates.0
