use Rattle.std.proofs.Common.{rules, ◌∙◌}
use Rattle.serde_json.specs.View.{members_view}
use Rattle.histogram_aggs.specs.Reading.{asks_in}
use Rattle.histogram_aggs.proofs.reading.+read.Goals as goal

pub read_named-loop-name-preserved : goal.read_named-loop-name-preserved
read_named-loop-name-preserved t c = c.in_ok-push_named.ensures (asks_in c.args.fields.now (members_view c.next.new.self)) ∙ search rules
