use Rattle.std.proofs.Common.{List, [], ◌++◌, drop}
use Rattle.histogram_aggs.specs.declared.state.Node.{Node}
use Rattle.histogram_aggs.specs.Seen.{seen}
use Rattle.histogram_aggs.specs.Stands.{Stands}
use Rattle.histogram_aggs.proofs.state.make_level.Given as goal

-- with nodes for the rest the level is whole
abbrev pub invariant-loop-agg : goal.invariant-loop-agg
invariant-loop-agg l = (rest : List Node) → Stands l.fields (seen (drop l.agg-index l.aggs)) rest [] → Stands l.fields (seen l.aggs) (l.nodes.items ++ rest) []
