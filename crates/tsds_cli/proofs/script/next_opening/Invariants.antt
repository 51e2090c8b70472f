use Rattle.std.proofs.Common.{◌≡◌, ◌≤◌, ◌-◌, None, []}
use Rattle.edge_face.specs.Limits.{input_limit}
use Rattle.edge_face.specs.Waiting.{KnowsEnd}
use Rattle.tsds_cli.specs.Script.{between}
use Rattle.tsds_cli.specs.Ahead.{Passed}
use Rattle.tsds_cli.proofs.script.next_opening.Given as goal

-- only skipped lines were passed
abbrev pub invariant-lines : goal.invariant-lines
invariant-lines g l = record {
  passed : Passed between [] between l.fn.reader l.reader (g.S.Source.left l.fn.source) (g.S.Source.left l.source);
  fine : l.reader.refused ≡ None;
  knows : KnowsEnd l.reader.ended (g.S.Source.left l.source);
  beside : g.S.Source.beside l.source ≡ g.S.Source.beside l.fn.source;
  counted : g.S.Source.faults l.fn.source ≤ g.S.Source.faults l.source;
}

abbrev pub decreases-lines : goal.decreases-lines
decreases-lines g l = input_limit - l.reader.answered
