use Rattle.std.proofs.Common.{◌≡◌, ◌≤◌, ◌-◌, None, [], length}
use Rattle.edge_face.specs.Limits.{input_limit}
use Rattle.edge_face.specs.Waiting.{KnowsEnd}
use Rattle.edge_face.specs.Limits.{body_limit}
use Rattle.tsds_cli.specs.Script.{within}
use Rattle.tsds_cli.specs.Ahead.{Passed}
use Rattle.tsds_cli.proofs.script.read_body.Given as goal

-- so much of the body was passed
abbrev pub invariant-lines : goal.invariant-lines
invariant-lines g l = record {
  passed : Passed (within l.fn.heard.line.items []) [] (within l.fn.heard.line.items l.heard.body.items) l.fn.reader l.reader (g.S.Source.left l.fn.source) (g.S.Source.left l.source);
  kept : (l.heard.opening ≡ l.fn.heard.opening) × (l.heard.line.items ≡ l.fn.heard.line.items);
  short : length l.heard.body.items ≤ body_limit;
  fine : l.reader.refused ≡ None;
  knows : KnowsEnd l.reader.ended (g.S.Source.left l.source);
  beside : g.S.Source.beside l.source ≡ g.S.Source.beside l.fn.source;
  counted : g.S.Source.faults l.fn.source ≤ g.S.Source.faults l.source;
}

abbrev pub decreases-lines : goal.decreases-lines
decreases-lines g l = input_limit - l.reader.answered
