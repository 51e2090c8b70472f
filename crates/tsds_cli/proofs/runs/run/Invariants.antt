use Rattle.std.proofs.Common.{◌≡◌, ◌≤◌, ◌-◌, None}
use Rattle.edge_face.specs.Limits.{input_limit}
use Rattle.edge_face.specs.Waiting.{KnowsEnd}
use Rattle.tsds_cli.specs.Play.{stands}
use Rattle.tsds_cli.specs.Ends.{Reached}
use Rattle.tsds_cli.proofs.RunLemmas.{fresh}
use Rattle.tsds_cli.proofs.runs.run.Given as goal

-- some events were done
abbrev pub invariant-events : goal.invariant-events
invariant-events g l = record {
  reached : Reached g.M.Player.play (stands l.fn.machine (g.P.Keeper.table l.fn.keeper)) (stands l.machine (g.P.Keeper.table l.keeper)) fresh l.reader (g.S.Source.left l.fn.source) (g.S.Source.left l.source) (g.K.Sink.given l.fn.sink) (g.K.Sink.given l.sink);
  suited : g.M.Player.suits l.machine (g.P.Keeper.path l.keeper) (g.P.Keeper.table l.keeper);
  fine : l.reader.refused ≡ None;
  knows : KnowsEnd l.reader.ended (g.S.Source.left l.source);
  counted : g.S.Source.faults l.fn.source ≤ g.S.Source.faults l.source;
  counted_keeper : g.P.Keeper.faults l.fn.keeper ≤ g.P.Keeper.faults l.keeper;
  counted_sink : g.K.Sink.faults l.fn.sink ≤ g.K.Sink.faults l.sink;
  source_beside : g.S.Source.beside l.source ≡ g.S.Source.beside l.fn.source;
  sink_beside : g.K.Sink.beside l.sink ≡ g.K.Sink.beside l.fn.sink;
  path : g.P.Keeper.path l.keeper ≡ g.P.Keeper.path l.fn.keeper;
}

abbrev pub decreases-events : goal.decreases-events
decreases-events g l = input_limit - l.reader.answered
