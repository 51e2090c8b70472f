use Rattle.std.proofs.Common.{Ok, ◌∙◌, ap, sym, subst, arith, refl}
use Rattle.edge_face.specs.Reading.{Reading}
use Rattle.edge_face.specs.Waiting.{KnowsEnd}
use Rattle.tsds_cli.specs.Ahead.{event_in}
use Rattle.tsds_cli.specs.Play.{stands}
use Rattle.tsds_cli.specs.declared.errors.RunError.TheVariants.{NoMemory}
use Rattle.tsds_cli.proofs.RunLemmas.{reached-none, one-more, ends-by, ends-broken, ends-unread, err-ends}
use Rattle.tsds_cli.proofs.runs.run.Goals as goal

pub events-init : goal.events-init
events-init g c =
    record {
      reached = reached-none g.M.Player.play (stands c.args.machine.now (g.P.Keeper.table c.args.keeper.now)) c.in_ok-reader.reader _ _ c.in_ok-reader.ensures;
      suited = c.requires.suited;
      fine = ap (λ (r : Reading). r.refused) c.in_ok-reader.ensures;
      knows = subst (λ (r : Reading). KnowsEnd r.ended (g.S.Source.left c.args.source.now)) (sym c.in_ok-reader.ensures) (λ e. cc);
      counted = omega arith;
      counted_keeper = omega arith;
      counted_sink = omega arith;
      source_beside = refl;
      sink_beside = refl;
      path = refl;
    }

pub returns-in_err-reader-clause-refused : goal.returns-in_err-reader-clause-refused
returns-in_err-reader-clause-refused g c =
    let start = stands c.args.machine.now (g.P.Keeper.table c.args.keeper.now) in
    err-ends g.M.Player.play start start c.from_residual.result NoMemory _ _ _ _ c.from_residual.ensures.1 (ends-unread g.M.Player.play start _ _)

pub returns-in_err-more-clause-refused : goal.returns-in_err-more-clause-refused
returns-in_err-more-clause-refused g c =
    let start = stands c.args.machine.now (g.P.Keeper.table c.args.keeper.now) in
    let now = stands c.events.machine (g.P.Keeper.table c.events.keeper) in
    err-ends g.M.Player.play start now c.from_residual-in_err-more.result c.in_err-more.field-0.0 _ _ _ _ c.from_residual-in_err-more.ensures.1
    (ends-by g.M.Player.play start now c.in_err-more.field-0.0 c.events.reader c.next_event.new.reader _ _ _ _ _ c.events.invariant.reached c.in_err-more.ensures.stopped c.next_event.ensures.knows)

pub returns-in_err-do_event-clause-refused : goal.returns-in_err-do_event-clause-refused
returns-in_err-do_event-clause-refused g c =
    let start = stands c.args.machine.now (g.P.Keeper.table c.args.keeper.now) in
    let now = stands c.events.machine (g.P.Keeper.table c.events.keeper) in
    let next = stands c.do_event.new.machine (g.P.Keeper.table c.do_event.new.keeper) in
    let passed = c.in_ok-more.ensures.event (ap Ok c.if-not-more.false) in
    err-ends g.M.Player.play start next c.from_residual-in_err-do_event.result c.in_err-do_event.field-0.0 _ _ _ _ c.from_residual-in_err-do_event.ensures.1
    (ends-broken g.M.Player.play start now next c.in_err-do_event.field-0.0 c.events.reader c.next_event.new.reader _ _ _ _ _ _ (event_in c.next_event.new.heard) c.events.invariant.reached passed c.next_event.ensures.knows (c.in_ok-more.ensures.held (ap Ok c.if-not-more.false)) c.in_err-do_event.ensures.broke)

pub events-preserved : goal.events-preserved
events-preserved g c =
    let start = stands c.args.machine.now (g.P.Keeper.table c.args.keeper.now) in
    let now = stands c.events.machine (g.P.Keeper.table c.events.keeper) in
    let next = stands c.do_event.new.machine (g.P.Keeper.table c.do_event.new.keeper) in
    let passed = c.in_ok-more.ensures.event (ap Ok c.if-not-more.false) in
    record {
      reached = one-more g.M.Player.play start now next c.events.reader c.next_event.new.reader _ _ _ _ _ _ (event_in c.next_event.new.heard) c.events.invariant.reached passed (c.in_ok-more.ensures.held (ap Ok c.if-not-more.false)) c.in_ok-do_event.ensures.after c.in_ok-do_event.ensures.table c.in_ok-do_event.ensures.put;
      suited = c.in_ok-do_event.ensures.suited;
      fine = c.in_ok-more.ensures.fine;
      knows = c.next_event.ensures.knows;
      counted = omega arith;
      counted_keeper = omega arith;
      counted_sink = omega arith;
      source_beside = c.next_event.ensures.beside ∙ c.events.invariant.source_beside;
      sink_beside = c.do_event.ensures.beside ∙ c.events.invariant.sink_beside;
      path = c.do_event.ensures.path ∙ c.events.invariant.path;
    }
