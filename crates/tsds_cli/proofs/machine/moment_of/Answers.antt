use Rattle.std.proofs.Common.{◌∙◌, sym, ap}
use Rattle.time_text.specs.Instant.{instant_of}
use Rattle.tsds_cli.proofs.MomentLemmas.{said, unsaid}
use Rattle.tsds_cli.proofs.machine.moment_of.Goals as goal

pub returns-in-Ok : goal.returns-in-Ok
returns-in-Ok c = c.instant_of.ensures ∙ ap instant_of c.in-Ok.ensures.cases.0 ∙ sym (said c.args.text.now c.in-Ok.ensures.cases.1)

pub returns-in-Err : goal.returns-in-Err
returns-in-Err c = sym (unsaid c.args.text.now c.in-Err.ensures.cases.0)
