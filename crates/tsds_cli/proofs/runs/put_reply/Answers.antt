use Rattle.std.proofs.Common.{take, drop, arith, length-drop}
use Rattle.std.proofs.lemmas.List.{take-append-drop}
use Rattle.tsds_cli.proofs.runs.put_reply.Goals as goal

pub returns-in-Err-clause-part : goal.returns-in-Err-clause-part
returns-in-Err-clause-part g c = record {
  part = take c.in-Err.field-0.gone c.args.reply.now;
  more = drop c.in-Err.field-0.gone c.args.reply.now;
  whole = take-append-drop c.in-Err.field-0.gone c.args.reply.now;
  cut = omega (arith, c.in-Err.ensures.gone, length-drop c.in-Err.field-0.gone c.args.reply.now);
  given_is = c.in-Err.ensures.failed;
}
