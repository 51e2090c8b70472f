use Rattle.std.proofs.Common.{subst}
use Rattle.serde_json.specs.View.{view}
use Rattle.synthetic_source.specs.Outcomes.{IsOutcome}
use Rattle.synthetic_source.proofs.Documents.{later_fault}
use Rattle.synthetic_source.proofs.typing.walk_doc.Goals as goal

pub returns-in-Fault-clause-refused : goal.returns-in-Fault-clause-refused
returns-in-Fault-clause-refused c =
    later_fault c.args.schema.now c.args.strict (view c.args.doc.now) c.in_ok-time.time c.in-Fault.fault c.in_ok-time.ensures.ok (subst (IsOutcome c.args.schema.now c.args.strict (view c.args.doc.now)) c.in-Fault.is c.in-Ok.ensures)
