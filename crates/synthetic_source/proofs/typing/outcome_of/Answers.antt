use Rattle.serde_json.specs.View.{view}
use Rattle.synthetic_source.specs.Walked.{seen_walk}
use Rattle.synthetic_source.proofs.TypedWalk.{cells_timed, doc_outcome}
use Rattle.synthetic_source.proofs.typing.outcome_of.Goals as goal

pub settle-requires-clause-timed : goal.settle-requires-clause-timed
settle-requires-clause-timed c =
    cells_timed c.args.schema.now c.args.strict (view c.args.doc.now) c.as_slice-fields.result.now (seen_walk c.in_ok-walk.walk) c.requires.schema c.as_slice-fields.ensures c.in_ok-walk.ensures.held c.requires.timed

pub returns : goal.returns
returns c = doc_outcome c.args.schema.now c.args.strict (view c.args.doc.now) c.as_slice-fields.result.now (seen_walk c.in_ok-walk.walk) c.requires.schema c.as_slice-fields.ensures c.in_ok-walk.ensures.held c.in_ok-outcome.outcome c.in_ok-outcome.ensures
