use Rattle.std.specs.Prelude.{[]}
use Rattle.row_cells.specs.JoinLaws.{join_ascends, joined_iff}
use Rattle.row_cells.proofs.joining.join_schemas.Goals as goal

pub returns-in_err-join_all-clause-ascending : goal.returns-in_err-join_all-clause-ascending
returns-in_err-join_all-clause-ascending c = join_ascends [] c.args.first.now.fields c.args.second.now.fields c.requires.first_ascends c.requires.second_ascends

pub returns-in_err-join_all-clause-all : goal.returns-in_err-join_all-clause-all
returns-in_err-join_all-clause-all c = λ f. joined_iff f c.args.first.now.fields c.args.second.now.fields c.requires.first_ascends c.requires.agree

pub returns-clause-ascending : goal.returns-clause-ascending
returns-clause-ascending c = join_ascends [] c.args.first.now.fields c.args.second.now.fields c.requires.first_ascends c.requires.second_ascends

pub returns-clause-all : goal.returns-clause-all
returns-clause-all c = λ f. joined_iff f c.args.first.now.fields c.args.second.now.fields c.requires.first_ascends c.requires.agree
