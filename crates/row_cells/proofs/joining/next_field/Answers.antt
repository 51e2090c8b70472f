use Rattle.std.proofs.Common.{sym, ◌∙◌}
use Rattle.row_cells.proofs.Joined.{follows_second, follows_first, follows_less, follows_equal, follows_greater}
use Rattle.row_cells.proofs.joining.next_field.Goals as goal

pub returns-in-Some-split_first-clause-some : goal.returns-in-Some-split_first-clause-some
returns-in-Some-split_first-clause-some c = follows_second c.args.first.now c.args.second.now c.in-Some-split_first.g.now c.in-Some-split_first.gs.now c.in-None.ensures.cases c.in-Some-split_first.ensures.cases.0 c.requires.first_ascends c.requires.second_ascends

pub returns-in-None-split_first-2-clause-some : goal.returns-in-None-split_first-2-clause-some
returns-in-None-split_first-2-clause-some c = follows_first c.args.first.now c.args.second.now c.in-Some.f.now c.in-Some.fs.now c.in-Some.ensures.cases.0 c.in-None-split_first-2.ensures.cases c.requires.first_ascends c.requires.second_ascends

pub returns-in-Less-clause-some : goal.returns-in-Less-clause-some
returns-in-Less-clause-some c = follows_less c.args.first.now c.args.second.now c.in-Some.f.now c.in-Some-split_first-2.g.now c.in-Some.fs.now c.in-Some-split_first-2.gs.now c.in-Some.ensures.cases.0 c.in-Some-split_first-2.ensures.cases.0 c.requires.first_ascends c.requires.second_ascends (sym c.cmp.ensures ∙ c.in-Less.is)

pub returns-in-Equal-clause-some : goal.returns-in-Equal-clause-some
returns-in-Equal-clause-some c = follows_equal c.args.first.now c.args.second.now c.in-Some.f.now c.in-Some-split_first-2.g.now c.in-Some.fs.now c.in-Some-split_first-2.gs.now c.in-Some.ensures.cases.0 c.in-Some-split_first-2.ensures.cases.0 c.requires.first_ascends c.requires.second_ascends (sym c.cmp.ensures ∙ c.in-Equal.is)

pub returns-in-Greater-clause-some : goal.returns-in-Greater-clause-some
returns-in-Greater-clause-some c = follows_greater c.args.first.now c.args.second.now c.in-Some.f.now c.in-Some-split_first-2.g.now c.in-Some.fs.now c.in-Some-split_first-2.gs.now c.in-Some.ensures.cases.0 c.in-Some-split_first-2.ensures.cases.0 c.requires.first_ascends c.requires.second_ascends (sym c.cmp.ensures ∙ c.in-Greater.is)
