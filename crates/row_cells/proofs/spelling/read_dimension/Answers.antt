use Rattle.std.proofs.Common.{sym, subst, rules, refl, ◌<◌, length}
use Rattle.std.specs.Prelude.{IsUtf8}
use Rattle.row_cells.specs.Heads.{dimension_seen}
use Rattle.row_cells.proofs.spelling.read_dimension.Goals as goal

pub returns-in_err-entry-clause-none : goal.returns-in_err-entry-clause-none
returns-in_err-entry-clause-none c = λ none d rest is same. c.in_err-entry.ensures.reads d rest is same

pub returns-in-Ok-clause-some : goal.returns-in-Ok-clause-some
returns-in-Ok-clause-some c =
    let told = c.in_ok-entry.ensures.told in
    let some : 0 < length c.in_ok-entry.entry.path.now = search rules in
    (dimension_seen c.in_ok-entry.entry, record { path_some = some; path_short = c.if-entry-gt-LONGEST_PATH.false; path_text = c.in-Ok.ensures.cases.1; value_fits = told.0 }, refl, told.1)

pub returns-in-Err-clause-none : goal.returns-in-Err-clause-none
returns-in-Err-clause-none c = λ none d rest is same. c.in-Err.ensures.cases.0 (subst IsUtf8 (sym (c.in_ok-entry.ensures.reads d rest is same).0) is.path_text)
