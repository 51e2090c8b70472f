use Rattle.std.proofs.Common.{ap, ◌∙◌}
use Rattle.std.specs.Option.{option_copied}
use Rattle.index_segment.specs.Looks.{first_behind}
use Rattle.index_segment.proofs.Found.{behind_here, behind_there, differs, first_of_all, is_there, past_end}
use Rattle.index_segment.proofs.lookup.place_behind.Goals as goal

pub returns-in_default : goal.returns-in_default
returns-in_default c = ap (λ key. first_behind (option_copied key) c.args.keys.now) c.in_default.is ∙ first_of_all c.args.keys.now

pub returns-then-eq : goal.returns-then-eq
returns-then-eq c = ap (λ key. first_behind (option_copied key) c.args.keys.now) c.in-Some.is ∙ behind_there c.args.keys.now c.in-Some.key.now c.requires c.count_before-place.result c.count_before-place.ensures.before c.count_before-place.ensures.behind (is_there c.args.keys.now c.count_before-place.result c.in-Some-at.found.now c.in-Some.key.now c.in-Some-at.ensures c.if-eq.ensures)

pub returns-else-eq : goal.returns-else-eq
returns-else-eq c = ap (λ key. first_behind (option_copied key) c.args.keys.now) c.in-Some.is ∙ behind_here c.args.keys.now c.in-Some.key.now c.requires c.count_before-place.result c.count_before-place.ensures.before c.count_before-place.ensures.behind (λ there. differs c.args.keys.now c.count_before-place.result c.in-Some-at.found.now c.in-Some.key.now c.in-Some-at.ensures c.if-eq.ensures)

pub returns-in-None : goal.returns-in-None
returns-in-None c = ap (λ key. first_behind (option_copied key) c.args.keys.now) c.in-Some.is ∙ behind_here c.args.keys.now c.in-Some.key.now c.requires c.count_before-place.result c.count_before-place.ensures.before c.count_before-place.ensures.behind (λ there. absurd (past_end c.args.keys.now c.count_before-place.result c.in-None.ensures there))
