use Rattle.index_segment.proofs.Found.{differs, is_there, not_found, past_end}
use Rattle.index_segment.proofs.lookup.place_of.Goals as goal

pub returns-then-eq-clause-some : goal.returns-then-eq-clause-some
returns-then-eq-clause-some c = is_there c.args.keys.now c.count_before-place.result c.in_ok-found.found.now c.args.key.now c.in_ok-found.ensures c.if-eq.ensures

pub returns-else-eq-clause-none : goal.returns-else-eq-clause-none
returns-else-eq-clause-none c none = not_found c.args.keys.now c.args.key.now c.requires c.count_before-place.result c.count_before-place.ensures.before c.count_before-place.ensures.behind (λ there. differs c.args.keys.now c.count_before-place.result c.in_ok-found.found.now c.args.key.now c.in_ok-found.ensures c.if-eq.ensures)

pub returns-in_err-found-clause-none : goal.returns-in_err-found-clause-none
returns-in_err-found-clause-none c none = not_found c.args.keys.now c.args.key.now c.requires c.count_before-place.result c.count_before-place.ensures.before c.count_before-place.ensures.behind (λ there. absurd (past_end c.args.keys.now c.count_before-place.result c.in_err-found.ensures there))
