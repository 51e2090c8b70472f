use Rattle.std.proofs.Common.{◌≡◌, true, ◌∙◌, sym, subst}
use Rattle.std.specs.Option.{option_copied}
use Rattle.search_filter.specs.ValueLaws.{value_tied}
use Rattle.histogram_aggs.specs.Repeats.{IsTop, has_value}
use Rattle.histogram_aggs.proofs.held.is_repeated.Goals as goal

pub returns-in-Equal : goal.returns-in-Equal
returns-in-Equal c =
    let before = c.args.before.now in
    let top = c.in-Some.top.now in
    let value = c.args.value.now in
    let tops = subst (λ o. IsTop (option_copied o) before) c.in-Some.is c.requires in
    sym (subst (λ v. has_value before v ≡ true) (value_tied top value (sym c.value_order.ensures ∙ c.in-Equal.is)) tops.1)
