use Rattle.std.proofs.Common.{◌≡◌, ◌∙◌, ap, sym, subst, refl, Some}
use Rattle.std.specs.BTreeMap.{get}
use Rattle.std.specs.Cmp.Lexicographic.{slice_cmp}
use Rattle.std.specs.Option.{IsSome, option_copied_mut}
use Rattle.std.specs.Ordering.{nat_cmp}
use Rattle.fold_law.specs.Rises.{join_present_rises}
use Rattle.histogram_aggs.specs.Rises.{rise_held, rise_where}
use Rattle.histogram_aggs.proofs.RiseSteps.{series_put}
use Rattle.histogram_aggs.proofs.rises.put_known.Goals as goal

pub returns-in_ok-put_rise-in-Some-clause-known : goal.returns-in_ok-put_rise-in-Some-clause-known
returns-in_ok-put_rise-in-Some-clause-known c is k p =
    let key = c.args.key.now in
    let old = get (slice_cmp nat_cmp) c.args.rises.now in
    let after = c.put_rise.new.series in
    let had : old key ≡ Some c.in-Some.series.now = sym c.get_mut.ensures.value ∙ ap (λ o. option_copied_mut o) c.in-Some.is in
    let put = ((c.get_mut.follows.holds after).3 (subst (λ o. IsSome o) (sym had) refl)).0 in
    series_put old (get (slice_cmp nat_cmp) (c.get_mut.follows.lender after)) (rise_where c.args.at c.args.rise) key after
    (λ q. c.in_ok-put_rise-in-Some.ensures q ∙ ap (λ o. join_present_rises (rise_where c.args.at c.args.rise q) (rise_held o q)) (sym had)) put k p
