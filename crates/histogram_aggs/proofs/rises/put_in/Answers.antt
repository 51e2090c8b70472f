use Rattle.std.proofs.Common.{◌≡◌, ◌∙◌, ap, subst, List, ℕ, Some, Ok, cond}
use Rattle.std.specs.BTreeMap.{get}
use Rattle.std.specs.Cmp.Lexicographic.{slice_cmp}
use Rattle.std.specs.Ordering.{is_eq, nat_cmp}
use Rattle.histogram_aggs.specs.Rises.{rise_where}
use Rattle.histogram_aggs.proofs.RiseSteps.{first_told, series_put}
use Rattle.histogram_aggs.proofs.rises.put_in.Goals as goal

pub returns : goal.returns
returns c k p =
    let key = c.args.key.now in
    let old = get (slice_cmp nat_cmp) c.args.rises.now in
    let series = c.in_ok-series.series in
    let missing = c.in_ok-put_known.ensures.missing (ap Ok c.if-branch.false) in
    let put = subst (λ (z : List ℕ). (u : List ℕ) → get (slice_cmp nat_cmp) c.insert.new.self u ≡ cond (is_eq (slice_cmp nat_cmp z u)) (Some series) (get (slice_cmp nat_cmp) c.put_known.new.rises u)) c.in_ok-copied.ensures c.in_ok-insert.ensures.updates.0 in
    series_put old (get (slice_cmp nat_cmp) c.insert.new.self) (rise_where c.args.at c.args.rise) key series
    (first_told (old key) series (rise_where c.args.at c.args.rise) missing.0 c.in_ok-series.ensures)
    (λ u. put u ∙ ap (λ o. cond (is_eq (slice_cmp nat_cmp key u)) (Some series) o) (missing.1 u)) k p
