use Rattle.std.proofs.Common.{rules, ◌≡◌, ◌∙◌, sym, List, [], ◌∷◌, ℕ, ℤ, None}
use Rattle.std.specs.BTreeMap.{get}
use Rattle.std.specs.Cmp.Lexicographic.{slice_cmp}
use Rattle.std.specs.Ordering.{nat_cmp}
use Rattle.fold_law.specs.Rises.{join_present_rises}
use Rattle.histogram_aggs.specs.Rises.{rise_held, rise_in}
use Rattle.histogram_aggs.proofs.RiseSteps.{none_joins, none_stands, one_stands, rises_joined}
use Rattle.histogram_aggs.proofs.rises.offer_rise.Goals as goal

pub returns-in_default : goal.returns-in_default
returns-in_default c xs stands =
    let old = λ (k : List ℕ) (p : ℤ × ℤ). rise_held (get (slice_cmp nat_cmp) c.args.rises.now k) p in
    rises_joined c.args.place old (λ k p. None) old xs (record { start = c.args.window.now.start; row = c.args.row.now } ∷ []) (none_joins old) stands
    (none_stands c.args.place (record { start = c.args.window.now.start; row = c.args.row.now }) (sym c.in_default.is ∙ c.row_rise.ensures))

pub returns : goal.returns
returns c xs stands =
    let old = λ (k : List ℕ) (p : ℤ × ℤ). rise_held (get (slice_cmp nat_cmp) c.args.rises.now k) p in
    let new = λ (k : List ℕ) (p : ℤ × ℤ). rise_held (get (slice_cmp nat_cmp) c.put_in.new.rises k) p in
    let put : (k : List ℕ) (p : ℤ × ℤ) → new k p ≡ join_present_rises (rise_in c.args.row.now.key (c.args.window.now.start, c.args.row.now.time) c.in-Some.rise k p) (old k p) = search rules in
    rises_joined c.args.place old (rise_in c.args.row.now.key (c.args.window.now.start, c.args.row.now.time) c.in-Some.rise) new xs (record { start = c.args.window.now.start; row = c.args.row.now } ∷ []) put stands
    (one_stands c.args.place (record { start = c.args.window.now.start; row = c.args.row.now }) c.in-Some.rise (sym c.in-Some.is ∙ c.row_rise.ensures))
