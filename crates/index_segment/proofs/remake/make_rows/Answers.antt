use Rattle.std.proofs.Common.{◌≡◌, ◌++◌, ◌<◌, ◌≤◌, ap, arith, subst, length, ◌∙◌, slice_range, []}
use Rattle.std.specs.Prelude.{suc, ◌+◌, IfSome, IsSomeAnd}
use Rattle.std.proofs.lemmas.Option.{slice_get-get_or}
use Rattle.index_segment.specs.Directory.{sizes_of, total}
use Rattle.index_segment.proofs.Remade.{all_made, ordered, take_on, rows_within}
use Rattle.index_segment.proofs.remake.make_rows.Goals as goal

pub returns-then-len-gt-MOST_DOCUMENTS : goal.returns-then-len-gt-MOST_DOCUMENTS
returns-then-len-gt-MOST_DOCUMENTS c rows mapped are parts =
    omega (arith, c.if-len-gt-MOST_DOCUMENTS.true, c.len.ensures, rows_within _ _ _ _ _ _ _ mapped are parts)

pub loop-series-preserved : goal.loop-series-preserved
loop-series-preserved c = record {
  within = subst (λ o. IfSome o (λ next. next ≤ length c.args.parsed.now.times)) c.in-Some.is c.in_ok-next.ensures.next;
  rows = λ rows mapped are parts.
      let l = c.loop-series.invariant.rows rows mapped are parts in
      let s = subst (λ o. IsSomeAnd o (λ next. (next ≡ total (suc c.loop-series.series) (sizes_of rows)) × (c.push_series.new.into.items ≡ c.loop-series.made.items ++ slice_range rows c.loop-series.start next))) c.in-Some.is (c.in_ok-next.ensures.rows rows mapped are parts l.0) in
      let here : c.loop-series.series < length c.args.parsed.now.keys = omega (arith, c.loop-series-test.true, ap length c.as_slice-series-end.ensures) in
      let next : suc c.loop-series.series ≡ c.loop-series.series + 1 = omega arith in
      let order = ordered _ _ _ _ _ _ _ mapped are parts _ _ _ (slice_get-get_or c.args.parsed.now.keys c.loop-series.series [] here) l.0 c.in-Some.next s.0 in
      (s.0 ∙ ap (λ n. total n (sizes_of rows)) next, s.1 ∙ (ap (λ made. made ++ slice_range rows c.loop-series.start c.in-Some.next) l.1 ∙ take_on c.loop-series.start c.in-Some.next rows order));
}

pub returns : goal.returns
returns c rows mapped are parts =
    let l = c.loop-series.invariant.rows rows mapped are parts in
    let whole : c.loop-series.series ≡ length c.args.parsed.now.keys = omega (arith, c.loop-series.auto.series-end, c.loop-series-test.false, ap length c.as_slice-series-end.ensures) in
    all_made _ _ _ _ _ _ _ mapped are parts c.loop-series.series c.loop-series.start c.loop-series.made.items whole l.0 l.1
