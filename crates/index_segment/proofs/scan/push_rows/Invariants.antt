use Rattle.std.proofs.Common.{◌≡◌, ◌++◌, drop}
use Rattle.index_segment.specs.Held.{series_rows}
use Rattle.index_segment.proofs.scan.push_rows.Given as goal

abbrev pub invariant-loop-place : goal.invariant-loop-place
invariant-loop-place l =
    let key = l.series.key.now in
    let forms = l.series.forms.now in
    let heads = l.series.heads.now in
    l.into.items ++ series_rows key forms heads l.columns l.place (drop l.place l.times) (drop l.place l.counts) ≡ l.initial.into.items ++ series_rows key forms heads l.columns 0 l.times l.counts
