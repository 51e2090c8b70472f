use Rattle.std.specs.Prelude.{[]}
use Rattle.std.proofs.Common.{refl, subst, w64, to_z, of_z}
use Rattle.std.proofs.Math.Facts.{to_z-of_z}
use Rattle.std.proofs.lemmas.Option.{get_or_from_slice_get, slice_get_within}
use Rattle.index_segment.specs.Directory.{keys_of}
use Rattle.index_segment.specs.Looks.{IsRange}
use Rattle.index_segment.proofs.Scanned.{none_within}
use Rattle.index_segment.proofs.Series.{key_index}
use Rattle.index_segment.proofs.segment.Segment.range_of_key.Goals as goal

pub returns-in_err-series-clause-none : goal.returns-in_err-series-clause-none
returns-in_err-series-clause-none c none = none_within c.args.self.now.rows c.args.key.now c.args.from c.args.to (key_index c.args.self.now.rows c.args.key.now (c.in_err-series.ensures.none refl))

pub range-requires : goal.range-requires
range-requires c = slice_get_within (keys_of c.args.self.now.rows) c.in_ok-series.series c.args.key.now c.in_ok-series.ensures.some

pub returns-clause-some : goal.returns-clause-some
returns-clause-some c =
    let rows = c.args.self.now.rows in
    let key = c.args.key.now in
    let i = c.range.result.first in
    let j = c.range.result.last in
    subst (λ f. IsRange key f c.args.to rows i j) (to_z-of_z {w = w64} c.ranges.from)
    (subst (λ t. IsRange key (to_z w64 (of_z w64 c.args.from)) t rows i j) (to_z-of_z {w = w64} c.ranges.to)
    (subst (λ k. IsRange k (to_z w64 (of_z w64 c.args.from)) (to_z w64 (of_z w64 c.args.to)) rows i j) (get_or_from_slice_get (keys_of rows) c.in_ok-series.series key [] c.in_ok-series.ensures.some) c.range.ensures.is))
