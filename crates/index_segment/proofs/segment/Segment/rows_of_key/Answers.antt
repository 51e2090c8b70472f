use Rattle.std.specs.Prelude.{[]}
use Rattle.std.proofs.Common.{refl, subst}
use Rattle.std.proofs.lemmas.Option.{get_or_from_slice_get, slice_get_within}
use Rattle.index_segment.specs.Directory.{keys_of, row_keys}
use Rattle.index_segment.specs.Order.{Stands}
use Rattle.index_segment.proofs.Series.{key_index}
use Rattle.index_segment.proofs.segment.Segment.rows_of_key.Goals as goal

pub returns-in_err-series-clause-none : goal.returns-in_err-series-clause-none
returns-in_err-series-clause-none c none = key_index c.args.self.now.rows c.args.key.now (c.in_err-series.ensures.none refl)

pub series_rows-requires : goal.series_rows-requires
series_rows-requires c = slice_get_within (keys_of c.args.self.now.rows) c.in_ok-series.series c.args.key.now c.in_ok-series.ensures.some

pub returns-clause-some : goal.returns-clause-some
returns-clause-some c = subst (λ k. Stands (row_keys c.args.self.now.rows) k c.series_rows.result.first c.series_rows.result.last) (get_or_from_slice_get (keys_of c.args.self.now.rows) c.in_ok-series.series c.args.key.now [] c.in_ok-series.ensures.some) c.series_rows.ensures.stands
