use Rattle.std.specs.Prelude.{◌≡◌, ◌++◌, [], slice_index_or, slice_range}
use Rattle.std.proofs.Common.{refl, ap, sym, w64, to_z, of_z, ◌∙◌}
use Rattle.std.proofs.Math.Facts.{to_z-of_z}
use Rattle.std.proofs.lemmas.Option.{get_or_from_slice_get, slice_get_within}
use Rattle.index_segment.specs.Directory.{keys_of}
use Rattle.index_segment.specs.Looks.{rows_within}
use Rattle.index_segment.proofs.Scanned.{none_within}
use Rattle.index_segment.proofs.Series.{key_index}
use Rattle.index_segment.proofs.segment.Segment.scan.Goals as goal

pub returns-in_default : goal.returns-in_default
returns-in_default c = c.new.ensures.items ∙ sym (none_within c.args.self.now.rows c.args.key.now c.args.from c.args.to (key_index c.args.self.now.rows c.args.key.now (c.in_default.ensures.none refl)))

pub range-range-requires : goal.range-range-requires
range-range-requires c = slice_get_within (keys_of c.args.self.now.rows) c.in-Some.series c.args.key.now c.in-Some.ensures.some

pub returns : goal.returns
returns c =
    let rows = c.args.self.now.rows in
    let key = c.args.key.now in
    let same : slice_index_or (keys_of rows) c.in-Some.series [] ≡ key = get_or_from_slice_get (keys_of rows) c.in-Some.series key [] c.in-Some.ensures.some in
    c.in_ok-push_piece.ensures
    ∙ (ap (λ made. made ++ slice_range rows c.range-range.result.first c.range-range.result.last) c.in_ok-rows.ensures.items
    ∙ (sym c.range-range.ensures.is.same
    ∙ (ap (λ k. rows_within k (to_z w64 (of_z w64 c.args.from)) (to_z w64 (of_z w64 c.args.to)) rows) same
    ∙ (ap (λ f. rows_within key f (to_z w64 (of_z w64 c.args.to)) rows) (to_z-of_z {w = w64} c.ranges.from)
    ∙ ap (λ t. rows_within key c.args.from t rows) (to_z-of_z {w = w64} c.ranges.to)))))
