use Rattle.std.proofs.Common.{◌≡◌, refl, ap, sym, w64, to_z, of_z, ◌∙◌, []}
use Rattle.std.proofs.Math.Facts.{to_z-of_z}
use Rattle.index_segment.specs.Looks.{gauge_of, rows_within}
use Rattle.index_segment.proofs.segment.Segment.gauge.Goals as goal

pub returns-in_default : goal.returns-in_default
returns-in_default c =
    let rows = c.args.self.now.rows in
    let none : rows_within c.args.key.now (to_z w64 (of_z w64 c.args.from)) (to_z w64 (of_z w64 c.args.to)) rows ≡ [] = c.in_default.ensures.none refl in
    ap (gauge_of c.args.field) (sym none
    ∙ (ap (λ f. rows_within c.args.key.now f (to_z w64 (of_z w64 c.args.to)) rows) (to_z-of_z {w = w64} c.ranges.from)
    ∙ ap (λ t. rows_within c.args.key.now c.args.from t rows) (to_z-of_z {w = w64} c.ranges.to)))

pub gauge_between-requires-clause-order : goal.gauge_between-requires-clause-order
gauge_between-requires-clause-order c = c.in-Some.ensures.some.ordered

pub gauge_between-requires-clause-within : goal.gauge_between-requires-clause-within
gauge_between-requires-clause-within c = c.in-Some.ensures.some.inside

pub returns : goal.returns
returns c =
    let rows = c.args.self.now.rows in
    c.gauge_between.ensures
    ∙ (ap (gauge_of c.args.field) (sym c.in-Some.ensures.some.same)
    ∙ (ap (λ f. gauge_of c.args.field (rows_within c.args.key.now f (to_z w64 (of_z w64 c.args.to)) rows)) (to_z-of_z {w = w64} c.ranges.from)
    ∙ ap (λ t. gauge_of c.args.field (rows_within c.args.key.now c.args.from t rows)) (to_z-of_z {w = w64} c.ranges.to)))
