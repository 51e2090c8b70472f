use Rattle.std.proofs.Common.{List, ℤ, pos, slice_index_or, ◌≤◌, ◌^◌, ◌*◌, ◌-◌, length, refl, ap, arith, sym, subst, w64, to_z, of_z, ◌∙◌}
use Rattle.std.specs.Int.{div_ceil}
use Rattle.std.specs.List.{position}
use Rattle.std.proofs.Math.Facts.{to_z-of_z}
use Rattle.index_segment.specs.Directory.{row_keys}
use Rattle.index_segment.specs.Held.{Held, rows_held}
use Rattle.index_segment.specs.Looks.{is_at}
use Rattle.index_segment.specs.Order.{Stands}
use Rattle.index_segment.proofs.Finding.{find_cost, find_found, find_none, none_at}
use Rattle.index_segment.proofs.Places.{last_within, times_fall}
use Rattle.index_segment.proofs.segment.Segment.find.Goals as goal

pub returns-in_err-series-clause-found : goal.returns-in_err-series-clause-found
returns-in_err-series-clause-found g c = c.from_residual.ensures ∙ sym (none_at c.args.self.now.rows c.args.key.now c.args.time (c.in_err-series.ensures.none refl))

pub cut_at-place-requires-clause-within : goal.cut_at-place-requires-clause-within
cut_at-place-requires-clause-within g c = rw c.cursor-times.ensures (last_within _ _ _ _ _ _ _ _ c.self.invariant c.args.key.now c.in_ok-series.series.first c.in_ok-series.series.last (subst (λ (h : Held). Stands (row_keys h.rows) c.args.key.now c.in_ok-series.series.first c.in_ok-series.series.last) (sym c.self.view_is) c.in_ok-series.ensures.some))

pub cut_at-place-requires-clause-falling : goal.cut_at-place-requires-clause-falling
cut_at-place-requires-clause-falling g c = rw c.cursor-times.ensures (times_fall _ _ _ _ _ _ _ _ c.self.invariant c.args.key.now c.in_ok-series.series.first c.in_ok-series.series.last (subst (λ (h : Held). Stands (row_keys h.rows) c.args.key.now c.in_ok-series.series.first c.in_ok-series.series.last) (sym c.self.view_is) c.in_ok-series.ensures.some))

pub returns-then-place-series-clause-found : goal.returns-then-place-series-clause-found
returns-then-place-series-clause-found g c =
    let s = subst (λ (h : Held). Stands (row_keys h.rows) c.args.key.now c.in_ok-series.series.first c.in_ok-series.series.last) (sym c.self.view_is) c.in_ok-series.ensures.some in
    let i = c.self.inside in
    let cut = c.cut_at-place.ensures in
    find_none _ _ _ _ _ _ _ _ c.self.invariant c.args.key.now (to_z w64 (of_z w64 c.args.time)) c.in_ok-series.series.first c.in_ok-series.series.last c.cut_at-place.result s cut.low cut.high (rw c.cursor-times.ensures at cut.before) (rw c.cursor-times.ensures at cut.behind) (λ some same. absurd (omega (arith, some, c.if-place-series.true)))
    ∙ (ap (λ t. position (is_at c.args.key.now t) (rows_held i.schema i.keys i.sizes i.times i.counts i.columns)) (to_z-of_z {w = w64} c.ranges.time) ∙ ap (λ (h : Held). position (is_at c.args.key.now c.args.time) h.rows) c.self.view_is)

pub returns-then-at-time-clause-found : goal.returns-then-at-time-clause-found
returns-then-at-time-clause-found g c =
    let s = subst (λ (h : Held). Stands (row_keys h.rows) c.args.key.now c.in_ok-series.series.first c.in_ok-series.series.last) (sym c.self.view_is) c.in_ok-series.ensures.some in
    let i = c.self.inside in
    let cut = c.cut_at-place.ensures in
    find_found _ _ _ _ _ _ _ _ c.self.invariant c.args.key.now (to_z w64 (of_z w64 c.args.time)) c.in_ok-series.series.first c.in_ok-series.series.last c.cut_at-place.result s cut.low c.if-place-series.false cut.high (sym (c.at.ensures.number ∙ ap (λ (ts : List ℤ). slice_index_or ts (c.cut_at-place.result - 1) (pos 0)) (cut.same ∙ c.cursor-times.ensures)) ∙ (sym (to_z-of_z {w = w64} {z = c.at.result} (record { sfits = c.at.type_inv })) ∙ ap (to_z w64) c.if-at-time.true))
    ∙ (ap (λ t. position (is_at c.args.key.now t) (rows_held i.schema i.keys i.sizes i.times i.counts i.columns)) (to_z-of_z {w = w64} c.ranges.time) ∙ ap (λ (h : Held). position (is_at c.args.key.now c.args.time) h.rows) c.self.view_is)

pub returns-then-at-time-clause-cost : goal.returns-then-at-time-clause-cost
returns-then-at-time-clause-cost g c =
    subst (λ (h : Held). 1 ≤ div_ceil (length h.rows) 128 → 2 ^ (c.cut_at-place.new.steps - c.args.steps.now) ≤ 4 * div_ceil (length h.rows) 128) c.self.view_is
    (find_cost _ _ _ _ _ _ _ _ c.self.invariant c.args.key.now c.args.time c.in_ok-series.series.first c.in_ok-series.series.last c.cut_at-place.result (subst (λ (h : Held). Stands (row_keys h.rows) c.args.key.now c.in_ok-series.series.first c.in_ok-series.series.last) (sym c.self.view_is) c.in_ok-series.ensures.some) (2 ^ (c.cut_at-place.new.steps - c.args.steps.now)) (rw c.cursor-times.ensures at c.cut_at-place.ensures.cost))

pub returns-else-at-time-clause-found : goal.returns-else-at-time-clause-found
returns-else-at-time-clause-found g c =
    let s = subst (λ (h : Held). Stands (row_keys h.rows) c.args.key.now c.in_ok-series.series.first c.in_ok-series.series.last) (sym c.self.view_is) c.in_ok-series.ensures.some in
    let i = c.self.inside in
    let cut = c.cut_at-place.ensures in
    find_none _ _ _ _ _ _ _ _ c.self.invariant c.args.key.now (to_z w64 (of_z w64 c.args.time)) c.in_ok-series.series.first c.in_ok-series.series.last c.cut_at-place.result s cut.low cut.high (rw c.cursor-times.ensures at cut.before) (rw c.cursor-times.ensures at cut.behind) (λ some same. c.if-at-time.false (ap (of_z w64) ((c.at.ensures.number ∙ ap (λ (ts : List ℤ). slice_index_or ts (c.cut_at-place.result - 1) (pos 0)) (cut.same ∙ c.cursor-times.ensures)) ∙ (same ∙ to_z-of_z {w = w64} c.ranges.time))))
    ∙ (ap (λ t. position (is_at c.args.key.now t) (rows_held i.schema i.keys i.sizes i.times i.counts i.columns)) (to_z-of_z {w = w64} c.ranges.time) ∙ ap (λ (h : Held). position (is_at c.args.key.now c.args.time) h.rows) c.self.view_is)

pub returns-else-at-time-clause-cost : goal.returns-else-at-time-clause-cost
returns-else-at-time-clause-cost g c =
    subst (λ (h : Held). 1 ≤ div_ceil (length h.rows) 128 → 2 ^ (c.cut_at-place.new.steps - c.args.steps.now) ≤ 4 * div_ceil (length h.rows) 128) c.self.view_is
    (find_cost _ _ _ _ _ _ _ _ c.self.invariant c.args.key.now c.args.time c.in_ok-series.series.first c.in_ok-series.series.last c.cut_at-place.result (subst (λ (h : Held). Stands (row_keys h.rows) c.args.key.now c.in_ok-series.series.first c.in_ok-series.series.last) (sym c.self.view_is) c.in_ok-series.ensures.some) (2 ^ (c.cut_at-place.new.steps - c.args.steps.now)) (rw c.cursor-times.ensures at c.cut_at-place.ensures.cost))

pub returns-then-place-series-clause-cost : goal.returns-then-place-series-clause-cost
returns-then-place-series-clause-cost g c =
    subst (λ (h : Held). 1 ≤ div_ceil (length h.rows) 128 → 2 ^ (c.cut_at-place.new.steps - c.args.steps.now) ≤ 4 * div_ceil (length h.rows) 128) c.self.view_is
    (find_cost _ _ _ _ _ _ _ _ c.self.invariant c.args.key.now c.args.time c.in_ok-series.series.first c.in_ok-series.series.last c.cut_at-place.result (subst (λ (h : Held). Stands (row_keys h.rows) c.args.key.now c.in_ok-series.series.first c.in_ok-series.series.last) (sym c.self.view_is) c.in_ok-series.ensures.some) (2 ^ (c.cut_at-place.new.steps - c.args.steps.now)) (rw c.cursor-times.ensures at c.cut_at-place.ensures.cost))
