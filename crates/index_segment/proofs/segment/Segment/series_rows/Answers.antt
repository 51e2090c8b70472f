use Rattle.std.specs.Prelude.{[], ◌+◌, ◌<◌, ◌^◌, ◌≡◌, length, slice_index_or}
use Rattle.std.proofs.Common.{arith, ap, subst, sym, ◌∙◌, get_or}
use Rattle.index_segment.specs.Directory.{keys_of, row_keys, sizes_of, total}
use Rattle.index_segment.specs.Held.{Held}
use Rattle.index_segment.specs.Order.{Stands}
use Rattle.index_segment.proofs.Lent.{series_some, stands_at, start_is, starts_count}
use Rattle.index_segment.proofs.Places.{starts_few}
use Rattle.index_segment.proofs.segment.Segment.series_rows.Goals as goal

pub between_starts-requires-clause-there : goal.between_starts-requires-clause-there
between_starts-requires-clause-there c =
    let less = subst (λ (h : Held). c.args.series < length (keys_of h.rows)) (sym c.self.view_is) c.requires in
    omega (arith, less, starts_count _ _ _ _ _ _ _ _ c.self.invariant, ap length c.as_slice.ensures)

pub between_starts-requires-clause-few : goal.between_starts-requires-clause-few
between_starts-requires-clause-few c = subst (λ starts. length starts < 2 ^ 33) (sym c.as_slice.ensures) (starts_few _ _ _ _ _ _ _ _ c.self.invariant)

pub returns-clause-first : goal.returns-clause-first
returns-clause-first c =
    let less = subst (λ (h : Held). c.args.series < length (keys_of h.rows)) (sym c.self.view_is) c.requires in
    c.between_starts.ensures.first ∙ (ap (λ xs. get_or xs c.args.series 0) c.as_slice.ensures
    ∙ (start_is _ _ _ _ _ _ _ _ c.self.invariant c.args.series (omega (arith, less)) ∙ ap (λ (h : Held). total c.args.series (sizes_of h.rows)) c.self.view_is))

pub returns-clause-last : goal.returns-clause-last
returns-clause-last c =
    let less = subst (λ (h : Held). c.args.series < length (keys_of h.rows)) (sym c.self.view_is) c.requires in
    c.between_starts.ensures.last ∙ (ap (λ xs. get_or xs (c.args.series + 1) 0) c.as_slice.ensures
    ∙ (start_is _ _ _ _ _ _ _ _ c.self.invariant (c.args.series + 1) (omega (arith, less)) ∙ ap (λ (h : Held). total (c.args.series + 1) (sizes_of h.rows)) c.self.view_is))

pub returns-clause-some : goal.returns-clause-some
returns-clause-some c =
    let rows = c.args.self.now.rows in
    let first : c.between_starts.result.first ≡ total c.args.series (sizes_of rows) = returns-clause-first c in
    let last : c.between_starts.result.last ≡ total (c.args.series + 1) (sizes_of rows) = returns-clause-last c in
    omega (arith, first, last, series_some rows c.args.series c.requires)

pub returns-clause-stands : goal.returns-clause-stands
returns-clause-stands c =
    let n = c.args.series in
    let rows = c.args.self.now.rows in
    let less = subst (λ (h : Held). n < length (keys_of h.rows)) (sym c.self.view_is) c.requires in
    let there = subst (λ (h : Held). Stands (row_keys h.rows) (slice_index_or (keys_of h.rows) n []) (total n (sizes_of h.rows)) (total (n + 1) (sizes_of h.rows))) c.self.view_is (stands_at _ _ _ _ _ _ _ _ c.self.invariant n less) in
    subst (λ a. Stands (row_keys rows) (slice_index_or (keys_of rows) n []) a c.between_starts.result.last) (sym (returns-clause-first c))
    (subst (λ b. Stands (row_keys rows) (slice_index_or (keys_of rows) n []) (total n (sizes_of rows)) b) (sym (returns-clause-last c)) there)
