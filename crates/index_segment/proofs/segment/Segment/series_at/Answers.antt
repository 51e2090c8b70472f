use Rattle.std.specs.Prelude.{◌+◌, ◌-◌, ◌<◌, ◌≤◌, length}
use Rattle.std.proofs.Common.{arith, ap, subst, sym, get_or}
use Rattle.index_segment.specs.Directory.{keys_of, sizes_of, total}
use Rattle.index_segment.specs.Held.{Held, rows_held}
use Rattle.index_segment.proofs.Lent.{first_start, last_start, series_there, start_is, starts_count}
use Rattle.index_segment.proofs.segment.Segment.series_at.Goals as goal

pub last_start-requires-clause-some : goal.last_start-requires-clause-some
last_start-requires-clause-some c =
    let s = c.self.inside in
    let rows = rows_held s.schema s.keys s.sizes s.times s.counts s.columns in
    let less = subst (λ (h : Held). c.args.place < length h.rows) (sym c.self.view_is) c.requires in
    omega (arith, series_there rows c.args.place less, starts_count _ _ _ _ _ _ _ _ c.self.invariant, ap length c.as_slice.ensures)

pub last_start-requires-clause-first : goal.last_start-requires-clause-first
last_start-requires-clause-first c = omega (arith, ap (λ xs. get_or xs 0 0) c.as_slice.ensures, first_start _ _ _ _ _ _ _ _ c.self.invariant)

pub last_start-requires-clause-last : goal.last_start-requires-clause-last
last_start-requires-clause-last c =
    let less = subst (λ (h : Held). c.args.place < length h.rows) (sym c.self.view_is) c.requires in
    omega (arith, less, ap (λ xs. get_or xs (length xs - 1) 0) c.as_slice.ensures, last_start _ _ _ _ _ _ _ _ c.self.invariant)

pub returns-clause-within : goal.returns-clause-within
returns-clause-within c = subst (λ (h : Held). c.last_start.result < length (keys_of h.rows)) c.self.view_is
    (omega (arith, c.last_start.ensures.within, ap length c.as_slice.ensures, starts_count _ _ _ _ _ _ _ _ c.self.invariant))

pub returns-clause-before : goal.returns-clause-before
returns-clause-before c =
    let n = c.last_start.result in
    subst (λ (h : Held). total n (sizes_of h.rows) ≤ c.args.place) c.self.view_is
    (omega (arith, c.last_start.ensures.before, ap (λ xs. get_or xs n 0) c.as_slice.ensures, start_is _ _ _ _ _ _ _ _ c.self.invariant n (omega (arith, c.last_start.ensures.within, ap length c.as_slice.ensures, starts_count _ _ _ _ _ _ _ _ c.self.invariant))))

pub returns-clause-behind : goal.returns-clause-behind
returns-clause-behind c =
    let n = c.last_start.result in
    subst (λ (h : Held). c.args.place < total (n + 1) (sizes_of h.rows)) c.self.view_is
    (omega (arith, c.last_start.ensures.behind, ap (λ xs. get_or xs (n + 1) 0) c.as_slice.ensures, start_is _ _ _ _ _ _ _ _ c.self.invariant (n + 1) (omega (arith, c.last_start.ensures.within, ap length c.as_slice.ensures, starts_count _ _ _ _ _ _ _ _ c.self.invariant))))
