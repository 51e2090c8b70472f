use Rattle.std.specs.Prelude.{◌+◌, ◌<◌, ◌≤◌, ◌≡◌, ◌^◌, ◌++◌, List, [], length, map, slice_index_or, slice_range, OnOk}
use Rattle.std.proofs.Common.{arith, ap, rules, subst, sym, ◌∙◌}
use Rattle.column_block.specs.Ranges.{rows_between}
use Rattle.row_cells.specs.Heads.{heads_in}
use Rattle.row_cells.specs.declared.rows.Row.{Row}
use Rattle.index_segment.specs.Directory.{keys_of, sizes_of, total}
use Rattle.index_segment.specs.Held.{Held, rows_held}
use Rattle.index_segment.specs.Spelling.{counts_of, times_of}
use Rattle.index_segment.proofs.Lent.{last_among, parts_same, piece_is, rows_few}
use Rattle.index_segment.proofs.Places.{heads_same}
use Rattle.index_segment.proofs.segment.Segment.push_piece.Goals as goal

pub overflow_cast-to : goal.overflow_cast-to
overflow_cast-to c =
    let n = c.args.series in
    let less = subst (λ (h : Held). n < length (keys_of h.rows)) (sym c.self.view_is) c.requires.there in
    let last = subst (λ (h : Held). c.args.to ≤ total (n + 1) (sizes_of h.rows)) (sym c.self.view_is) c.requires.last in
    omega (arith, last, last_among _ _ _ _ _ _ _ _ c.self.invariant n less, rows_few _ _ _ _ _ _ _ _ c.self.invariant)

pub overflow_cast-from : goal.overflow_cast-from
overflow_cast-from c =
    let n = c.args.series in
    let less = subst (λ (h : Held). n < length (keys_of h.rows)) (sym c.self.view_is) c.requires.there in
    let last = subst (λ (h : Held). c.args.to ≤ total (n + 1) (sizes_of h.rows)) (sym c.self.view_is) c.requires.last in
    omega (arith, last, c.requires.order, last_among _ _ _ _ _ _ _ _ c.self.invariant n less, rows_few _ _ _ _ _ _ _ _ c.self.invariant)

pub push_rows-requires-clause-same : goal.push_rows-requires-clause-same
push_rows-requires-clause-same c =
    let n = c.args.series in
    let s = c.self.inside in
    let rows = rows_held s.schema s.keys s.sizes s.times s.counts s.columns in
    heads_same s.schema (slice_index_or (keys_of rows) n []) c.as_slice-3.result.now c.as_slice-2.result.now
    (c.as_slice-3.ensures ∙ (c.in_ok-heads.ensures ∙ ap (λ (h : Held). heads_in h.schema.fields (slice_index_or (keys_of h.rows) n [])) (sym c.self.view_is)))
    (c.as_slice-2.ensures ∙ c.in_ok-forms.ensures)

pub push_rows-requires-clause-few : goal.push_rows-requires-clause-few
push_rows-requires-clause-few c =
    let heads_few : length c.as_slice-3.result.now < 2 ^ 60 = search rules in
    let n = c.args.series in
    let s = c.self.inside in
    let rows = rows_held s.schema s.keys s.sizes s.times s.counts s.columns in
    let same = heads_same s.schema (slice_index_or (keys_of rows) n []) c.as_slice-3.result.now c.as_slice-2.result.now
    (c.as_slice-3.ensures ∙ (c.in_ok-heads.ensures ∙ ap (λ (h : Held). heads_in h.schema.fields (slice_index_or (keys_of h.rows) n [])) (sym c.self.view_is)))
    (c.as_slice-2.ensures ∙ c.in_ok-forms.ensures) in
    omega (arith, heads_few, same)

pub push_rows-requires-clause-counted : goal.push_rows-requires-clause-counted
push_rows-requires-clause-counted c =
    let times = c.as_slice-4.ensures.value ∙ (c.in_ok-times.ensures ∙ ap (λ (h : Held). slice_range (times_of h.rows) c.args.from c.args.to) (sym c.self.view_is) ∙ sym (ap (λ ts. slice_range ts c.args.from c.args.to) c.self.invariant.times_are)) in
    let counts = c.as_slice-5.ensures.value ∙ (c.in_ok-counts.ensures ∙ ap (λ (h : Held). slice_range (counts_of h.rows) c.args.from c.args.to) (sym c.self.view_is) ∙ sym (ap (λ ts. slice_range ts c.args.from c.args.to) c.self.invariant.counts_are)) in
    parts_same _ _ _ _ _ _ _ _ c.self.invariant c.args.from c.args.to c.as_slice-4.result.now c.as_slice-5.result.now times counts

pub returns : goal.returns
returns c =
    let n = c.args.series in
    let s = c.self.inside in
    let rows = rows_held s.schema s.keys s.sizes s.times s.counts s.columns in
    let from = c.args.from in
    let to = c.args.to in
    let less = subst (λ (h : Held). n < length (keys_of h.rows)) (sym c.self.view_is) c.requires.there in
    let first = subst (λ (h : Held). total n (sizes_of h.rows) ≤ from) (sym c.self.view_is) c.requires.first in
    let last = subst (λ (h : Held). to ≤ total (n + 1) (sizes_of h.rows)) (sym c.self.view_is) c.requires.last in
    let key = c.key_at.ensures ∙ ap (λ (h : Held). slice_index_or (keys_of h.rows) n []) (sym c.self.view_is) in
    let heads = c.as_slice-3.ensures ∙ (c.in_ok-heads.ensures ∙ ap (λ (h : Held). heads_in h.schema.fields (slice_index_or (keys_of h.rows) n [])) (sym c.self.view_is)) in
    let heads_here = heads ∙ ap (heads_in s.schema.fields) (sym key) in
    let forms = c.as_slice-2.ensures ∙ c.in_ok-forms.ensures in
    let columns = c.as_slice-6.ensures ∙ (c.in_ok-columns.ensures ∙ ap (map (rows_between from to)) c.as_slice.ensures) in
    let times = c.as_slice-4.ensures.value ∙ (c.in_ok-times.ensures ∙ ap (λ (h : Held). slice_range (times_of h.rows) from to) (sym c.self.view_is) ∙ sym (ap (λ ts. slice_range ts from to) c.self.invariant.times_are)) in
    let counts = c.as_slice-5.ensures.value ∙ (c.in_ok-counts.ensures ∙ ap (λ (h : Held). slice_range (counts_of h.rows) from to) (sym c.self.view_is) ∙ sym (ap (λ ts. slice_range ts from to) c.self.invariant.counts_are)) in
    let made = piece_is _ _ _ _ _ _ _ _ c.self.invariant n from to c.key_at.result.now c.as_slice-2.result.now c.as_slice-3.result.now c.as_slice-6.result.now c.as_slice-4.result.now c.as_slice-5.result.now less first last key forms heads_here columns times counts in
    let whole = made ∙ ap (λ (h : Held). slice_range h.rows from to) c.self.view_is in
    subst (λ (part : List Row). OnOk c.push_rows.result (c.push_rows.new.into.items ≡ c.args.into.now.items ++ part)) whole c.push_rows.ensures
