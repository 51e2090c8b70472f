use Rattle.std.proofs.Common.{◌∙◌, ap, arith, ℕ, List, length}
use Rattle.column_block.specs.HeldParts.{IsPartsColumn}
use Rattle.column_block.specs.Presence.{ones, flags_in, present}
use Rattle.column_block.specs.Spelling.{six_lists}
use Rattle.column_block.proofs.Aheads.{flags-known, long-enough, count-to}
use Rattle.column_block.proofs.parts_column.PartsColumn.count_to.Goals as goal

pub count_before-requires-clause-long : goal.count_before-requires-clause-long
count_before-requires-clause-long c =
    let i = c.self.inside in
    let h : IsPartsColumn i.rows i.bytes.items i.places i.counts.items c.args.self.now = rw (← c.self.view_is) c.self.invariant in
    omega (arith, long-enough i.bytes.items c.args.self.now (six_lists (present c.args.self.now)) h.spelled, h.length_is, ap (λ (z : List ℕ). length z) c.as_slice.ensures.value)

pub returns-clause-count : goal.returns-clause-count
returns-clause-count c =
    let i = c.self.inside in
    let vs = c.args.self.now in
    let h : IsPartsColumn i.rows i.bytes.items i.places i.counts.items vs = rw (← c.self.view_is) c.self.invariant in
    c.count_before.ensures.count ∙ ap (λ z. ones (flags_in c.args.row z)) c.as_slice.ensures.value
    ∙ count-to i.rows c.args.row i.bytes.items vs h.length_is (flags-known i.rows i.bytes.items vs (six_lists (present vs)) h.length_is h.spelled) (omega (arith, c.requires, h.length_is))
