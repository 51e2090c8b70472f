use Rattle.std.proofs.Common.{◌≡◌, ◌∙◌, ap, sym, drop, take, ◌++◌}
use Rattle.std.proofs.lemmas.List.{take-append-drop}
use Rattle.packed_lists.specs.Lists.{Fronted}
use Rattle.column_block.specs.Cutting.{AreRows}
use Rattle.column_block.proofs.list_rows.ListRows.bytes.Goals as goal

pub returns : goal.returns
returns c =
    let i = c.self.inside in
    let h : AreRows i.front i.rows i.bytes.items i.sizes.items i.numbers.items i.starts.items c.args.self.now.lists = rw (← c.self.view_is) c.self.invariant in
    let front : take i.front i.bytes.items ≡ c.args.self.now.front = ap (λ (v : Fronted). v.front) c.self.view_is in
    (drop i.front i.bytes.items, h.spelled, c.as_slice.ensures.value ∙ sym (take-append-drop i.front i.bytes.items) ∙ ap (λ z. z ++ drop i.front i.bytes.items) front)
