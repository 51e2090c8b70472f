use Rattle.std.proofs.Common.{◌∙◌}
use Rattle.column_block.specs.Worded.{AreWords}
use Rattle.column_block.proofs.Wording.{climb-range, values-are}
use Rattle.column_block.proofs.words.TextRows.values.Goals as goal

pub copy_rows-requires : goal.copy_rows-requires
copy_rows-requires c =
    let i = c.self.inside in
    let h : AreWords i.texts.items i.rows c.args.self.now = rw (← c.self.view_is) c.self.invariant in
    climb-range i.texts.items c.as_slice.result.now i.rows c.args.self.now c.as_slice-2.result.now c.in_ok-places.places c.args.from c.args.to h c.as_slice.ensures.value c.as_slice-2.ensures c.in_ok-places.ensures

pub returns : goal.returns
returns c =
    let i = c.self.inside in
    c.in_ok-lists.ensures ∙ values-are i.texts.items c.as_slice.result.now i.rows.lists c.as_slice-2.result.now c.in_ok-places.places c.args.self.now c.args.from c.args.to c.as_slice.ensures.value c.as_slice-2.ensures c.in_ok-places.ensures c.self.view_is
