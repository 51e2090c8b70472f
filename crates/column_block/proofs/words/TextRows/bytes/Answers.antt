use Rattle.column_block.specs.Worded.{AreWords}
use Rattle.column_block.proofs.Wording.{words-bytes}
use Rattle.column_block.proofs.words.TextRows.bytes.Goals as goal

pub returns : goal.returns
returns c =
    let i = c.self.inside in
    let h : AreWords i.texts.items i.rows c.args.self.now = rw (← c.self.view_is) c.self.invariant in
    words-bytes i.texts.items i.rows c.args.self.now c.bytes.result.now h c.bytes.ensures
