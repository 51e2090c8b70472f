use Rattle.std.proofs.Common.{ap, sym, ◌∙◌, Some}
use Rattle.row_cells.specs.declared.scalars.Scalar.TheVariants.{Word}
use Rattle.row_cells.proofs.Reading.{word_read, word_unread}
use Rattle.row_cells.proofs.entries.read_word.Goals as goal

pub returns-in-Ok-clause-is : goal.returns-in-Ok-clause-is
returns-in-Ok-clause-is c = word_read c.args.bytes.now c.in_ok-piece.piece.text.now c.in_ok-piece.piece.rest.now c.in_ok-piece.ensures.is c.in-Ok.ensures.cases.1 ∙ ap (λ t. Some (Word t, c.in_ok-piece.piece.rest.now)) (sym c.in-Ok.ensures.cases.0)

pub returns-in-Err-clause-is : goal.returns-in-Err-clause-is
returns-in-Err-clause-is c = word_unread c.args.bytes.now c.in_ok-piece.piece.text.now c.in_ok-piece.piece.rest.now c.in_ok-piece.ensures.is c.in-Err.ensures.cases.0
