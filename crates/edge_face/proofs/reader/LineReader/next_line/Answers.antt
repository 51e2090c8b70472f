use Rattle.std.proofs.Common.{◌∙◌, arith}
use Rattle.edge_face.proofs.ReadingLemmas.{takes_line}
use Rattle.edge_face.proofs.reader.LineReader.next_line.Goals as goal

pub returns-clause-line : goal.returns-clause-line
returns-clause-line g c =
    takes_line _ c.in_ok-piece.piece c.args.self.now c.find_line.new.self c.pass.new.self _ _ c.find_line.ensures.kept c.find_line.ensures.grew c.find_line.ensures.counted c.find_line.ensures.stays c.in_ok-piece.ensures.found (omega arith) (c.in_ok-line.ensures ∙ c.line.ensures) c.pass.ensures
