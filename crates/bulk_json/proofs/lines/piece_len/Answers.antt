use Rattle.bulk_json.proofs.BulkLemmas.{piece-to, after-to, piece-whole, after-whole}
use Rattle.bulk_json.proofs.lines.piece_len.Goals as goal

pub returns-in-Some-clause-piece : goal.returns-in-Some-clause-piece
returns-in-Some-clause-piece c = piece-to c.args.bytes.now c.in-Some.at c.in-Some.ensures

pub returns-in-Some-clause-after : goal.returns-in-Some-clause-after
returns-in-Some-clause-after c = after-to c.args.bytes.now c.in-Some.at c.in-Some.ensures

pub returns-in-None-clause-piece : goal.returns-in-None-clause-piece
returns-in-None-clause-piece c = piece-whole c.args.bytes.now c.in-None.ensures

pub returns-in-None-clause-after : goal.returns-in-None-clause-after
returns-in-None-clause-after c = after-whole c.args.bytes.now c.in-None.ensures
