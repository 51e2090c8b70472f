use Rattle.column_pack.specs.Laws.Words.{bytes-all}
use Rattle.column_pack.specs.Laws.Checks.{no-iff}
use Rattle.column_pack.specs.Laws.Layouts.{spare-none, spare-some}
use Rattle.column_pack.proofs.reading.has_spare.Goals as goal

pub returns : goal.returns
returns c = spare-some c.args.bytes.now c.args.bits (bytes-all c.args.bytes.now c.type_inv.bytes) c.requires c.if-used-eq0.false

pub returns-then-used-eq0 : goal.returns-then-used-eq0
returns-then-used-eq0 c = no-iff (spare-none c.args.bytes.now c.args.bits (bytes-all c.args.bytes.now c.type_inv.bytes) c.requires c.if-used-eq0.true)
