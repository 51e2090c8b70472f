use Rattle.probe_rows.proofs.FieldLemmas.{agree-of}
use Rattle.probe_rows.proofs.fields.agree.Goals as goal

pub returns : goal.returns
returns c = λ is. agree-of c.args.first.now c.args.second.now (c.all_agree.ensures is)
