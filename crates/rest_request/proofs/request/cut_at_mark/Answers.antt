use Rattle.std.proofs.Common.{arith}
use Rattle.std.proofs.lemmas.Str.Pattern.{split_parts}
use Rattle.rest_request.proofs.CutLemmas.{cut-parts}
use Rattle.rest_request.proofs.request.cut_at_mark.Goals as goal

pub returns : goal.returns
returns c = cut-parts 63 c.args.target.now c.split_once.result (split_parts 63 c.args.target.now c.split_once.result c.split_once.ensures.cases (omega arith))
