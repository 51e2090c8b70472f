use Rattle.std.proofs.Common.{arith}
use Rattle.std.proofs.lemmas.Str.Pattern.{split_parts}
use Rattle.rest_request.proofs.CutLemmas.{cut-parts}
use Rattle.rest_request.proofs.path.cut_at_slash.Goals as goal

pub returns : goal.returns
returns c = cut-parts 47 c.args.text.now c.split_once.result (split_parts 47 c.args.text.now c.split_once.result c.split_once.ensures.cases (omega arith))
