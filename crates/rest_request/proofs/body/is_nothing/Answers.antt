use Rattle.std.proofs.Common.{◌∙◌, ap}
use Rattle.rest_request.specs.Bytes.{is_none_or_braces}
use Rattle.rest_request.proofs.Braces.{nothing_is}
use Rattle.rest_request.proofs.body.is_nothing.Goals as goal

pub returns : goal.returns
returns c = c.is_none_or_braces.ensures ∙ (ap is_none_or_braces c.behind_spaces.ensures ∙ nothing_is c.args.body.now)
