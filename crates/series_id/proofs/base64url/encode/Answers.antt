use Rattle.std.proofs.Common.{◌∙◌}
use Rattle.series_id.specs.Ids.{base64url}
use Rattle.series_id.proofs.base64url.encode.Goals as goal

pub returns : goal.returns
unfolding base64url
returns c = c.from_string.ensures ∙ c.in_ok-text.ensures.text
