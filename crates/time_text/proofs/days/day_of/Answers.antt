use Rattle.std.proofs.Common.{refl, rules}
use Rattle.std.specs.Prelude.{codes}
use Rattle.time_text.specs.ShapeLaws.{digits_shown}
use Rattle.time_text.proofs.days.day_of.Goals as goal

pub number-requires-3-clause-digits : goal.number-requires-3-clause-digits
number-requires-3-clause-digits c = digits_shown (codes "####-##-##") c.args.text.now 8 10 (search rules) refl
