use Rattle.std.proofs.Common.{◌≡◌, drop}
use Rattle.std.specs.Option.{option_copied}
use Rattle.stream_catalog.specs.Names.{template_for}
use Rattle.stream_catalog.proofs.choosing.template_for.Given as goal

abbrev pub invariant-loop-at : goal.invariant-loop-at
invariant-loop-at l = option_copied l.best ≡ template_for l.name (drop l.at l.templates)
