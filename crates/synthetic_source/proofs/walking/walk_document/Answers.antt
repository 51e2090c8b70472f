use Rattle.std.proofs.Common.{sym, subst}
use Rattle.synthetic_source.specs.Fronts.{IsKnown, path_at}
use Rattle.synthetic_source.proofs.walking.walk_document.Goals as goal

pub walk_value-requires-clause-known : goal.walk_value-requires-clause-known
walk_value-requires-clause-known c = subst (λ xs. IsKnown c.args.strict c.args.fields.now (path_at xs) c.new.result) (sym c.in_ok-place.ensures.items) (c.new.ensures.known c.args.strict c.args.fields.now)
