use Rattle.std.proofs.Common.{rules}
use Rattle.std.proofs.lemmas.Fn.{filter_same}
use Rattle.stream_catalog.proofs.by_name.keep_where.Goals as goal

pub returns : goal.returns
returns g c = filter_same _ _ _ (λ x b f' k. search rules) _ _ c.retain.ensures.filtered
