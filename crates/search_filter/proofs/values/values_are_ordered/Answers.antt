use Rattle.search_filter.specs.ValueLaws.{value_cmp_total, value_tied}
use Rattle.search_filter.proofs.values.values_are_ordered.Goals as goal

pub returns-clause-total : goal.returns-clause-total
returns-clause-total c = value_cmp_total

pub returns-clause-tells : goal.returns-clause-tells
returns-clause-tells c = value_tied
