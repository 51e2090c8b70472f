use Rattle.search_filter.proofs.SplitKeys.{rest_by_head, rest_by_key}
use Rattle.search_filter.proofs.laws.rests_go_by_key.Goals as goal

pub returns-clause-keys : goal.returns-clause-keys
returns-clause-keys c = rest_by_key

pub returns-clause-heads : goal.returns-clause-heads
returns-clause-heads c = rest_by_head
