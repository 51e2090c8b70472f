use Rattle.search_filter.proofs.SplitMatches.{split_matches}
use Rattle.search_filter.proofs.laws.splits_match.Goals as goal

pub returns : goal.returns
returns c = split_matches
