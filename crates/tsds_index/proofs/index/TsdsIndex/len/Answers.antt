use Rattle.std.proofs.Common.{ap, sym, ◌∙◌, length}
use Rattle.tsds_index.specs.Kept.{spread_of}
use Rattle.tsds_index.specs.Spread.{Spread, rows_of}
use Rattle.tsds_index.proofs.Answered.{rows_length}
use Rattle.tsds_index.proofs.index.TsdsIndex.len.Goals as goal

pub returns : goal.returns
returns c =
    c.self.invariant.counted
    ∙ (sym (rows_length (spread_of c.self.inside.schema c.self.inside.shards.items)) ∙ ap (λ (h : Spread). length (rows_of h)) c.self.view_is)
