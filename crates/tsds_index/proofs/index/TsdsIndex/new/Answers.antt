use Rattle.std.proofs.Common.{List, ap, ◌∙◌}
use Rattle.tsds_index.specs.Spread.{Part, Spread, rows_of}
use Rattle.tsds_index.proofs.Begun.{empty_kept, no_rows_of}
use Rattle.tsds_index.proofs.index.TsdsIndex.new.Goals as goal

pub invariant_of-result : goal.invariant_of-result
invariant_of-result c = empty_kept c.args.schema c.in_ok-made.made.items c.args.shards c.requires.schema c.requires.some c.requires.few c.in_ok-made.ensures.parts c.in_ok-made.ensures.unsealed

pub returns-clause-empty : goal.returns-clause-empty
returns-clause-empty c =
    let of_parts : List Part → Spread = λ ps. record { schema = c.args.schema; parts = ps } in
    ap (λ ps. rows_of (of_parts ps)) c.in_ok-made.ensures.parts ∙ no_rows_of c.args.schema c.args.shards
