use Rattle.std.proofs.Common.{List, [], ◌∷◌, Option, ℕ, ◌≡◌, ap, arith, refl, length, sym, subst}
use Rattle.std.specs.Option.{option_copied}
use Rattle.tsds_index.specs.declared.shard.Shard.{Shard}
use Rattle.tsds_index.specs.Shards.{part_of, parts_of}
use Rattle.tsds_index.specs.Spread.{all_rows, rows_in}
use Rattle.tsds_index.proofs.Nexts.{LookedAt, look_begun, look_ended, look_more}
use Rattle.tsds_index.proofs.shards.next_of.Goals as goal

pub loop-shard-init : goal.loop-shard-init
loop-shard-init c = look_begun (option_copied c.args.before) (all_rows (parts_of c.args.shards.now))

pub loop-shard-preserved : goal.loop-shard-preserved
loop-shard-preserved c =
    let before = option_copied c.args.before in
    let rest = all_rows (parts_of c.in-Some.rest.now) in
    subst (λ (n : Option (List ℕ)). LookedAt before (all_rows (parts_of c.args.shards.now)) n rest) (sym c.lesser-lower.ensures)
    (look_more before (all_rows (parts_of c.args.shards.now)) (rows_in (part_of c.in-Some.shard.now)) (all_rows (parts_of c.loop-shard.left.now)) rest (option_copied c.loop-shard.least) (option_copied c.key_behind-next.result)
    (ap (λ (ss : List Shard). all_rows (parts_of ss)) c.in-Some.ensures.cases.0) c.key_behind-next.ensures c.loop-shard.invariant)

none_left : (left : List Shard) → length left ≡ 0 → all_rows (parts_of left) ≡ []
none_left [] is = refl
none_left (x ∷ xs) is = absurd (omega (arith, is))

pub returns : goal.returns
returns c = look_ended (option_copied c.args.before) (all_rows (parts_of c.args.shards.now)) (all_rows (parts_of c.loop-shard.left.now)) (option_copied c.loop-shard.least) (none_left c.loop-shard.left.now c.in_default.ensures.cases) c.loop-shard.invariant
