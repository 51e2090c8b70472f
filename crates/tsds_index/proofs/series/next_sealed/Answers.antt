use Rattle.std.proofs.Common.{List, [], ◌∷◌, Option, ℕ, ◌≡◌, arith, refl, length, sym, subst}
use Rattle.std.specs.Option.{option_copied}
use Rattle.index_segment.specs.Held.{Held}
use Rattle.tsds_index.specs.Segments.{lists_in}
use Rattle.tsds_index.specs.Spread.{newest_first}
use Rattle.tsds_index.proofs.Looked.{newest_is}
use Rattle.tsds_index.proofs.Nexts.{LookedAt, look_begun, look_ended, look_more, next_held}
use Rattle.tsds_index.proofs.series.next_sealed.Goals as goal

pub loop-segment-init : goal.loop-segment-init
loop-segment-init c = look_begun (option_copied c.args.before) (newest_first (lists_in c.args.segments.now))

pub loop-segment-preserved : goal.loop-segment-preserved
loop-segment-preserved c =
    let before = option_copied c.args.before in
    let rest = newest_first (lists_in c.in-Some.older.now) in
    subst (λ (n : Option (List ℕ)). LookedAt before (newest_first (lists_in c.args.segments.now)) n rest) (sym c.lesser-lower.ensures)
    (look_more before (newest_first (lists_in c.args.segments.now)) c.in-Some.segment.now.rows (newest_first (lists_in c.loop-segment.left.now)) rest (option_copied c.loop-segment.least) (option_copied c.key_in-next.result)
    (newest_is c.loop-segment.left.now c.in-Some.older.now c.in-Some.segment.now c.in-Some.ensures.cases.0)
    (next_held before c.in-Some.segment.now.rows (option_copied c.key_in-next.result) c.schema-schema.ensures.rows.in_order c.key_in-next.ensures) c.loop-segment.invariant)

none_left : (left : List Held) → length left ≡ 0 → newest_first (lists_in left) ≡ []
none_left [] is = refl
none_left (x ∷ xs) is = absurd (omega (arith, is))

pub returns : goal.returns
returns c = look_ended (option_copied c.args.before) (newest_first (lists_in c.args.segments.now)) (newest_first (lists_in c.loop-segment.left.now)) (option_copied c.loop-segment.least) (none_left c.loop-segment.left.now c.in_default.ensures.cases) c.loop-segment.invariant
