use Rattle.std.proofs.Common.{◌≡◌, ◌∙◌, ℕ, ◌+◌, ◌-◌, ◌≤◌, ◌++◌, List, length, take, ap, arith, rules}
use Rattle.std.specs.List.{slice_range}
use Rattle.edge_face.specs.Waiting.{Waiting}
use Rattle.edge_face.specs.RangeLaws.{slice_range-more}
use Rattle.edge_face.proofs.WindowLemmas.{slice_range-same, length-slice_range, grew, grew-nothing, NoNewlineBelow-append}
use Rattle.edge_face.proofs.window.Window.fill.Goals as goal

-- the bytes that waited still stand where they were moved to
still : (now moved before : List ℕ) (value : List ℕ) (i j i' j' : ℕ) → i' ≤ j' → take j' now ≡ take j' moved → slice_range moved i' j' ≡ slice_range before i j → slice_range before i j ≡ value → slice_range now i' j' ≡ value
still now moved before value i j i' j' order kept same is = slice_range-same now moved i' j' order kept ∙ same ∙ is

-- and what was taken stands behind them
then_more : (now value : List ℕ) (i j n : ℕ) → i ≤ j → slice_range now i j ≡ value → slice_range now i (j + n) ≡ value ++ slice_range now j (j + n)
then_more now value i j n order is = slice_range-more now i j n order ∙ ap (λ l. l ++ slice_range now j (j + n)) is

pub returns-in_err-taken-clause-grew : goal.returns-in_err-taken-clause-grew
returns-in_err-taken-clause-grew g c =
    let span = c.room_behind-span.result in
    let is = still c.take_after.new.buffer.items c.room_behind-span.new.buffer.items c.self.inside.buffer.items c.args.self.now.bytes c.self.inside.start c.self.inside.end span.start span.end (omega (arith, c.room_behind-span.ensures.span)) c.take_after.ensures.kept c.room_behind-span.ensures.same (ap (λ v. v.bytes) c.self.view_is) in
    grew-nothing c.args.self.now.bytes _ _ _ is c.in_err-taken.ensures.failed

pub returns-in_err-taken-clause-failed : goal.returns-in_err-taken-clause-failed
returns-in_err-taken-clause-failed g c =
    let span = c.room_behind-span.result in
    let is = still c.take_after.new.buffer.items c.room_behind-span.new.buffer.items c.self.inside.buffer.items c.args.self.now.bytes c.self.inside.start c.self.inside.end span.start span.end (omega (arith, c.room_behind-span.ensures.span)) c.take_after.ensures.kept c.room_behind-span.ensures.same (ap (λ v. v.bytes) c.self.view_is) in
    let capacity : length c.take_after.new.buffer.items ≡ length c.self.inside.buffer.items = c.take_after.ensures.len ∙ c.room_behind-span.ensures.len in
    let same : ◌≡◌ {A = Waiting} (record { bytes = slice_range c.take_after.new.buffer.items span.start span.end; ended = c.self.inside.ended; capacity = length c.take_after.new.buffer.items }) c.args.self.now =
    ap (λ l. record { bytes = l; ended = c.self.inside.ended; capacity = length c.take_after.new.buffer.items }) is ∙ ap (λ n. record { bytes = c.args.self.now.bytes; ended = c.self.inside.ended; capacity = n }) capacity ∙ ap (λ (v : Waiting). record { bytes = c.args.self.now.bytes; ended = v.ended; capacity = v.capacity }) c.self.view_is in
    search (rules, same)

pub invariant_of-self-2 : goal.invariant_of-self-2
invariant_of-self-2 g c =
    let span = c.room_behind-span.result in
    let n = c.in_ok-taken.taken in
    let w = c.self.inside in
    let inv = c.self.invariant in
    let order : span.start ≤ span.end = omega (arith, c.room_behind-span.ensures.span) in
    let kept = still c.take_after.new.buffer.items c.room_behind-span.new.buffer.items w.buffer.items (slice_range w.buffer.items w.start w.end) w.start w.end span.start span.end order c.take_after.ensures.kept c.room_behind-span.ensures.same (λ _. slice_range w.buffer.items w.start w.end) in
    let spans : length (slice_range w.buffer.items w.start w.end) ≡ w.end - w.start = length-slice_range w.buffer.items w.start w.end inv.0 inv.1 in
    let bounds : w.start + w.scanned ≤ w.end = inv.2 in
    let scanned : w.scanned ≤ length (slice_range w.buffer.items w.start w.end) = omega arith in (
      omega arith,
      omega (arith, c.in_ok-taken.ensures.within, c.take_after.ensures.len),
      omega (arith, c.room_behind-span.ensures.span, inv.2),
      NoNewlineBelow-append w.scanned (slice_range w.buffer.items w.start w.end) _ _ scanned (then_more c.take_after.new.buffer.items _ span.start span.end n order kept) inv.3,
    )

pub returns-clause-grew : goal.returns-clause-grew
returns-clause-grew g c =
    let span = c.room_behind-span.result in
    let order : span.start ≤ span.end = omega (arith, c.room_behind-span.ensures.span) in
    let is = still c.take_after.new.buffer.items c.room_behind-span.new.buffer.items c.self.inside.buffer.items c.args.self.now.bytes c.self.inside.start c.self.inside.end span.start span.end order c.take_after.ensures.kept c.room_behind-span.ensures.same (ap (λ v. v.bytes) c.self.view_is) in
    grew c.args.self.now.bytes _ _ _ _ (then_more c.take_after.new.buffer.items c.args.self.now.bytes span.start span.end c.in_ok-taken.taken order is) c.in_ok-taken.ensures.taken

pub returns-clause-same : goal.returns-clause-same
returns-clause-same g c =
    let span = c.room_behind-span.result in
    let order : span.start ≤ span.end = omega (arith, c.room_behind-span.ensures.span) in
    let is = still c.take_after.new.buffer.items c.room_behind-span.new.buffer.items c.self.inside.buffer.items c.args.self.now.bytes c.self.inside.start c.self.inside.end span.start span.end order c.take_after.ensures.kept c.room_behind-span.ensures.same (ap (λ v. v.bytes) c.self.view_is) in
    λ none. let zero : c.in_ok-taken.taken ≡ 0 = cc in
    let end_is : span.end + c.in_ok-taken.taken ≡ span.end = omega arith in
    ap (slice_range c.take_after.new.buffer.items span.start) end_is ∙ is
