use Rattle.std.proofs.Common.{◌≡◌, ◌∙◌, ◌<◌, ◌≤◌, ◌++◌, List, ℤ, [], ◌-◌, drop, get_or, set, length, take, sym, subst, ap, arith}
use Rattle.std.proofs.lemmas.List.{get_or_default, set-get_or, append_assoc}
use Rattle.packed_lists.specs.declared.picks.Turn.{Turn}
use Rattle.packed_lists.specs.Packing.{picked, turn_of}
use Rattle.packed_lists.specs.Laws.Picking.{lies-at, picked-more}
use Rattle.packed_lists.proofs.picks.pick.Goals as goal

abbrev none : Turn
none = record { source = 0; from = 0; to = 0 }

pub bounds-lists-turn : goal.bounds-lists-turn
bounds-lists-turn c = rw c.loop-turn.invariant.same (lies-at c.args.lists.now c.args.turns.now c.loop-turn.turn-index _ c.requires.turns c.loop-turn-test.true).source

pub offset_bounds-lists-turn : goal.offset_bounds-lists-turn
offset_bounds-lists-turn c =
    let lt : (get_or c.args.turns.now c.loop-turn.turn-index none).source < length c.loop-turn.lists = rw c.loop-turn.invariant.same (lies-at c.args.lists.now c.args.turns.now c.loop-turn.turn-index none c.requires.turns c.loop-turn-test.true).source in
    omega (arith, lt, ap (λ (z : List (List ℤ)). length z) c.loop-turn.invariant.same, c.requires.few)

pub copy-requires-clause-order : goal.copy-requires-clause-order
copy-requires-clause-order c = (lies-at c.args.lists.now c.args.turns.now c.loop-turn.turn-index none c.requires.turns c.loop-turn-test.true).order

pub copy-requires-clause-within : goal.copy-requires-clause-within
copy-requires-clause-within c =
    let t = get_or c.args.turns.now c.loop-turn.turn-index none in
    let lies = lies-at c.args.lists.now c.args.turns.now c.loop-turn.turn-index none c.requires.turns c.loop-turn-test.true in
    let same = c.loop-turn.invariant.same in
    let e : get_or c.loop-turn.lists t.source c.index-lists-turn.result ≡ get_or c.args.lists.now t.source [] = ap (λ (z : List (List ℤ)). get_or z t.source c.index-lists-turn.result) same ∙ get_or_default c.args.lists.now t.source c.index-lists-turn.result [] lies.source in
    subst (λ (z : List ℤ). t.to ≤ length z) (sym e) lies.within

pub loop-turn-preserved : goal.loop-turn-preserved
loop-turn-preserved c =
    let k = c.loop-turn.turn-index in
    let turns = c.args.turns.now in
    let lists = c.args.lists.now in
    let t = get_or turns k none in
    let lies = lies-at lists turns k none c.requires.turns c.loop-turn-test.true in
    let same = c.loop-turn.invariant.same in
    let old = get_or c.loop-turn.lists t.source c.index-lists-turn.result in
    let e : old ≡ get_or lists t.source [] = ap (λ (z : List (List ℤ)). get_or z t.source c.index-lists-turn.result) same ∙ get_or_default lists t.source c.index-lists-turn.result [] lies.source in
    let kept : c.copy.new.self ≡ old = c.in_ok-copy.ensures.same in
    record {
      same = ap (set c.loop-turn.lists t.source) kept ∙ set-get_or c.loop-turn.lists t.source c.index-lists-turn.result ∙ same;
      numbers =
          c.in_ok-copy.ensures.numbers
          ∙ ap (λ (z : List ℤ). c.loop-turn.into ++ take (t.to - t.from) (drop t.from z)) e
          ∙ ap (λ z. z ++ turn_of lists t) c.loop-turn.invariant.numbers
          ∙ append_assoc c.args.into.now (picked lists (take k turns)) (turn_of lists t)
          ∙ ap (λ z. c.args.into.now ++ z) (sym (picked-more lists turns k none c.loop-turn-test.true));
    }
