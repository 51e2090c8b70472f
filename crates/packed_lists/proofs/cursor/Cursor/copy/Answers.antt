use Rattle.std.proofs.Common.{◌≡◌, ◌∙◌, ◌≤◌, ◌++◌, ◌/◌, sym, subst, arith, ap}
use Rattle.std.specs.Prelude.{slice_range}
use Rattle.std.proofs.lemmas.List.{append_assoc, append-nil}
use Rattle.packed_lists.specs.Packing.{IsReadBy}
use Rattle.packed_lists.specs.Laws.Decodes.{values_at-is}
use Rattle.packed_lists.specs.Laws.Placing.{range-on, range-none}
use Rattle.packed_lists.proofs.Loading.{block-there, loaded-part, loaded-cached}
use Rattle.packed_lists.proofs.cursor.Cursor.copy.Goals as goal

pub loop-at-init : goal.loop-at-init
loop-at-init c = record {
  order = omega arith;
  within = c.requires.order;
  read = subst (IsReadBy c.self.inside.bytes.now c.self.inside.places.now c.self.inside.len c.self.inside.cache) c.self.view_is c.self.invariant;
  numbers = sym (append-nil c.args.into.now) ∙ ap (λ z. c.args.into.now ++ z) (sym (range-none c.args.self.now c.args.from));
}

pub load-requires-clause-list : goal.load-requires-clause-list
load-requires-clause-list c = (c.args.self.now, c.loop-at.invariant.read.placed, c.loop-at.invariant.read.cached)

pub load-requires-clause-within : goal.load-requires-clause-within
load-requires-clause-within c = block-there c.loop-at.self-inside.bytes.now c.loop-at.self-inside.places.now c.args.self.now c.loop-at.at c.loop-at.invariant.read.placed (omega (arith, c.loop-at-test.true, c.requires.within))

pub loop-at-preserved : goal.loop-at-preserved
loop-at-preserved c =
    let vs = c.args.self.now in
    let at = c.loop-at.at in
    let end = c.leave-end.result in
    let i = c.loop-at.invariant in
    let up : at ≤ end = omega (arith, c.leave-end.ensures, c.loop-at-test.true) in
    let h = c.load.ensures vs i.read.placed i.read.cached in
    record {
      order = omega (arith, up, i.order);
      within = omega (arith, c.leave-end.ensures);
      read = record { placed = i.read.placed; count = i.read.count; cached = loaded-cached vs (at / 128) c.load.new.cache h };
      numbers =
          c.in_ok-extend.ensures
          ∙ ap (λ z. c.loop-at.into ++ z) (loaded-part vs (at / 128) at end c.load.new.cache h (omega arith) up (omega (arith, c.leave-end.ensures)) (omega (arith, c.leave-end.ensures, c.requires.within)))
          ∙ ap (λ z. z ++ slice_range vs at end) i.numbers
          ∙ append_assoc c.args.into.now (slice_range vs c.args.from at) (slice_range vs at end)
          ∙ ap (λ z. c.args.into.now ++ z) (sym (range-on vs c.args.from at end i.order up));
    }

pub invariant_of-self : goal.invariant_of-self
invariant_of-self c = let r = c.loop-at.invariant.read in subst (IsReadBy _ _ _ _) (sym (values_at-is _ _ c.args.self.now r.placed)) r

pub invariant_of-self-in_err-extend : goal.invariant_of-self-in_err-extend
invariant_of-self-in_err-extend c =
    let vs = c.args.self.now in
    let r = c.loop-at.invariant.read in
    let h = c.load.ensures vs r.placed r.cached in
    let now : IsReadBy c.loop-at.self-inside.bytes.now c.loop-at.self-inside.places.now c.loop-at.self-inside.len c.load.new.cache vs = record { placed = r.placed; count = r.count; cached = loaded-cached vs (c.loop-at.at / 128) c.load.new.cache h } in
    subst (IsReadBy c.loop-at.self-inside.bytes.now c.loop-at.self-inside.places.now c.loop-at.self-inside.len c.load.new.cache) (sym (values_at-is _ _ vs r.placed)) now

pub returns-in_err-extend-clause-same : goal.returns-in_err-extend-clause-same
returns-in_err-extend-clause-same c = values_at-is _ _ c.args.self.now c.loop-at.invariant.read.placed

pub returns-clause-numbers : goal.returns-clause-numbers
returns-clause-numbers c =
    let i = c.loop-at.invariant in
    let e : c.loop-at.at ≡ c.args.to = omega (arith, i.within, c.loop-at-test.false) in
    i.numbers ∙ ap (λ z. c.args.into.now ++ slice_range c.args.self.now c.args.from z) e

pub returns-clause-same : goal.returns-clause-same
returns-clause-same c = values_at-is _ _ c.args.self.now c.loop-at.invariant.read.placed
