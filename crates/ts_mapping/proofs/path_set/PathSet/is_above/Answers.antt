use Rattle.std.proofs.Common.{sym, ◌∙◌, arith}
use Rattle.ts_mapping.specs.PathLaws.{none_below, some_below}
use Rattle.ts_mapping.proofs.path_set.PathSet.is_above.Goals as goal

pub returns-then-has : goal.returns-then-has
returns-then-has c =
    let place = c.loop-place.place in
    sym (some_below c.args.path.now place c.args.self.now (omega arith) c.if-byte-eq46.true (sym c.has.ensures ∙ c.if-has.true))

pub returns : goal.returns
returns c = sym (none_below c.args.path.now c.args.self.now (λ k lt dot. c.loop-place.invariant k (omega arith) dot))
