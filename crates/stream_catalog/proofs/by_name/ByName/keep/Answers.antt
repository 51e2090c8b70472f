use Rattle.std.proofs.Common.{subst, sym, map}
use Rattle.downsample_fold.specs.Laws.{KeysAscend}
use Rattle.stream_catalog.proofs.CountLemmas.{ascend_filter}
use Rattle.stream_catalog.proofs.by_name.ByName.keep.Goals as goal

pub invariant_of-self : goal.invariant_of-self
invariant_of-self g c =
    subst (λ xs. KeysAscend (map g.T.Named.name_of xs)) (sym c.keep_where.ensures) (ascend_filter g.T.Named.name_of (g.P.Test.test c.args.test.now) c.self.inside.items.items c.self.invariant)
