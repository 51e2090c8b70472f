use Rattle.std.proofs.Common.{◌∙◌, ap, subst, sym, map}
use Rattle.downsample_fold.specs.Laws.{KeysAscend}
use Rattle.stream_catalog.proofs.MemberLemmas.{names_mapped}
use Rattle.stream_catalog.proofs.by_name.ByName.change_each.Goals as goal

pub invariant_of-self : goal.invariant_of-self
invariant_of-self g c =
    subst KeysAscend (sym (ap (map g.T.Named.name_of) c.change_all.ensures ∙ names_mapped g.T.Named.name_of (g.C.EachChange.each_changed c.args.change.now) c.self.inside.items.items (g.met.C.EachChange.keeps_names c.args.change.now))) c.self.invariant
