use Rattle.std.proofs.Common.{◌≡◌, ◌∙◌, ◌-◌, length, get_or, ap, sym, arith}
use Rattle.std.specs.Cmp.Lexicographic.{slice_cmp}
use Rattle.std.specs.Ordering.{nat_cmp}
use Rattle.std.specs.declared.cmp.Ordering.TheVariants.{Less}
use Rattle.std.proofs.lemmas.Map.Lookups.{exact_bytes}
use Rattle.synthetic_source.specs.declared.groups.Group.{Group}
use Rattle.synthetic_source.proofs.Search.{less_before, place_ok, place_err}
use Rattle.synthetic_source.proofs.groups.find_group.Goals as goal

pub returns-in-Less : goal.returns-in-Less
returns-in-Less c =
    let name = λ (g : Group). g.name.now in
    let last : slice_cmp nat_cmp (get_or c.args.groups.now (length c.args.groups.now - 1) c.index-groups-count.result).name.now c.args.name.now ≡ Less = ap (λ g. slice_cmp nat_cmp g.name.now c.args.name.now) (sym c.index-groups-count.is) ∙ sym c.in-Less.ensures in
    sym (place_err name c.args.name.now c.args.groups.now _ (omega arith)
    (λ k d below. less_before name c.args.name.now c.args.groups.now _ c.index-groups-count.result c.requires (omega arith) last k d (omega arith))
    (λ k d above below. absurd (omega arith)))

pub returns-in-Equal : goal.returns-in-Equal
returns-in-Equal c =
    let name = λ (g : Group). g.name.now in
    sym (place_ok name c.args.name.now c.args.groups.now _ c.index-groups-count.result c.requires (omega arith) (exact_bytes _ _ (ap (λ g. slice_cmp nat_cmp g.name.now c.args.name.now) (sym c.index-groups-count.is) ∙ sym c.in-Equal.ensures)))
