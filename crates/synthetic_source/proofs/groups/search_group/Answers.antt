use Rattle.std.proofs.Common.{◌∙◌, ap, sym, arith}
use Rattle.std.specs.Cmp.Lexicographic.{slice_cmp}
use Rattle.std.specs.Ordering.{nat_cmp}
use Rattle.std.proofs.lemmas.Map.Lookups.{exact_bytes}
use Rattle.synthetic_source.specs.declared.groups.Group.{Group}
use Rattle.synthetic_source.proofs.Search.{less_before, greater_after, place_ok, place_err}
use Rattle.synthetic_source.proofs.groups.search_group.Goals as goal

pub search-preserved-in-Less : goal.search-preserved-in-Less
search-preserved-in-Less c =
    let name = λ (f : Group). f.name.now in
    record {
      within = c.search.invariant.within;
      ordered = omega arith;
      before = less_before name c.args.name.now c.args.groups.now _ c.index-groups-middle.result c.requires (omega arith) (ap (λ f. slice_cmp nat_cmp f.name.now c.args.name.now) (sym c.index-groups-middle.is) ∙ sym c.in-Less.ensures);
      after = c.search.invariant.after;
    }

pub search-preserved : goal.search-preserved
search-preserved c =
    let name = λ (f : Group). f.name.now in
    record {
      within = omega arith;
      ordered = omega arith;
      before = c.search.invariant.before;
      after = greater_after name c.args.name.now c.args.groups.now _ c.index-groups-middle.result c.requires (ap (λ f. slice_cmp nat_cmp f.name.now c.args.name.now) (sym c.index-groups-middle.is) ∙ sym c.in-Greater.ensures);
    }

pub returns-in-Equal : goal.returns-in-Equal
returns-in-Equal c =
    let name = λ (f : Group). f.name.now in
    sym ((place_ok name c.args.name.now c.args.groups.now _ c.index-groups-middle.result c.requires (omega arith) (exact_bytes _ _ (ap (λ f. slice_cmp nat_cmp f.name.now c.args.name.now) (sym c.index-groups-middle.is) ∙ sym c.in-Equal.ensures))))

pub returns : goal.returns
returns c =
    let name = λ (f : Group). f.name.now in
    sym ((place_err name c.args.name.now c.args.groups.now c.search.low (omega arith) c.search.invariant.before (λ k d above below. c.search.invariant.after k d (omega arith) below)))
