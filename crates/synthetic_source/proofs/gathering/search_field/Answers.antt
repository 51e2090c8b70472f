use Rattle.std.proofs.Common.{◌∙◌, ap, sym, arith}
use Rattle.std.specs.Cmp.Lexicographic.{slice_cmp}
use Rattle.std.specs.Ordering.{nat_cmp}
use Rattle.std.proofs.lemmas.Map.Lookups.{exact_bytes}
use Rattle.row_cells.specs.declared.schemas.Field.{Field}
use Rattle.synthetic_source.specs.Places.{found_if}
use Rattle.synthetic_source.proofs.Search.{fields_rise, less_before, greater_after, place_ok, place_err}
use Rattle.synthetic_source.proofs.gathering.search_field.Goals as goal

pub search-preserved-in-Less : goal.search-preserved-in-Less
search-preserved-in-Less c =
    let path = λ (f : Field). f.path in
    record {
      within = c.search.invariant.within;
      ordered = omega arith;
      before = less_before path c.args.path.now c.args.fields.now _ c.index-fields-middle.result (fields_rise c.args.fields.now c.requires) (omega arith) (ap (λ f. slice_cmp nat_cmp f.path c.args.path.now) (sym c.index-fields-middle.is) ∙ sym c.in-Less.ensures);
      after = c.search.invariant.after;
    }

pub search-preserved : goal.search-preserved
search-preserved c =
    let path = λ (f : Field). f.path in
    record {
      within = omega arith;
      ordered = omega arith;
      before = c.search.invariant.before;
      after = greater_after path c.args.path.now c.args.fields.now _ c.index-fields-middle.result (fields_rise c.args.fields.now c.requires) (ap (λ f. slice_cmp nat_cmp f.path c.args.path.now) (sym c.index-fields-middle.is) ∙ sym c.in-Greater.ensures);
    }

pub returns-in-Equal : goal.returns-in-Equal
returns-in-Equal c =
    let path = λ (f : Field). f.path in
    sym (ap (λ p. found_if p.found p.at) (place_ok path c.args.path.now c.args.fields.now _ c.index-fields-middle.result (fields_rise c.args.fields.now c.requires) (omega arith) (exact_bytes _ _ (ap (λ f. slice_cmp nat_cmp f.path c.args.path.now) (sym c.index-fields-middle.is) ∙ sym c.in-Equal.ensures))))

pub returns : goal.returns
returns c =
    let path = λ (f : Field). f.path in
    sym (ap (λ p. found_if p.found p.at) (place_err path c.args.path.now c.args.fields.now c.search.low (omega arith) c.search.invariant.before (λ k d above below. c.search.invariant.after k d (omega arith) below)))
