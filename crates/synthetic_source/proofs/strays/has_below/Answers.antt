use Rattle.std.proofs.Common.{◌∙◌, ap, sym, arith}
use Rattle.std.specs.Ordering.{is_eq}
use Rattle.ts_mapping.specs.Paths.{is_below}
use Rattle.synthetic_source.specs.Sides.{side}
use Rattle.synthetic_source.proofs.Near.{any_at, none_beside, below_side, sides_before, sides_after}
use Rattle.synthetic_source.proofs.Search.{fields_rise}
use Rattle.synthetic_source.proofs.strays.has_below.Goals as goal

pub search-preserved-in-Less : goal.search-preserved-in-Less
search-preserved-in-Less c = record {
  within = c.search.invariant.within;
  ordered = omega arith;
  before = sides_before c.args.path.now c.args.fields.now _ _ (fields_rise c.args.fields.now c.requires) (omega arith) (ap (λ x. side x c.args.path.now) (sym c.as_bytes.ensures) ∙ sym c.in-Less.ensures);
  after = c.search.invariant.after;
}

pub search-preserved : goal.search-preserved
search-preserved c = record {
  within = omega arith;
  ordered = omega arith;
  before = c.search.invariant.before;
  after = sides_after c.args.path.now c.args.fields.now _ _ (fields_rise c.args.fields.now c.requires) (ap (λ x. side x c.args.path.now) (sym c.as_bytes.ensures) ∙ sym c.in-Greater.ensures);
}

pub returns-in-Equal : goal.returns-in-Equal
returns-in-Equal c =
    sym (any_at (λ f. is_below f.path c.args.path.now) c.args.fields.now _ _ (omega arith)
    (below_side _ c.args.path.now ∙ ap is_eq (ap (λ x. side x c.args.path.now) (sym c.as_bytes.ensures) ∙ sym c.in-Equal.ensures)))

pub returns : goal.returns
returns c = sym (none_beside c.args.path.now c.args.fields.now c.search.low c.search.invariant.before (λ k d above lt. c.search.invariant.after k d (omega arith) lt))
