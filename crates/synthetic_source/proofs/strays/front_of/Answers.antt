use Rattle.std.proofs.Common.{◌∙◌, sym, arith}
use Rattle.ts_mapping.specs.Paths.{is_below}
use Rattle.ts_mapping.specs.PathLaws.{some_below}
use Rattle.synthetic_source.specs.Gathered.{paths_of}
use Rattle.synthetic_source.proofs.Fronts.{none_above}
use Rattle.synthetic_source.proofs.Near.{any_paths}
use Rattle.synthetic_source.proofs.strays.front_of.Goals as goal

pub returns-then-end-clear-clause-above : goal.returns-then-end-clear-clause-above
returns-then-end-clear-clause-above c =
    sym (none_above c.args.fields.now c.args.path.now c.args.clear c.requires.fields c.requires.clear (omega (arith, c.min-end.ensures, c.if-end-clear.true)))

pub returns-then-has_field-clause-above : goal.returns-then-has_field-clause-above
returns-then-has_field-clause-above c =
    let place = c.loop-place.place in
    sym (some_below c.args.path.now place (paths_of c.args.fields.now) (omega arith) c.if-path-place-eq46.true (sym c.has_field.ensures ∙ c.if-has_field.true)) ∙ any_paths (is_below c.args.path.now) c.args.fields.now

pub returns-clause-above : goal.returns-clause-above
returns-clause-above c =
    sym (none_above c.args.fields.now c.args.path.now c.loop-place.place c.requires.fields c.loop-place.invariant (omega (arith, c.min-end.ensures, c.loop-place-test.false)))
