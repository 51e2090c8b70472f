use Rattle.std.proofs.Common.{map, subst}
use Rattle.synthetic_source.specs.Gathered.{AreReadAs, slot_leaves}
use Rattle.synthetic_source.proofs.Documents.{faulty_within}
use Rattle.synthetic_source.proofs.typing.settle.Goals as goal

pub decide-requires : goal.decide-requires
decide-requires c = faulty_within c.args.fields.now (map slot_leaves c.as_slice.result.now) c.in_ok-cells.cells c.in_ok-cells.ensures

pub returns : goal.returns
returns c = record {
  cells = c.in_ok-cells.cells;
  stray = c.in_ok-stray.stray;
  least = c.in_ok-stray.ensures;
  read = subst (λ xs. AreReadAs c.args.fields.now (map slot_leaves xs) c.in_ok-cells.cells) c.as_slice.ensures.value c.in_ok-cells.ensures;
  decided = c.decide.ensures;
}
