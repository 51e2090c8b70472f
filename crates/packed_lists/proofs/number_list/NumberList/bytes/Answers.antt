use Rattle.packed_lists.specs.Laws.Fronts.{one-nums}
use Rattle.packed_lists.proofs.number_list.NumberList.bytes.Goals as goal

pub returns-clause-one : goal.returns-clause-one
returns-clause-one c = λ nums h. one-nums c.args.self.now c.as_slice.result.now nums (rw (c.as_slice.ensures.value, ← c.self.view_is) c.self.invariant.spelled) h
