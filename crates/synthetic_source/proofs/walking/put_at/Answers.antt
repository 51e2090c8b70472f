use Rattle.std.proofs.Common.{sym, arith}
use Rattle.serde_json.specs.View.{view}
use Rattle.synthetic_source.specs.Walked.{seen_walk}
use Rattle.synthetic_source.proofs.Leaves.{place_below, put_there}
use Rattle.synthetic_source.proofs.OneWalk.{held_put}
use Rattle.synthetic_source.proofs.Search.{fields_rise}
use Rattle.synthetic_source.proofs.walking.put_at.Goals as goal

pub index_mut-requires : goal.index_mut-requires
index_mut-requires c = omega (arith, place_below c.args.path.now c.args.fields.now c.in-Some.at (sym c.in-Some.ensures), c.requires.long)

pub returns-in_ok-put_leaf-in-Some-clause-held : goal.returns-in_ok-put_leaf-in-Some-clause-held
returns-in_ok-put_leaf-in-Some-clause-held c =
    held_put c.args.strict c.args.fields.now (seen_walk c.args.walk.now) c.args.path.now (view c.args.value.now) c.in-Some.at _ (sym c.in-Some.ensures)
    (put_there c.args.path.now (view c.args.value.now) c.args.fields.now c.args.walk.now.slots.items c.in-Some.at c.index_mut.result.now c.put_leaf.new.slot (fields_rise c.args.fields.now c.requires.ascend) (sym c.in-Some.ensures) c.requires.long c.index_mut.ensures.value c.in_ok-put_leaf-in-Some.ensures)
