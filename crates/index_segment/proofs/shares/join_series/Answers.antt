use Rattle.std.proofs.Common.{◌++◌, arith, ap, sym, ◌∙◌}
use Rattle.std.proofs.lemmas.List.{append-nil}
use Rattle.index_segment.specs.Joining.{keys_of_joints, rows_of_joints}
use Rattle.index_segment.proofs.Joints.{none_left}
use Rattle.index_segment.proofs.shares.join_series.Goals as goal

pub returns-clause-keys : goal.returns-clause-keys
returns-clause-keys c =
    let keys = c.loop-from.joined.keys in
    let none = none_left c.args.first.keys.now c.args.second.keys.now c.args.first.sizes.now c.args.second.sizes.now c.loop-from.from c.loop-from.from c.loop-from.joined c.loop-from.joined c.requires.same c.requires.same_too (omega arith) c.loop-from.invariant.first_within c.loop-from.invariant.second_within in
    sym (append-nil keys) ∙ (ap (λ js. keys ++ keys_of_joints js) (sym none) ∙ c.loop-from.invariant.keys)

pub returns-clause-rows : goal.returns-clause-rows
returns-clause-rows c =
    let rows = c.loop-from.joined.rows in
    let none = none_left c.args.first.keys.now c.args.second.keys.now c.args.first.sizes.now c.args.second.sizes.now c.loop-from.from c.loop-from.from c.loop-from.joined c.loop-from.joined c.requires.same c.requires.same_too (omega arith) c.loop-from.invariant.first_within c.loop-from.invariant.second_within in
    sym (append-nil rows) ∙ (ap (λ js. rows ++ rows_of_joints js) (sym none) ∙ c.loop-from.invariant.rows)
