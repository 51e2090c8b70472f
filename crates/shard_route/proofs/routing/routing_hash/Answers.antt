use Rattle.std.proofs.Common.{◌∙◌, sym, rules}
use Rattle.row_cells.specs.Heads.{scalar_of}
use Rattle.shard_route.specs.Routing.{routing_paths}
use Rattle.shard_route.proofs.Walks.{walk_on_kept, walk_on_passed, walk_done, not_absent}
use Rattle.shard_route.proofs.routing.routing_hash.Goals as goal
use Rattle.shard_route.proofs.routing.routing_hash.Goals.{then-look, else-look}

pub loop-entry-preserved : goal.loop-entry-preserved
loop-entry-preserved c =
    let left = routing_paths c.args.fields.now c.loop-entry.left.now in
    let left' = routing_paths c.args.fields.now c.look_for-look.result.left.now in
    let all = routing_paths c.args.fields.now c.args.places.now in
    let entry = c.in-Some.entry in
    let looked = c.look_for-look.ensures.looked in
    elim c.if-look.branch [
      | then-look w ↦
          record {
            ascend = looked.ascend;
            walked = λ ds are spelled. walk_on_kept left left' all c.loop-entry.hash c.if-look.hash c.loop-entry.rest.now entry.path.now entry.bytes.now entry.rest.now (scalar_of entry.value) ds c.in-Some.ensures.reads c.in-Some.ensures.shorter looked (sym c.look_for-look.ensures.routes ∙ w.if-look.true) (w.hash-is ∙ w.hash_on-hash.ensures) (c.loop-entry.invariant.walked ds are spelled);
          }
      | else-look w ↦
          record {
            ascend = looked.ascend;
            walked = λ ds are spelled. walk_on_passed left left' all c.loop-entry.hash c.if-look.hash c.loop-entry.rest.now entry.path.now entry.bytes.now entry.rest.now (scalar_of entry.value) ds c.in-Some.ensures.reads c.in-Some.ensures.shorter looked (sym c.look_for-look.ensures.routes ∙ w.if-look.false) w.hash-is (c.loop-entry.invariant.walked ds are spelled);
          }
    ]

pub returns : goal.returns
returns c =
    λ ds are spelled.
    walk_done (routing_paths c.args.fields.now c.loop-entry.left.now) (routing_paths c.args.fields.now c.args.places.now) c.loop-entry.hash c.loop-entry.rest.now ds
    (λ d after is begins. not_absent _ c.read_entry.result (search rules) (c.read_entry.ensures.reads d after is begins))
    (c.loop-entry.invariant.walked ds are spelled)
