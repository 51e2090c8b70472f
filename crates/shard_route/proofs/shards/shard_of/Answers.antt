use Rattle.std.proofs.Common.{◌%◌, ◌∙◌, ap, sym}
use Rattle.row_cells.specs.Heads.{dimensions_in}
use Rattle.row_cells.specs.HeadLaws.{dimensions_of_key}
use Rattle.shard_route.specs.Routing.{routing_hash, routing_paths}
use Rattle.shard_route.specs.RoutingLaws.{paths_ascend}
use Rattle.shard_route.proofs.shards.shard_of.Goals as goal

pub routing_hash-hash-requires : goal.routing_hash-hash-requires
routing_hash-hash-requires c =
    rw (c.as_slice.ensures, c.as_slice-2.ensures) (paths_ascend c.args.schema.now.fields c.args.schema.now.routing c.requires.fields c.requires.routing)

pub returns-clause-is : goal.returns-clause-is
returns-clause-is c =
    let schema = c.args.schema.now in
    let is = c.bytes.ensures.key in
    let ds = is.spells.dimensions in
    ap (λ n. n % c.from.result)
    (c.routing_hash-hash.ensures ds is.spells.ascending (is.spells.spelled ∙ sym c.bytes.ensures.is)
    ∙ (ap (λ fields. routing_hash (routing_paths fields c.as_slice-2.result.now) ds) c.as_slice.ensures
    ∙ (ap (λ places. routing_hash (routing_paths schema.fields places) ds) c.as_slice-2.ensures
    ∙ ap (routing_hash (routing_paths schema.fields schema.routing)) (sym (dimensions_of_key c.args.key.now is)))))
    ∙ ap (λ m. routing_hash (routing_paths schema.fields schema.routing) (dimensions_in c.args.key.now) % m) c.from.ensures
