use Rattle.std.proofs.Common.{◌≡◌, map, ◌++◌, drop}
use Rattle.serde_json.specs.View.{items_of}
use Rattle.synthetic_source.specs.Contents.{AreDated}
use Rattle.synthetic_source.specs.Normal.{scalar_data}
use Rattle.synthetic_source.specs.Replies.{out_items}
use Rattle.synthetic_source.proofs.contents.list_out.Given as goal

abbrev pub invariant-loop-value : goal.invariant-loop-value
invariant-loop-value l = record {
  so_far : l.elements.items ++ out_items (items_of (map (scalar_data l.kind) (drop l.value-index l.values))) ≡ out_items (items_of (map (scalar_data l.kind) l.values));
  left : AreDated l.kind (drop l.value-index l.values);
}
