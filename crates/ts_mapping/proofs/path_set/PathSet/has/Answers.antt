use Rattle.std.proofs.Common.{ap, ◌∙◌}
use Rattle.std.specs.BTreeMap.{is_at}
use Rattle.std.specs.Cmp.Lexicographic.{slice_cmp}
use Rattle.std.specs.List.{list_any}
use Rattle.std.specs.Ordering.{nat_cmp}
use Rattle.ts_mapping.specs.Paths.{is_among}
use Rattle.ts_mapping.proofs.Sets.{has_key}
use Rattle.ts_mapping.proofs.path_set.PathSet.has.Goals as goal

pub returns : goal.returns
returns c =
    let path = c.args.path.now in
    let keys = c.self.inside.paths.keys in
    c.contains.ensures ∙ (ap (λ q. list_any (is_at (slice_cmp nat_cmp q)) keys) c.new.ensures ∙ (has_key path keys ∙ ap (is_among path) c.self.view_is))
