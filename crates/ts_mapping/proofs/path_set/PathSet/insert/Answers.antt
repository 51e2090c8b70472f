use Rattle.std.proofs.Common.{◌||◌, bytes_eq, not, ap, ◌∙◌}
use Rattle.std.specs.BTreeMap.{is_at}
use Rattle.std.specs.Cmp.Lexicographic.{slice_cmp}
use Rattle.std.specs.List.{list_any}
use Rattle.std.specs.Ordering.{nat_cmp}
use Rattle.ts_mapping.specs.Paths.{is_among}
use Rattle.ts_mapping.proofs.Sets.{has_inserted, has_key}
use Rattle.ts_mapping.proofs.path_set.PathSet.insert.Goals as goal

pub returns-clause-fresh : goal.returns-clause-fresh
returns-clause-fresh c =
    let path = c.args.path.now in
    let keys = c.self.inside.paths.keys in
    c.in_ok-fresh.ensures.added ∙ ap not (ap (λ q. list_any (is_at (slice_cmp nat_cmp q)) keys) c.new.ensures ∙ (has_key path keys ∙ ap (is_among path) c.self.view_is))

pub returns-clause-paths : goal.returns-clause-paths
returns-clause-paths c = λ q.
    let path = c.args.path.now in
    let keys = c.self.inside.paths.keys in
    ap (is_among q) c.in_ok-fresh.ensures.keys
    ∙ (has_inserted q c.new.result keys ∙ (ap (λ p. bytes_eq q p || is_among q keys) c.new.ensures ∙ ap (λ ps. bytes_eq q path || is_among q ps) c.self.view_is))
