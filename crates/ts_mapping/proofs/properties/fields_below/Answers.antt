use Rattle.std.proofs.Common.{◌++◌, None, sym, ap, ◌∙◌}
use Rattle.std.specs.Prelude.{codes}
use Rattle.serde_json.specs.View.{view}
use Rattle.ts_mapping.specs.Seen.{properties_seen}
use Rattle.ts_mapping.specs.Walks.{fields_listed}
use Rattle.ts_mapping.proofs.Leaves.{leaves_listed}
use Rattle.ts_mapping.proofs.properties.fields_below.Goals as goal

pub returns : goal.returns
returns c =
    let d = view c.args.value.now in
    c.in_ok-walk_list.ensures.found
    ∙ (ap (λ xs. properties_seen xs ++ fields_listed c.in_ok-path.path d) c.new-found.ensures.items
    ∙ (ap (λ here. fields_listed here d) c.in_ok-path.ensures ∙ sym (leaves_listed (codes "template.mappings.properties") None d)))
