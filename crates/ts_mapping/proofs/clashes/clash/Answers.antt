use Rattle.std.proofs.Common.{◌∷◌, ap, ◌∙◌, subst}
use Rattle.ts_mapping.specs.Fields.{paths_of}
use Rattle.ts_mapping.specs.Faults.{repeated}
use Rattle.ts_mapping.specs.Least.{least_with}
use Rattle.ts_mapping.specs.Seen.{properties_seen}
use Rattle.ts_mapping.proofs.Sets.{SamePaths, clash_is}
use Rattle.ts_mapping.proofs.clashes.clash.Goals as goal

pub returns : goal.returns
returns c =
    let ps = properties_seen c.args.properties.now in
    let put = subst (λ t. SamePaths c.insert.new.self (t ∷ c.in_ok-paths.paths)) c.as_bytes.ensures.value c.in_ok-insert.ensures.paths in
    let first = c.in_ok-paths.ensures.told ∙ ap (λ h. least_with h (repeated _ (paths_of ps))) c.new-least.ensures in
    c.into_path.ensures ∙ clash_is ps c.in_ok-paths.paths c.insert.new.self c.check_repeated.new.least c.check_below.new.least first c.in_ok-check_below.ensures put c.in_ok-paths.ensures.paths
