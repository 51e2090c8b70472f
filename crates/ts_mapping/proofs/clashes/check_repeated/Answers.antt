use Rattle.std.proofs.Common.{◌<◌, ◌||◌, ◌+◌, List, ℕ, drop, length, sym, ap, ◌∙◌, rules}
use Rattle.ts_mapping.specs.Faults.{repeated}
use Rattle.ts_mapping.specs.Fields.{paths_of}
use Rattle.ts_mapping.specs.Least.{least_with}
use Rattle.ts_mapping.specs.Paths.{is_among}
use Rattle.ts_mapping.specs.Seen.{properties_seen}
use Rattle.ts_mapping.proofs.Sets.{among_step, drop_here, repeated_step}
use Rattle.ts_mapping.proofs.clashes.check_repeated.Goals as goal

pub loop-property-preserved : goal.loop-property-preserved
loop-property-preserved c =
    let l = c.loop-property in
    let all = c.args.properties.now in
    let p = c.property-item.result in
    let lt : l.property-index < length all = search rules in
    let here = drop_here all l.property-index p lt c.property-item.is in
    let rest : List (List ℕ) = paths_of (properties_seen (drop (l.property-index + 1) all)) in
    let same = c.in_ok-check_path.ensures.paths in
    record {
      told = repeated_step p.path l.paths c.check_path.new.before rest l.least c.check_path.new.least same c.in_ok-check_path.ensures.told ∙ (ap (λ ds. least_with l.least (repeated l.paths (paths_of (properties_seen ds)))) (sym here) ∙ l.invariant.told);
      paths = λ q. among_step q p.path l.paths c.check_path.new.before rest (same q) ∙ (ap (λ ds. is_among q l.paths || is_among q (paths_of (properties_seen ds))) (sym here) ∙ l.invariant.paths q);
    }
