use Rattle.std.proofs.Common.{◌<◌, ◌+◌, drop, length, sym, ap, ◌∙◌, rules}
use Rattle.ts_mapping.specs.Faults.{bad_entries}
use Rattle.ts_mapping.specs.Least.{least_with}
use Rattle.ts_mapping.proofs.Sets.{drop_here, entries_step}
use Rattle.ts_mapping.proofs.routing.check_entries.Goals as goal

pub loop-entry-preserved : goal.loop-entry-preserved
loop-entry-preserved c =
    let l = c.loop-entry in
    let all = c.args.entries.now in
    let e = c.entry-item.result in
    let lt : l.entry-index < length all = search rules in
    let here = drop_here all l.entry-index e lt c.entry-item.is in
    let dimensions = c.args.dimensions.now in
    entries_step dimensions e l.before c.check_entry.new.before (drop (l.entry-index + 1) all) l.least c.check_entry.new.least c.in_ok-check_entry.ensures.paths c.in_ok-check_entry.ensures.told
    ∙ (ap (λ es. least_with l.least (bad_entries dimensions l.before es)) (sym here) ∙ l.invariant)
