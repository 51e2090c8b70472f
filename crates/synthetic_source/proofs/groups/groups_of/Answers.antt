use Rattle.std.proofs.Common.{◌∙◌, ap, sym}
use Rattle.std.proofs.lemmas.List.{drop_all}
use Rattle.synthetic_source.specs.Groups.{groups_after}
use Rattle.synthetic_source.specs.Seen.{seen_all, seen_groups}
use Rattle.synthetic_source.proofs.Grouping.{groups_of_all}
use Rattle.synthetic_source.proofs.groups.groups_of.Goals as goal

pub returns : goal.returns
returns c =
    let past = drop_all c.loop-entry.entry-index c.args.entries.now c.loop-entry-test.false in
    ap (λ es. groups_after (seen_groups c.loop-entry.groups.items) (seen_all es)) (sym past) ∙ (c.loop-entry.invariant.so_far ∙ groups_of_all (seen_all c.args.entries.now))
