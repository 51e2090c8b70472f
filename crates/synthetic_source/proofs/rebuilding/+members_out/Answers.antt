use Rattle.std.proofs.Common.{◌∙◌, ◌<◌, ◌++◌, ap, sym, arith, append-nil}
use Rattle.std.proofs.lemmas.List.{drop_all}
use Rattle.synthetic_source.specs.Groups.{named_members}
use Rattle.synthetic_source.specs.Levels.{longest}
use Rattle.synthetic_source.specs.Replies.{out_members}
use Rattle.synthetic_source.specs.Seen.{seen_all, seen_groups}
use Rattle.synthetic_source.proofs.Fuel.{below_shorter, named_levels}
use Rattle.synthetic_source.proofs.rebuilding.+members_out.Goals as goal

pub members_out-requires : goal.members_out-requires
members_out-requires t c =
    let shorter = below_shorter c.deref-group-items.result.now (seen_all c.args.entries.now) c.loop-group.group-index c.group-item.result (ap seen_groups c.deref-group-items.ensures.value ∙ c.in_ok-groups.ensures) c.loop-group-test.true c.group-item.is in
    let less : longest (seen_all c.as_slice.result.now) < longest (seen_all c.args.entries.now) = omega (arith, shorter, ap (λ es. longest (seen_all es)) c.as_slice.ensures.value) in
    (omega (arith, less, c.decreases), tt)

pub returns : goal.returns
returns t c =
    let past = drop_all c.loop-group.group-index c.deref-group-items.result.now c.loop-group-test.false in
    sym (append-nil c.loop-group.members.items)
    ∙ (ap (λ gs. c.loop-group.members.items ++ out_members (named_members (seen_groups gs))) (sym past)
    ∙ (c.loop-group.invariant
    ∙ (ap (λ gs. out_members (named_members gs)) (ap seen_groups c.deref-group-items.ensures.value ∙ c.in_ok-groups.ensures)
    ∙ ap out_members (named_levels (seen_all c.args.entries.now)))))
