use Rattle.std.proofs.Common.{◌≡◌, ◌+◌, ◌-◌, ◌∙◌, arith, bytes_eq, not, subst}
use Rattle.stream_catalog.specs.Places.{AllKept}
use Rattle.stream_catalog.proofs.members.take_name.Goals as goal

pub loop-at-preserved : goal.loop-at-preserved
loop-at-preserved c =
    let down : c.loop-at.at ≡ (c.loop-at.at - 1) + 1 = omega (arith, c.loop-at-test.true) in
    record {
      same = c.take_name_at.ensures.same ∙ c.loop-at.invariant.same;
      kept = c.take_name_at.ensures.kept (subst (AllKept (λ n. not (bytes_eq n c.args.name.now)) c.loop-at.names) down c.loop-at.invariant.kept);
      within = c.take_name_at.ensures.within;
    }
