use Rattle.std.proofs.Common.{◌∙◌, ap, sym, arith}
use Rattle.std.proofs.lemmas.List.{map-append}
use Rattle.tsds_cli.proofs.SourcesLemmas.{texts, no_sources, one_source}
use Rattle.tsds_cli.proofs.machine.sources_in.Goals as goal

pub returns-then-not-is_create : goal.returns-then-not-is_create
returns-then-not-is_create c =
    sym (no_sources (texts c.loop-at.sources.items) c.args.parts.now c.loop-at.at _ (omega arith) (sym c.is_create.ensures ∙ c.if-not-is_create.true)) ∙ c.loop-at.invariant.all

pub loop-at-preserved : goal.loop-at-preserved
loop-at-preserved c = record {
  within = omega arith;
  all = one_source (texts c.loop-at.sources.items) (texts c.push.new.self.items) c.args.parts.now c.loop-at.at _ (omega arith) (sym c.is_create.ensures ∙ c.if-not-is_create.false)
      (ap texts c.in_ok-push.ensures.items ∙ map-append _ c.loop-at.sources.items _) ∙ c.loop-at.invariant.all;
}
