use Rattle.std.proofs.Common.{◌<◌, ◌^◌, length, take, map, ap, ◌∙◌, sym, subst}
use Rattle.std.specs.List.{All}
use Rattle.std.proofs.lemmas.List.{take-map}
use Rattle.column_pack.specs.Block.{falls, below_top, height}
use Rattle.column_pack.specs.Laws.Blocks.{kind-plain, kind-rising, kind-falling, up-values, down-values, same-bools, other-bools, not-rising, heights-lt}
use Rattle.column_pack.proofs.pack.describe.Goals as goal

pub returns-then-rises-falls : goal.returns-then-rises-falls
returns-then-rises-falls c =
    let k = c.describe_plain.result.kind in
    let vs = c.args.values.now in
    let t = c.turns-rises in
    record {
      signed = c.heights_of.ensures.signed;
      canonical = c.describe_plain.ensures.canonical;
      values = c.describe_plain.ensures.places ∙ c.heights_of.ensures.heights ∙ up-values k vs (λ e. cc (c.describe_plain.ensures.kind));
      kind = kind-plain k t.result.0 t.result.1 (take (length vs) c.heights_of.new.heights) (map height vs) c.describe_plain.ensures.kind t.ensures.rises t.ensures.falls (same-bools t.result.0 t.result.1 c.if-rises-falls.true) c.heights_of.ensures.heights;
    }

pub describe_steps-requires-else-rises-clause-rising : goal.describe_steps-requires-else-rises-clause-rising
describe_steps-requires-else-rises-clause-rising c =
    let vs = c.args.values.now in
    let hs = take (length vs) c.heights_of.new.heights in
    let small : All (λ h. h < 2 ^ 64) hs = subst (λ ys. All (λ h. h < 2 ^ 64) ys) (sym c.heights_of.ensures.heights) (heights-lt vs c.heights_of.ensures.signed) in
    ap (λ ys. falls (take (length vs) ys)) c.flip.ensures ∙ ap falls (take-map below_top (length vs) c.heights_of.new.heights) ∙ not-rising hs c.turns-rises.result.0 small c.turns-rises.ensures.rises c.if-rises.false

pub returns-then-rises : goal.returns-then-rises
returns-then-rises c =
    let k = c.describe_steps.result.kind in
    let vs = c.args.values.now in
    let t = c.turns-rises in
    record {
      signed = c.heights_of.ensures.signed;
      canonical = c.describe_steps.ensures.canonical;
      values = c.describe_steps.ensures.places ∙ c.heights_of.ensures.heights ∙ up-values k vs (λ e. cc (c.describe_steps.ensures.kind));
      kind = kind-rising k t.result.0 t.result.1 (take (length vs) c.heights_of.new.heights) (map height vs) c.describe_steps.ensures.kind t.ensures.rises t.ensures.falls (other-bools t.result.0 t.result.1 c.if-rises-falls.false) c.if-rises.true c.heights_of.ensures.heights;
    }

pub returns-else-rises : goal.returns-else-rises
returns-else-rises c =
    let k = c.describe_steps-else-rises.result.kind in
    let vs = c.args.values.now in
    let t = c.turns-rises in
    record {
      signed = c.heights_of.ensures.signed;
      canonical = c.describe_steps-else-rises.ensures.canonical;
      values = c.describe_steps-else-rises.ensures.places ∙ ap (take (length vs)) c.flip.ensures ∙ take-map below_top (length vs) c.heights_of.new.heights ∙ ap (map below_top) c.heights_of.ensures.heights ∙ down-values k vs c.describe_steps-else-rises.ensures.kind;
      kind = kind-falling k t.result.0 t.result.1 (take (length vs) c.heights_of.new.heights) (map height vs) c.describe_steps-else-rises.ensures.kind t.ensures.rises t.ensures.falls (other-bools t.result.0 t.result.1 c.if-rises-falls.false) c.if-rises.false c.heights_of.ensures.heights;
    }

pub describe_plain-requires-clause-rises : goal.describe_plain-requires-clause-rises
describe_plain-requires-clause-rises c = c.turns-rises.ensures.rises

pub describe_plain-requires-clause-falls : goal.describe_plain-requires-clause-falls
describe_plain-requires-clause-falls c = same-bools c.turns-rises.result.0 c.turns-rises.result.1 c.if-rises-falls.true ∙ c.turns-rises.ensures.falls
