use Rattle.std.proofs.Common.{◌≡◌, ℤ, List, ◌^◌, ◌<◌, length, take, map, arith, ap, ◌∙◌, sym, subst}
use Rattle.std.specs.Prelude.{FitsSigned}
use Rattle.std.specs.Int.{w64}
use Rattle.std.specs.List.{All}
use Rattle.std.proofs.lemmas.List.{length-take-le}
use Rattle.column_pack.specs.Block.{IsBlockOf, place, places_of}
use Rattle.column_pack.specs.Parts.{block_with}
use Rattle.column_pack.specs.Summary.{IsSummary}
use Rattle.column_pack.specs.declared.summary.Summary.{Summary}
use Rattle.column_pack.specs.Laws.OneList.{one-list}
use Rattle.column_pack.specs.Laws.Layouts.{zeros-at}
use Rattle.column_pack.specs.Laws.Sounds.{sound-of, block-of-sound}
use Rattle.column_pack.specs.Laws.Spans.{placed, placed-signed, values-at}
use Rattle.column_pack.proofs.summary.block_min_max_sum.Goals as goal

pub read_block-requires : goal.read_block-requires
read_block-requires c = record { zero = λ k. zeros-at 128 k }

pub returns-in-Err-clause-bad : goal.returns-in-Err-clause-bad
returns-in-Err-clause-bad c = λ vs (b, h, e). c.in-Err.ensures.bad b (sound-of vs b h) e

pub returns-in-Ok-clause-ok : goal.returns-in-Ok-clause-ok
returns-in-Ok-clause-ok c =
    let f = c.in-Ok.fields in
    let r = c.in-Ok.ensures.ok in
    let h = f.header in
    let b = block_with h (take f.count c.read_block.new.residuals) in
    let ps = places_of b in
    let vs = values-at h.kind ps in
    let is : IsBlockOf vs b = block-of-sound vs b r.sound (placed-signed h.kind ps r.sound.shape.range) (placed h.kind ps r.sound.shape.range) in
    (vs, (b, is, r.same), c.summary_of.ensures vs is)

carried : {vs ws : List ℤ} {s : Summary} → vs ≡ ws → IsSummary vs s → IsSummary ws s
carried {s = s} e h = subst (λ ws. IsSummary ws s) e h

pub returns-in-Err-clause-values : goal.returns-in-Err-clause-values
returns-in-Err-clause-values c = λ vs (b, h, e). absurd (c.in-Err.ensures.bad b (sound-of vs b h) e)

pub returns-in-Ok-clause-values : goal.returns-in-Ok-clause-values
returns-in-Ok-clause-values c = λ vs h. let o = returns-in-Ok-clause-ok c in carried (one-list o.0 vs c.args.bytes.now o.1 h) o.2
