use Rattle.std.proofs.Common.{Ok, ℤ, List, ◌++◌, ◌≡◌, length, take, drop, map, arith, ap, ◌∙◌, sym, subst}
use Rattle.std.specs.List.{All}
use Rattle.std.specs.Prelude.{FitsSigned}
use Rattle.std.specs.Int.{w64}
use Rattle.std.proofs.lemmas.List.{length-take-le, take-append-drop}
use Rattle.column_pack.specs.Laws.OneList.{one-list}
use Rattle.column_pack.specs.Block.{place, places_of}
use Rattle.column_pack.specs.Parts.{block_with}
use Rattle.column_pack.specs.Laws.Layouts.{zeros-at}
use Rattle.column_pack.specs.Laws.Sounds.{sound-of, block-of-sound}
use Rattle.column_pack.proofs.unpack.unpack_block.Goals as goal

pub read_block-requires : goal.read_block-requires
read_block-requires c = record { zero = λ k. zeros-at 128 k }

pub returns-in-Err-clause-bad : goal.returns-in-Err-clause-bad
returns-in-Err-clause-bad c = λ vs (b, h, e). c.in-Err.ensures.bad b (sound-of vs b h) e

pub returns-in-Ok-clause-ok : goal.returns-in-Ok-clause-ok
returns-in-Ok-clause-ok c =
    let f = c.in-Ok.fields in
    let k = c.in-Ok.ensures.ok in
    let into = c.write_values.new.into in
    let rs = take f.count c.read_block.new.residuals in
    let n : length rs ≡ f.count = length-take-le f.count c.read_block.new.residuals (omega (arith, k.few)) in
    let signed : All (FitsSigned w64) (take f.count into) = subst (λ z. All (FitsSigned w64) (take z into)) n c.write_values.ensures.signed in
    let values : map (place f.header.kind) (take f.count into) ≡ places_of (block_with f.header rs) = ap (λ z. map (place f.header.kind) (take z into)) (sym n) ∙ c.write_values.ensures.values in (
      k.few,
      (block_with f.header rs, block-of-sound (take f.count into) (block_with f.header rs) k.sound signed values, k.same),
      subst (λ z. drop z into ≡ drop z c.args.into.now) n c.write_values.ensures.rest,
    )

pub returns-in-Err-clause-values : goal.returns-in-Err-clause-values
returns-in-Err-clause-values c = λ vs (b, h, e). absurd (c.in-Err.ensures.bad b (sound-of vs b h) e)

pub returns-in-Ok-clause-values : goal.returns-in-Ok-clause-values
returns-in-Ok-clause-values c = λ vs h.
    let f = c.in-Ok.fields in
    let k = c.in-Ok.ensures.ok in
    let into = c.write_values.new.into in
    let rs = take f.count c.read_block.new.residuals in
    let n : length rs ≡ f.count = length-take-le f.count c.read_block.new.residuals (omega (arith, k.few)) in
    let signed : All (FitsSigned w64) (take f.count into) = subst (λ z. All (FitsSigned w64) (take z into)) n c.write_values.ensures.signed in
    let values : map (place f.header.kind) (take f.count into) ≡ places_of (block_with f.header rs) = ap (λ z. map (place f.header.kind) (take z into)) (sym n) ∙ c.write_values.ensures.values in
    let rest : drop f.count into ≡ drop f.count c.args.into.now = subst (λ z. drop z into ≡ drop z c.args.into.now) n c.write_values.ensures.rest in
    let same : take f.count into ≡ vs = one-list (take f.count into) vs c.args.bytes.now (block_with f.header rs, block-of-sound (take f.count into) (block_with f.header rs) k.sound signed values, k.same) h in
    let count : f.count ≡ length vs = sym (length-take-le f.count into (omega (arith, k.few))) ∙ ap (λ (ys : List ℤ). length ys) same in
    (ap Ok count, sym (take-append-drop f.count into) ∙ ap (λ ys. ys ++ drop f.count into) same ∙ ap (λ ys. vs ++ ys) (rest ∙ ap (λ z. drop z c.args.into.now) count))
