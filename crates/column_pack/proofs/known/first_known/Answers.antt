use Rattle.std.proofs.Common.{◌≡◌, ◌<◌, ◌≤◌, ◌^◌, ◌+◌, ◌*◌, ℕ, ℤ, pos, List, get_or, arith, ap, ◌∙◌, sym, subst}
use Rattle.std.specs.Int.{w64, cast_signed}
use Rattle.std.proofs.lemmas.Int.{to_z-of_z}
use Rattle.column_pack.specs.Block.{Block, IsBlockOf, turned, height}
use Rattle.column_pack.specs.declared.parts.Kind.TheVariants.{Plain}
use Rattle.column_pack.specs.Parts.{block_with}
use Rattle.column_pack.specs.Laws.Blocks.{height-lt}
use Rattle.column_pack.specs.Laws.Checks.{rising-not-plain, falling-not-plain}
use Rattle.column_pack.proofs.Leading.{leads-of, plain-first, first-signed, steps-first}
use Rattle.column_pack.specs.Laws.Spans.{height-same}
use Rattle.column_pack.proofs.known.first_known.Goals as goal

pub header_known-header-requires : goal.header_known-header-requires
header_known-header-requires c = let (vs, h) = c.requires in let (b, _, l) = leads-of vs c.args.bytes.now h in (b, l)

pub first_residual-requires : goal.first_residual-requires
first_residual-requires c = let (vs, h) = c.requires in let (b, _, l) = leads-of vs c.args.bytes.now h in (b, l)

above-lt : (vs : List ℤ) (b : Block) (r : ℕ) → IsBlockOf vs b → b.kind ≡ Plain → r ≡ get_or b.residuals 0 0 → turned b.offset + b.factor * r < 2 ^ 64
above-lt vs b r is k e = subst (λ z. z < 2 ^ 64) (plain-first vs b r is k e) (height-lt (get_or vs 0 (pos 0)) (first-signed vs b is))

pub overflow_add-turn : goal.overflow_add-turn
overflow_add-turn c =
    let (vs, h) = c.requires in
    let (b, is, l) = leads-of vs c.args.bytes.now h in
    let head = c.header_known-header.result in
    let r = c.first_residual.result in
    let same : block_with head b.residuals ≡ b = c.header_known-header.ensures b l in
    let lt : turned head.offset + head.factor * r < 2 ^ 64 = subst (λ (x : Block). turned x.offset + x.factor * r < 2 ^ 64) (sym same) (above-lt vs b r is (sym (ap (λ (x : Block). x.kind) same) ∙ c.in-Plain.is) (c.first_residual.ensures b l)) in
    omega (arith, lt, c.turn.ensures)

pub overflow_mul-above : goal.overflow_mul-above
overflow_mul-above c =
    let (vs, h) = c.requires in
    let (b, is, l) = leads-of vs c.args.bytes.now h in
    let head = c.header_known-header.result in
    let r = c.first_residual.result in
    let same : block_with head b.residuals ≡ b = c.header_known-header.ensures b l in
    let lt : turned head.offset + head.factor * r < 2 ^ 64 = subst (λ (x : Block). turned x.offset + x.factor * r < 2 ^ 64) (sym same) (above-lt vs b r is (sym (ap (λ (x : Block). x.kind) same) ∙ c.in-Plain.is) (c.first_residual.ensures b l)) in
    omega (arith, lt)

pub returns-in-Plain : goal.returns-in-Plain
returns-in-Plain c = λ vs h.
    let (b, is, l) = leads-of vs c.args.bytes.now h in
    let head = c.header_known-header.result in
    let r = c.first_residual.result in
    let same : block_with head b.residuals ≡ b = c.header_known-header.ensures b l in
    let e : height (get_or vs 0 (pos 0)) ≡ turned head.offset + head.factor * r = subst (λ (x : Block). height (get_or vs 0 (pos 0)) ≡ turned x.offset + x.factor * r) (sym same) (plain-first vs b r is (sym (ap (λ (x : Block). x.kind) same) ∙ c.in-Plain.is) (c.first_residual.ensures b l)) in
    let v = c.value_at.result in
    to_z-of_z w64 v (record { sfits = c.value_at.type_inv })
    ∙ height-same v (get_or vs 0 (pos 0)) (record { sfits = c.value_at.type_inv }) (first-signed vs b is) (c.value_at.ensures ∙ ap (λ z. z + head.factor * r) c.turn.ensures ∙ sym e)

pub returns-in-Rising : goal.returns-in-Rising
returns-in-Rising c = λ vs h.
    let (b, is, l) = leads-of vs c.args.bytes.now h in
    let same = c.header_known-header.ensures b l in
    to_z-of_z w64 c.cast_signed.result (record { sfits = c.cast_signed.type_inv }) ∙ c.cast_signed.ensures ∙ ap (λ (x : Block). cast_signed w64 x.first) same
    ∙ sym (steps-first vs b is (λ e. rising-not-plain c.header_known-header.result.kind c.in-Rising.is (ap (λ (x : Block). x.kind) same ∙ e)))

pub returns-in-Falling : goal.returns-in-Falling
returns-in-Falling c = λ vs h.
    let (b, is, l) = leads-of vs c.args.bytes.now h in
    let same = c.header_known-header.ensures b l in
    to_z-of_z w64 c.cast_signed-in-Falling.result (record { sfits = c.cast_signed-in-Falling.type_inv }) ∙ c.cast_signed-in-Falling.ensures ∙ ap (λ (x : Block). cast_signed w64 x.first) same
    ∙ sym (steps-first vs b is (λ e. falling-not-plain c.header_known-header.result.kind c.in-Falling.is (ap (λ (x : Block). x.kind) same ∙ e)))
