use Rattle.std.proofs.lemmas.List.{length-take}
use Rattle.std.proofs.Common.{◌≡◌, ◌∙◌, sym, ap, refl, arith, get_or, ◌+◌, ◌-◌, take, drop, ◌^◌}
use Rattle.column_pack.specs.Digits.{number, digits}
use Rattle.column_pack.proofs.Leading.{lead-count, lead-width, lead-sizes, lead-residuals}
use Rattle.column_pack.proofs.known.residuals_known.Goals as goal

pub bounds-bytes-0 : goal.bounds-bytes-0
bounds-bytes-0 c = let (b, h) = c.requires.block in omega (arith, (lead-sizes b c.args.bytes.now h).long)

pub bounds-bytes-26 : goal.bounds-bytes-26
bounds-bytes-26 c = let (b, h) = c.requires.block in omega (arith, (lead-sizes b c.args.bytes.now h).long)

pub slice_bounds-unpack_residuals-end : goal.slice_bounds-unpack_residuals-end
slice_bounds-unpack_residuals-end c = let (b, h) = c.requires.block in omega (arith, (lead-sizes b c.args.bytes.now h).long, c.div_ceil-len.ensures)

pub unpack_residuals-requires-clause-few : goal.unpack_residuals-requires-clause-few
unpack_residuals-requires-clause-few c = let (b, h) = c.requires.block in simp length-take (omega (arith, (lead-sizes b c.args.bytes.now h).short, c.div_ceil-len.ensures))

pub unpack_residuals-requires-clause-width : goal.unpack_residuals-requires-clause-width
unpack_residuals-requires-clause-width c = let (b, h) = c.requires.block in (lead-sizes b c.args.bytes.now h).thin

pub unpack_residuals-requires-clause-count : goal.unpack_residuals-requires-clause-count
unpack_residuals-requires-clause-count c = let (b, h) = c.requires.block in (lead-sizes b c.args.bytes.now h).few

pub returns-clause-count : goal.returns-clause-count
returns-clause-count c = λ b h. lead-count b c.args.bytes.now h

pub returns-clause-residuals : goal.returns-clause-residuals
returns-clause-residuals c = λ b h.
    let bytes = c.args.bytes.now in
    let n = get_or bytes 0 0 in
    let w = get_or bytes 26 0 in
    let e : 27 + c.div_ceil-len.result - 27 ≡ c.div_ceil-len.result = omega arith in
    c.unpack_residuals.ensures ∙ ap (λ z. digits (2 ^ w) n (number 256 (take z (drop 27 bytes)))) e
    ∙ lead-residuals b bytes w n c.div_ceil-len.result h (lead-width b bytes h) (lead-count b bytes h) (omega (arith, c.div_ceil-len.ensures))
