use Rattle.std.proofs.Common.{◌≡◌, ◌+◌, ◌*◌, ◌^◌, ◌++◌, length, take, ap, ◌∙◌, sym, refl, arith}
use Rattle.std.proofs.lemmas.Slice.{pushed}
use Rattle.std.proofs.lemmas.List.{length-take-le, append-nil}
use Rattle.column_pack.specs.Parts.{block_with}
use Rattle.column_pack.specs.Digits.{number, digits, bytes_for}
use Rattle.column_pack.specs.Block.{front}
use Rattle.column_pack.proofs.Bytes.{layout-written}
use Rattle.column_pack.proofs.pack.append.Goals as goal

pub returns-clause-ok : goal.returns-clause-ok
returns-clause-ok c =
    let rs = c.args.residuals.now in
    let b = block_with c.args.header.now rs in
    let written = c.put_words.new.bytes in
    let count = c.write_words-count.result in
    let words = take count c.write_words-count.new.words in
    let long : length words ≡ count = length-take-le count c.write_words-count.new.words (omega arith) in
    let text : take (27 + 8 * count) written ≡ front b (length rs) ++ digits 256 (8 * count) (number (2 ^ 64) words) =
    ap (λ z. take (27 + 8 * z) written) (sym long) ∙ c.put_words.ensures ∙ ap (λ z. take 27 c.put_front.new.bytes ++ digits 256 (8 * z) (number (2 ^ 64) words)) long
    ∙ ap (λ ys. ys ++ digits 256 (8 * count) (number (2 ^ 64) words)) c.put_front.ensures in
    let size : 27 + c.div_ceil-len.result ≡ 27 + bytes_for (length rs * c.args.header.now.width) = omega (arith, c.div_ceil-len.ensures) in
    pushed (take (27 + c.div_ceil-len.result) written) refl c.in_ok-extend_from_slice-2.was c.extend_from_slice-2.ensures.items
    ∙ ap (λ ys. c.args.into.now.items ++ ys) (ap (λ z. take z written) size ∙ layout-written b written c.write_words-count.result (number (2 ^ 64) words) text c.write_words-count.ensures.enough c.write_words-count.ensures.number)

pub returns-then-header-eq0-clause-ok : goal.returns-then-header-eq0-clause-ok
returns-then-header-eq0-clause-ok c =
    let rs = c.args.residuals.now in
    let b = block_with c.args.header.now rs in
    let bytes = c.put_front.new.bytes in
    let none : length rs * b.width ≡ 0 = ap (λ z. length rs * z) c.if-header-eq0.true ∙ omega arith in
    pushed (take 27 bytes) refl c.in_ok-extend_from_slice.was c.extend_from_slice.ensures.items
    ∙ ap (λ ys. c.args.into.now.items ++ ys) (ap (λ z. take (27 + bytes_for z) bytes) (sym none) ∙ layout-written b bytes 0 (number (2 ^ b.width) rs) (c.put_front.ensures ∙ sym (append-nil _)) (omega (arith, none)) refl)
