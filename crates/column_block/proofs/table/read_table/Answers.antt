use Rattle.std.proofs.Common.{◌≡◌, ◌∙◌, ap, sym, subst, arith, rules, refl, length, ◌++◌, [], ◌∷◌, ◌<◌, ◌^◌}
use Rattle.std.proofs.lemmas.Bool.{false≢true}
use Rattle.std.proofs.lemmas.List.{length-append}
use Rattle.column_block.specs.Rules.{TextsAscend}
use Rattle.column_block.proofs.Tabling.{cut-eight, next-text, text-one, texts-more, texts-push, table-read}
use Rattle.column_block.proofs.table.read_table.Goals as goal

pub returns-in_default-read_piece-clause-bad : goal.returns-in_default-read_piece-clause-bad
returns-in_default-read_piece-clause-bad c = λ _ us last a e.
    let l = c.loop in
    let cut = c.in-Some.ensures.cases in
    let k = cut-eight c.args.bytes.now c.in-Some.head.now c.in-Some.tail.now (λ i. omega (arith, c.type_inv.bytes i)) cut.0 cut.1 cut.2 in
    let few : length c.args.bytes.now < 2 ^ 64 = search rules in
    let n = next-text c.in-Some.head.now c.in-Some.tail.now c.args.bytes.now last l.rest.now l.texts.items us c.from_be_bytes-end.result l.counter k.0 k.1 few c.from_be_bytes-end.ensures c.loop-test.true l.invariant.texts l.invariant.count l.invariant.spelled a e in
    c.read_piece.ensures.none (rw c.in_default-read_piece.is refl) n.text n.more n.good n.begins

pub returns-then-not-is_behind-clause-bad : goal.returns-then-not-is_behind-clause-bad
returns-then-not-is_behind-clause-bad c = λ _ us last a e.
    let l = c.loop in
    let cut = c.in-Some.ensures.cases in
    let k = cut-eight c.args.bytes.now c.in-Some.head.now c.in-Some.tail.now (λ i. omega (arith, c.type_inv.bytes i)) cut.0 cut.1 cut.2 in
    let few : length c.args.bytes.now < 2 ^ 64 = search rules in
    let n = next-text c.in-Some.head.now c.in-Some.tail.now c.args.bytes.now last l.rest.now l.texts.items us c.from_be_bytes-end.result l.counter k.0 k.1 few c.from_be_bytes-end.ensures c.loop-test.true l.invariant.texts l.invariant.count l.invariant.spelled a e in
    let p = c.in-Some-read_piece.piece in
    let some = c.in-Some-read_piece.ensures.some in
    let one = text-one p.text.now n.text p.rest.now n.more some.1 n.good (sym some.0 ∙ n.begins) in
    let ascend : TextsAscend (c.as_slice.result.now ++ p.text.now ∷ []) = subst (λ z. TextsAscend (z ++ p.text.now ∷ [])) (sym c.as_slice.ensures.value) (subst (λ z. TextsAscend (l.texts.items ++ z ∷ [])) (sym one.0) n.ascend) in
    absurd (false≢true (c.if-not-is_behind.ensures.1 ascend))

pub loop-preserved : goal.loop-preserved
loop-preserved c =
    let l = c.loop in
    let p = c.in-Some-read_piece.piece in
    let some = c.in-Some-read_piece.ensures.some in
    let items : c.push.new.self.items ≡ l.texts.items ++ p.text.now ∷ [] = c.in-Ok-push.ensures.items ∙ ap (λ z. l.texts.items ++ z ∷ []) c.in-Ok.ensures in
    let ascend : TextsAscend (l.texts.items ++ p.text.now ∷ []) = subst (λ z. TextsAscend (z ++ p.text.now ∷ [])) c.as_slice.ensures.value (c.if-not-is_behind.ensures.0 refl) in
    rw items (record {
      texts = texts-more l.texts.items p.text.now l.invariant.texts ascend some.1;
      spelled = texts-push c.in-Some.tail.now l.rest.now p.text.now p.rest.now l.texts.items l.invariant.spelled some.0;
      count = omega (arith, length-append l.texts.items (p.text.now ∷ []), l.invariant.count);
    })

pub returns-clause-spelled : goal.returns-clause-spelled
returns-clause-spelled c =
    let l = c.loop in
    let cut = c.in-Some.ensures.cases in
    let k = cut-eight c.args.bytes.now c.in-Some.head.now c.in-Some.tail.now (λ i. omega (arith, c.type_inv.bytes i)) cut.0 cut.1 cut.2 in
    (l.rest.now, table-read c.in-Some.head.now c.in-Some.tail.now c.args.bytes.now l.rest.now l.texts.items c.from_be_bytes-end.result k.0 k.2 k.1 c.from_be_bytes-end.ensures (omega (arith, l.invariant.count, c.loop-test.false, c.loop.auto.counter-end)) l.invariant.spelled)
