use Rattle.std.proofs.Common.{◌≡◌, ◌∙◌, sym, refl, arith}
use Rattle.column_pack.proofs.Leading.{lead-long, lead-kind, lead-width, lead-first, lead-offset, lead-factor}
use Rattle.column_pack.specs.Laws.Sounds.{made, made-same}
use Rattle.column_pack.proofs.known.header_known.Goals as goal

pub bounds-bytes-1 : goal.bounds-bytes-1
bounds-bytes-1 c = let (b, h) = c.requires in omega (arith, lead-long b c.args.bytes.now h)

pub word_at-requires : goal.word_at-requires
word_at-requires c = let (b, h) = c.requires in omega (arith, lead-long b c.args.bytes.now h)

pub word_at-requires-2 : goal.word_at-requires-2
word_at-requires-2 c = let (b, h) = c.requires in omega (arith, lead-long b c.args.bytes.now h)

pub word_at-requires-3 : goal.word_at-requires-3
word_at-requires-3 c = let (b, h) = c.requires in omega (arith, lead-long b c.args.bytes.now h)

pub bounds-bytes-26 : goal.bounds-bytes-26
bounds-bytes-26 c = let (b, h) = c.requires in omega (arith, lead-long b c.args.bytes.now h)

pub returns : goal.returns
unfolding made
returns c = λ b h.
    let bytes = c.args.bytes.now in
    made-same _ b.kind _ b.first _ b.offset _ b.factor _ b.width b.residuals b.residuals
    (c.kind_known.ensures b.kind (lead-kind b bytes h)) (c.word_at.ensures ∙ lead-first b bytes h) (c.word_at-2.ensures ∙ lead-offset b bytes h) (c.word_at-3.ensures ∙ lead-factor b bytes h) (lead-width b bytes h) refl
