use Rattle.std.proofs.Common.{pos, take, get_or, map, rules, arith, ap, ◌∙◌, sym}
use Rattle.std.proofs.Common.{◌++◌, ◌∷◌, []}
use Rattle.std.specs.Prelude.{FitsSigned}
use Rattle.std.specs.Int.{w64}
use Rattle.std.proofs.lemmas.Int.{to_z-of_z}
use Rattle.std.proofs.lemmas.List.{take_more, take_more_set, map-append}
use Rattle.std.proofs.lemmas.List.Elements.{All-more}
use Rattle.column_pack.specs.Block.{height}
use Rattle.column_pack.proofs.places.heights_of.Goals as goal

pub loop-i-preserved : goal.loop-i-preserved
loop-i-preserved c =
    let vs = c.args.values.now in
    let i = c.loop-i.i in
    let v = get_or vs i (pos 0) in
    let f : FitsSigned w64 v = search rules in
    record {
      heights = take_more_set c.loop-i.heights i c.height_of.result (omega arith)
          ∙ ap (λ ys. ys ++ c.height_of.result ∷ []) c.loop-i.invariant.heights
          ∙ ap (λ y. map height (take i vs) ++ y ∷ []) (c.height_of.ensures.height ∙ ap height (to_z-of_z w64 v f))
          ∙ sym (ap (map height) (take_more vs i (pos 0) (omega arith)) ∙ map-append height (take i vs) (v ∷ []));
      signed = All-more (FitsSigned w64) vs i (pos 0) (omega arith) c.loop-i.invariant.signed f;
    }
