use Rattle.std.proofs.Common.{◌≡◌, [], length, true, false, not, bytes_eq, take, sym, ap, ◌∙◌, arith}
use Rattle.json_walk.specs.Path.{behind_name}
use Rattle.json_walk.specs.PathLaws.{behind_other, behind_same}
use Rattle.json_walk.proofs.at.behind.Goals as goal

pub returns-then-ne : goal.returns-then-ne
returns-then-ne c =
    let name = c.args.name.now in
    let path = c.args.path.now in
    let other : not (bytes_eq name (take (length name) path)) ≡ true = ap (λ t. not (bytes_eq name t)) (sym c.split_at.ensures.front) ∙ sym c.ne.ensures ∙ c.if-ne.true in
    let differ : bytes_eq name (take (length name) path) ≡ false = grind (arith, other) in
    sym (behind_other name path differ)

pub returns : goal.returns
returns c =
    let name = c.args.name.now in
    let path = c.args.path.now in
    let other : not (bytes_eq name (take (length name) path)) ≡ false = ap (λ t. not (bytes_eq name t)) (sym c.split_at.ensures.front) ∙ sym c.ne.ensures ∙ c.if-ne.false in
    let same : bytes_eq name (take (length name) path) ≡ true = grind (arith, other) in
    c.behind_dot.ensures ∙ ap (behind_name []) c.split_at.ensures.back ∙ sym (behind_same name path same)
