-- Lists that stay a front.
use Rattle.std.proofs.Common.{◌≡◌, ◌∙◌, ◌≤◌, ◌++◌, List, length, take, drop, ap, sym, arith, length-take}
use Rattle.std.proofs.lemmas.List.{take-append-drop, take-append-le}

-- what is a front of a list is a front of each list that this one is a front of
pub still_front : {X : Type 0} (base now next : List X) → take (length base) now ≡ base → take (length now) next ≡ now → take (length base) next ≡ base
still_front base now next front later =
    let few : length base ≤ length now = omega (arith, ap length front, length-take (length base) now) in
    ap (take (length base)) (sym (take-append-drop (length now) next) ∙ ap (λ l. l ++ drop (length now) next) later)
    ∙ take-append-le (length base) now (drop (length now) next) few ∙ front
