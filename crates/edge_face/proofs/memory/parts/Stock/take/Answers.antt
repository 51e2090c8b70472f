use Rattle.std.proofs.Common.{◌≡◌, ◌∙◌, ℕ, List, ◌++◌, ◌+◌, take, drop, ap, sym}
use Rattle.std.proofs.lemmas.List.{take-append-drop, drop-drop}
use Rattle.edge_face.proofs.memory.parts.Stock.take.Goals as goal

-- what was left is what was copied, and then what is left
gives : (bytes left into rest : List ℕ) (at n : ℕ) → drop at bytes ≡ left → rest ≡ drop at bytes → take n into ≡ take n rest → left ≡ take n into ++ drop (at + n) bytes
gives bytes left into rest at n is rest_is front =
    sym is ∙ sym (take-append-drop n (drop at bytes)) ∙ ap (λ l. take n l ++ drop n (drop at bytes)) (sym rest_is) ∙ ap (λ l. l ++ drop n (drop at bytes)) (sym front)
    ∙ ap (λ l. take n into ++ l) (drop-drop n at bytes)

pub returns-clause-taken : goal.returns-clause-taken
returns-clause-taken c =
    let s = c.self.inside in
    gives s.bytes c.args.self.now c.copy_front-n.new.into c.split_at.result.1.now s.taken c.copy_front-n.result
    c.self.view_is (c.split_at.ensures.back ∙ ap (drop s.taken) c.as_slice.ensures) c.copy_front-n.ensures.front
