use Rattle.std.proofs.Common.{◌≡◌, ◌∙◌, ◌++◌, ℕ, List, drop, sym, subst}
use Rattle.std.proofs.lemmas.List.{take-append-drop}
use Rattle.packed_lists.specs.Lists.{Fronted}
use Rattle.packed_lists.specs.Nums.{AreNums}
use Rattle.packed_lists.proofs.packed.PackedLists.bytes.Goals as goal

pub returns : goal.returns
returns c =
    let i = c.self.inside in
    subst (λ (v : Fronted). (x : List ℕ) × AreNums v.lists x × (c.as_slice.result.now ≡ v.front ++ x)) c.self.view_is
    (drop i.front i.bytes.items, c.self.invariant.spelled, c.as_slice.ensures.value ∙ sym (take-append-drop i.front i.bytes.items))
