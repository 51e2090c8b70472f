use Rattle.std.proofs.Common.{◌≡◌, ◌<◌, ◌∙◌, ℕ, ℤ, List, [], length, get_or, map, sym, subst, ap, arith}
use Rattle.std.proofs.lemmas.List.{get_or_default, get_or-map}
use Rattle.packed_lists.specs.Decoded.{values_at}
use Rattle.packed_lists.specs.Lists.{Fronted}
use Rattle.packed_lists.specs.Laws.Listed.{placed-at, places-lists}
use Rattle.packed_lists.proofs.packed.PackedLists.cursor.Goals as goal

pub over-requires : goal.over-requires
over-requires c =
    let i = c.self.inside in
    let k = c.args.list in
    let lists = map (values_at i.bytes.items) i.places.items in
    let less : k < length lists = subst (λ (v : Fronted). k < length v.lists) (sym c.self.view_is) c.requires in
    let there : k < length i.places.items = omega (arith, less, places-lists i.bytes.items i.places.items lists c.self.invariant.placed) in
    let found : c.as_slice-3.result.now ≡ get_or i.places.items k [] = c.as_slice-3.ensures ∙ c.index-as_slice-list.is ∙ ap (λ (z : List (List ℕ)). get_or z k c.index-as_slice-list.result) c.as_slice-2.ensures.value ∙ get_or_default i.places.items k c.index-as_slice-list.result [] there in
    (get_or lists k [], rw (c.as_slice.ensures.value, found) (placed-at i.bytes.items i.places.items lists k c.self.invariant.placed less), ap (λ (z : List ℕ). get_or z k 0) (c.as_slice-4.ensures.value ∙ c.self.invariant.counted) ∙ get_or-map (λ (us : List ℤ). length us) lists k [] 0 less)

pub returns : goal.returns
returns c =
    let i = c.self.inside in
    let k = c.args.list in
    let lists = map (values_at i.bytes.items) i.places.items in
    let less : k < length lists = subst (λ (v : Fronted). k < length v.lists) (sym c.self.view_is) c.requires in
    let there : k < length i.places.items = omega (arith, less, places-lists i.bytes.items i.places.items lists c.self.invariant.placed) in
    let found : c.as_slice-3.result.now ≡ get_or i.places.items k [] = c.as_slice-3.ensures ∙ c.index-as_slice-list.is ∙ ap (λ (z : List (List ℕ)). get_or z k c.index-as_slice-list.result) c.as_slice-2.ensures.value ∙ get_or_default i.places.items k c.index-as_slice-list.result [] there in
    c.over.ensures (get_or lists k []) (rw (c.as_slice.ensures.value, found) (placed-at i.bytes.items i.places.items lists k c.self.invariant.placed less)) ∙ ap (λ (v : Fronted). get_or v.lists k []) c.self.view_is
