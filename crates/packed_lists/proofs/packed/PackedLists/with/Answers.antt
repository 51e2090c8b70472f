use Rattle.std.proofs.Common.{◌≡◌, ◌∙◌, ◌+◌, ◌<◌, ◌^◌, ◌++◌, ℕ, ℤ, List, [], ◌∷◌, length, map, ap, arith, rules}
use Rattle.std.proofs.lemmas.List.{length-append}
use Rattle.packed_lists.specs.Decoded.{values_at}
use Rattle.packed_lists.specs.Lists.{Fronted, AreHeld}
use Rattle.packed_lists.specs.Laws.Listed.{lists-are}
use Rattle.packed_lists.proofs.Listing.{places-fit, more-held}
use Rattle.packed_lists.proofs.packed.PackedLists.with.Goals as goal

pub move_places-requires : goal.move_places-requires
move_places-requires c =
    let old = c.self.inside.bytes.items in
    let more = c.list.inside in
    let by : c.len-by.result ≡ length old = search rules in
    let long : length c.extend_from_slice.new.self.items < 2 ^ 64 = search rules in
    let e : c.extend_from_slice.new.self.items ≡ old ++ more.bytes.items = c.in_ok-extend_from_slice.ensures.items ∙ ap (λ z. old ++ z) c.as_slice.ensures.value in
    rw c.as_slice-2.ensures.value (places-fit more.bytes.items more.places.items _ c.len-by.result c.list.invariant.placed (omega (arith, by, long, ap (λ (z : List ℕ). length z) e, length-append old more.bytes.items)))

pub invariant_of-result : goal.invariant_of-result
invariant_of-result c =
    let i = c.self.inside in
    let more = c.list.inside in
    let old = i.bytes.items in
    let lists = map (values_at old) i.places.items in
    let vs = values_at more.bytes.items more.places.items in
    let by : c.len-by.result ≡ length old = search rules in
    let e : c.extend_from_slice.new.self.items ≡ old ++ more.bytes.items = c.in_ok-extend_from_slice.ensures.items ∙ ap (λ z. old ++ z) c.as_slice.ensures.value in
    let moved : c.in_ok-move_places.field-0 ≡ map (λ at. at + length old) more.places.items = c.in_ok-move_places.ensures ∙ ap (map (λ at. at + c.len-by.result)) c.as_slice-2.ensures.value ∙ ap (λ n. map (λ at. at + n) more.places.items) by in
    let h : AreHeld i.front c.extend_from_slice.new.self.items c.push.new.self.items c.push-2.new.self.items (lists ++ vs ∷ []) =
    more-held i.front more.len old _ i.lens.items _ more.bytes.items more.places.items i.places.items _ lists vs c.self.invariant c.list.invariant e (c.in_ok-push.ensures.items ∙ ap (λ z. i.places.items ++ z ∷ []) moved) c.in_ok-push-2.ensures.items in
    rw (lists-are c.extend_from_slice.new.self.items c.push.new.self.items (lists ++ vs ∷ []) h.placed) h

pub returns-clause-lists : goal.returns-clause-lists
returns-clause-lists c =
    let i = c.self.inside in
    let more = c.list.inside in
    let old = i.bytes.items in
    let lists = map (values_at old) i.places.items in
    let vs = values_at more.bytes.items more.places.items in
    let by : c.len-by.result ≡ length old = search rules in
    let e : c.extend_from_slice.new.self.items ≡ old ++ more.bytes.items = c.in_ok-extend_from_slice.ensures.items ∙ ap (λ z. old ++ z) c.as_slice.ensures.value in
    let moved : c.in_ok-move_places.field-0 ≡ map (λ at. at + length old) more.places.items = c.in_ok-move_places.ensures ∙ ap (map (λ at. at + c.len-by.result)) c.as_slice-2.ensures.value ∙ ap (λ n. map (λ at. at + n) more.places.items) by in
    let h : AreHeld i.front c.extend_from_slice.new.self.items c.push.new.self.items c.push-2.new.self.items (lists ++ vs ∷ []) =
    more-held i.front more.len old _ i.lens.items _ more.bytes.items more.places.items i.places.items _ lists vs c.self.invariant c.list.invariant e (c.in_ok-push.ensures.items ∙ ap (λ z. i.places.items ++ z ∷ []) moved) c.in_ok-push-2.ensures.items in
    lists-are c.extend_from_slice.new.self.items c.push.new.self.items (lists ++ vs ∷ []) h.placed
    ∙ ap (λ (v : Fronted). v.lists ++ vs ∷ []) c.self.view_is ∙ ap (λ (v : List ℤ). c.args.self.lists ++ v ∷ []) c.list.view_is
