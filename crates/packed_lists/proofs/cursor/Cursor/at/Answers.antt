use Rattle.std.proofs.Common.{◌∙◌, ◌<◌, ◌/◌, sym, subst, ap, get_or, length, pos, ℤ, List}
use Rattle.std.specs.Int.{w64}
use Rattle.std.proofs.lemmas.Int.{to_z-of_z}
use Rattle.packed_lists.proofs.Loading.{block-there, loaded-at, loaded-cached}
use Rattle.packed_lists.proofs.cursor.Cursor.at.Goals as goal

pub load-requires-clause-within : goal.load-requires-clause-within
load-requires-clause-within c =
    let i = c.self.inside in
    block-there i.bytes.now i.places.now _ c.args.place c.self.invariant.placed (subst (λ (z : List ℤ). c.args.place < length z) (sym c.self.view_is) c.requires)

pub returns-clause-number : goal.returns-clause-number
returns-clause-number c =
    let h = c.load.ensures _ c.self.invariant.placed c.self.invariant.cached in
    to_z-of_z w64 c.number_in.result (record { sfits = c.number_in.type_inv }) ∙ c.number_in.ensures ∙ loaded-at _ c.args.place c.load.new.cache h (subst (λ (z : List ℤ). c.args.place < length z) (sym c.self.view_is) c.requires) ∙ ap (λ (z : List ℤ). get_or z c.args.place (pos 0)) c.self.view_is

pub invariant_of-self : goal.invariant_of-self
invariant_of-self c =
    let i = c.self.invariant in
    record { placed = i.placed; count = i.count; cached = loaded-cached _ (c.args.place / 128) c.load.new.cache (c.load.ensures _ i.placed i.cached) }
