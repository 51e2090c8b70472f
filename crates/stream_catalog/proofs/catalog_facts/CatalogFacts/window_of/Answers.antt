use Rattle.std.proofs.Common.{◌≡◌, ℕ, suc, ◌-◌, ◌∙◌, ap, sym, arith, to_z, of_z, w64}
use Rattle.std.proofs.lemmas.Int.{to_z-of_z}
use Rattle.stream_catalog.specs.Picks.{begun_of}
use Rattle.stream_catalog.proofs.PickLemmas.{opened, picks_none}
use Rattle.stream_catalog.proofs.catalog_facts.CatalogFacts.window_of.Goals as goal

pub returns-then-begun-eq0 : goal.returns-then-begun-eq0
returns-then-begun-eq0 c =
    let count = ap (λ t. begun_of c.args.self.now.indices t c.args.members.now) (sym (to_z-of_z w64 c.args.time c.ranges.time)) ∙ (sym c.count_begun-begun.ensures.count ∙ c.if-begun-eq0.true) in
    sym (picks_none c.args.self.now.indices c.args.time c.requires.some c.args.members.now c.requires.follow count)

one_before : (begun : ℕ) → (begun ≡ 0 → ⊥) → begun ≡ suc (begun - 1)
one_before begun some = omega (arith, some)

pub returns : goal.returns
returns c =
    let begun = c.count_begun-begun.result in
    opened c.args.self.now.indices c.args.time (to_z w64 (of_z w64 c.args.time)) c.args.members.now begun (begun - 1) c.index-members-begun.result _ c.requires (to_z-of_z w64 c.args.time c.ranges.time)
    c.count_begun-begun.ensures.count (one_before begun c.if-begun-eq0.false) c.index-members-begun.is c.if_open.ensures
