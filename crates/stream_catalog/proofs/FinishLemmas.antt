-- What a unit leaves, by how many series are left.
use Rattle.std.specs.Prelude.{◌≡◌, ◌⊎◌, ℕ, ◌+◌, ◌==◌, ◌≤◌, ◌<◌, Bool, not, true, false, if◌then◌else◌, List, ◌∷◌, map, length, Option, None, Some, bytes_eq}
use Rattle.std.specs.Option.{option_map}
use Rattle.std.proofs.Common.{refl, ap, ◌∙◌, sym, subst, arith, inl, inr}
use Rattle.std.proofs.lemmas.Bool.{eqb-true, eq-eqb}
use Rattle.std.proofs.lemmas.Slice.Eq.{bytes_eq-Decides}
use Rattle.row_cells.specs.Each.{Each}
use Rattle.downsample_fold.specs.Laws.{series_of}
use Rattle.stream_catalog.specs.declared.facts.TaskFacts.{TaskFacts}
use Rattle.stream_catalog.specs.Plain.{PlainIndex, PlainCatalog, facts_of}
use Rattle.stream_catalog.specs.Ways.{plain_way}
use Rattle.stream_catalog.specs.Lists.{without, index_name, facts_named, index_named}
use Rattle.stream_catalog.specs.Indices.{folded_index}
use Rattle.stream_catalog.specs.Units.{with_renamed, swapped, next_done, advanced, advanced_at, unit_from, unit_of}
use Rattle.stream_catalog.specs.Laws.{UnitsCount, UnitsFinish}
use Rattle.stream_catalog.specs.Sound.{times, IsUnderWay}
use Rattle.stream_catalog.proofs.NamedLemmas.{found_name, named_inserted}
use Rattle.stream_catalog.proofs.CountLemmas.{named_new, times-filter, some_named, apart_of}
use Rattle.stream_catalog.proofs.ChangeLemmas.{facts_named-facts}
use Rattle.stream_catalog.proofs.DownsampleLemmas.{names_same}
use Rattle.stream_catalog.proofs.TemplateLemmas.{without-gone}
use Rattle.stream_catalog.proofs.UnitLemmas.{swap_told}

unit_is : (c : PlainCatalog) (task : TaskFacts) (rest : List TaskFacts) (i : PlainIndex) → c.tasks ≡ task ∷ rest → index_named task.index c.indices ≡ Some i → unit_of plain_way c ≡ advanced plain_way c task rest i
unfolding unit_of
unit_is c task rest i oldest there = ap (unit_from plain_way c) oldest ∙ ap (advanced_at plain_way c task rest) there

-- ---- which number comes next

next_fewer : (done series : ℕ) → done + 1 < series → (next_done done series ≡ done + 1) × ((next_done done series == series) ≡ false)
next_fewer done series less = by_test (done == series) (done + 1 == series) refl refl
  where
    by_test : (a b : Bool) → (done == series) ≡ a → (done + 1 == series) ≡ b → ((if a then done else done + 1) ≡ done + 1) × (((if a then done else done + 1) == series) ≡ false)
    by_test true b same also = absurd (omega (arith, less, eqb-true done series same))
    by_test false true other same = absurd (omega (arith, less, eqb-true (done + 1) series same))
    by_test false false other not_same = (refl, not_same)

next_last : (done series : ℕ) → (done < series) ⊎ ((done ≡ 0) × (series ≡ 0)) → series ≤ done + 1 → (next_done done series == series) ≡ true
next_last done series way few = by_test (done == series) refl way
  where
    by_test : (a : Bool) → (done == series) ≡ a → (done < series) ⊎ ((done ≡ 0) × (series ≡ 0)) → ((if a then done else done + 1) == series) ≡ true
    by_test true same way = same
    by_test false other way = elim way [
      | inl less ↦ eq-eqb (done + 1) series (omega (arith, less, few))
      | inr none ↦ absurd (no (sym other ∙ eq-eqb done series (omega (arith, none.0, none.1))))
    ]
      where
        no : false ≡ true → ⊥
        no e = cc

-- ---- units

pub units_count : UnitsCount
units_count c task rest i oldest there less = unit_is c task rest i oldest there ∙ by_last (next_fewer task.done series less)
  where
    series : ℕ
    series = length (series_of i.rows)

    by_last : (next_done task.done series ≡ task.done + 1) × ((next_done task.done series == series) ≡ false) → advanced plain_way c task rest i ≡ record c { tasks = record task { done = task.done + 1 } ∷ rest }
    by_last next =
        ap (λ b. if b then swapped plain_way (record c { tasks = rest }) task i else record c { tasks = record task { done = next_done task.done series } ∷ rest }) next.1
        ∙ ap (λ k. record c { tasks = record task { done = k } ∷ rest }) next.0

-- no index has a name that stands nowhere
none_named : (n : List ℕ) (is : List PlainIndex) → times n (map index_name is) ≡ 0 → index_named n is ≡ None
none_named n is none = by_found (index_named n is) refl
  where
    by_found : (o : Option PlainIndex) → index_named n is ≡ o → o ≡ None
    by_found None found = refl
    by_found (Some i) found = let some = some_named index_name n is i found in absurd (omega (arith, none, some))

pub units_finish : UnitsFinish
units_finish c task rest i sound oldest there few = record {
  tasks = ap (λ (d : PlainCatalog). d.tasks) ends;
  there = ap (λ (d : PlainCatalog). index_named task.target d.indices) ends ∙ named_new index_name new left fresh_left;
  gone = ap (λ (d : PlainCatalog). index_named task.index d.indices) ends ∙ (named_inserted index_name task.index new left apart ∙ none_named task.index left gone_left);
  streams = ap (λ (d : PlainCatalog). d.streams) ends ∙ ap (λ n. map (with_renamed n task.target) c.streams) at;
}
  where
    series : ℕ
    series = length (series_of i.rows)

    under_way : IsUnderWay task.done (Some i)
    under_way = subst (IsUnderWay task.done) there (subst (Each (λ t. IsUnderWay t.done (index_named t.index c.indices))) oldest sound.tasks).0

    ends : unit_of plain_way c ≡ swapped plain_way (record c { tasks = rest }) task i
    ends =
        unit_is c task rest i oldest there
        ∙ ap (λ b. if b then swapped plain_way (record c { tasks = rest }) task i else record c { tasks = record task { done = next_done task.done series } ∷ rest }) (next_last task.done series under_way few)

    new : PlainIndex
    new = folded_index plain_way task.target task.rises task.by i

    left : List PlainIndex
    left = without index_name i.facts.name c.indices

    at : i.facts.name ≡ task.index
    at = (bytes_eq-Decides i.facts.name task.index).0 (found_name index_name task.index c.indices i there)

    facts_there : facts_named task.index (facts_of c).indices ≡ Some i.facts
    facts_there = facts_named-facts task.index c.indices ∙ ap (option_map (λ (j : PlainIndex). j.facts)) there

    fresh : times task.target (map index_name c.indices) ≡ 0
    fresh = subst (λ ns. times task.target ns ≡ 0) (names_same c.indices) (swap_told (facts_of c) task rest i.facts oldest facts_there sound.facts).0

    fresh_left : times task.target (map index_name left) ≡ 0
    fresh_left = let fewer = times-filter index_name (λ k. not (bytes_eq k.facts.name i.facts.name)) task.target c.indices in omega (arith, fresh, fewer)

    apart : bytes_eq task.target task.index ≡ false
    apart = apart_of task.target task.index (map index_name c.indices) fresh (some_named index_name task.index c.indices i there)

    gone_left : times task.index (map index_name left) ≡ 0
    gone_left = subst (λ n. times n (map index_name left) ≡ 0) at (without-gone index_name i.facts.name c.indices)
