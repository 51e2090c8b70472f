-- A name stands for what is seen of the same indices, by the starts of their windows.
use Rattle.std.specs.Prelude.{◌≡◌, ◌≤ℤ◌, ◌<ℤ◌, ℕ, ℤ, List, [], ◌∷◌, map, Option, Some, None}
use Rattle.std.specs.List.{cons_option, filter_map}
use Rattle.std.specs.Option.{option_map}
use Rattle.std.proofs.Common.{refl, ap, ◌∙◌, sym, subst, arith}
use Rattle.std.proofs.lemmas.Int.{ints}
use Rattle.row_cells.specs.Each.{Each}
use Rattle.row_cells.specs.EachLaws.{Each-weaker}
use Rattle.stream_catalog.specs.FoundLaws.{StreamsFound}
use Rattle.stream_catalog.specs.Laws.{FoundIsHeld, LookupsStay}
use Rattle.stream_catalog.specs.Lists.{with_found, stream_named, facts_named, index_named, members_of}
use Rattle.stream_catalog.specs.Plain.{PlainIndex, PlainStream, PlainCatalog, facts_of}
use Rattle.stream_catalog.specs.Sound.{EndsBefore, WindowsFollow}
use Rattle.stream_catalog.specs.Ways.{see_index, see_catalog}
use Rattle.stream_catalog.specs.declared.facts.HeldIndex.{HeldIndex}
use Rattle.tsds_service.specs.Questions.{target_of}
use Rattle.tsds_service.specs.TargetLaws.{TargetsStay, StartsAscend, TargetsAscend}
use Rattle.tsds_service.proofs.ItemLemmas.{none_not_some, some_is}
use Rattle.tsds_service.proofs.PickLemmas.{facts-index, members-see}

-- ---- what is seen of a target

module _ (lookups : LookupsStay) (c : PlainCatalog) where
  target-see : (name : List ℕ) → target_of (see_catalog c) name ≡ option_map (map see_index) (target_of c name)
  target-see name = by_stream (stream_named name c.streams)
    where
      alone : Option PlainIndex → Option (List PlainIndex)
      alone o = with_found o None (λ i. Some (i ∷ []))

      by_index : (o : Option PlainIndex) → alone (option_map see_index o) ≡ option_map (map see_index) (alone o)
      by_index None = refl
      by_index (Some i) = refl

      by_stream : (o : Option PlainStream) → with_found o (alone (index_named name (see_catalog c).indices)) (λ s. Some (members_of (see_catalog c) s))
          ≡ option_map (map see_index) (with_found o (alone (index_named name c.indices)) (λ s. Some (members_of c s)))
      by_stream None = ap alone (lookups c name) ∙ by_index (index_named name c.indices)
      by_stream (Some s) = ap (λ (is : List PlainIndex). Some is) (members-see lookups c s.facts.members)

pub targets_stay : LookupsStay → TargetsStay
targets_stay lookups c name = target-see lookups c name

-- ---- the order of a stream's members

module _ (look : List ℕ → Option PlainIndex) (some : (m : List ℕ) (i : PlainIndex) → look m ≡ Some i → i.facts.start <ℤ i.facts.end) where
  abbrev windows : List (List ℕ) → List (Option HeldIndex)
  windows ms = map (λ m. option_map (λ (i : PlainIndex). i.facts) (look m)) ms

  abbrev StartsFrom : ℤ → Option PlainIndex → Type 0
  StartsFrom t None = Unit {0}
  StartsFrom t (Some i) = t ≤ℤ i.facts.start

  -- windows that begin no earlier than a time do so all
  begin_from : (t : ℤ) (m : List ℕ) (ms : List (List ℕ)) → WindowsFollow (windows (m ∷ ms)) → StartsFrom t (look m) → Each (λ (i : PlainIndex). t ≤ℤ i.facts.start) (filter_map look (m ∷ ms))
  begin_from t m [] follow from = by_found (look m) from
    where
      by_found : (o : Option PlainIndex) → StartsFrom t o → Each (λ (i : PlainIndex). t ≤ℤ i.facts.start) (cons_option o [])
      by_found None from = tt
      by_found (Some i) from = (from, tt)
  begin_from t m (k ∷ ms) follow from = by_found (look m) (look k) refl follow.0 from (begin_from t k ms follow.1)
    where
      by_found : (o p : Option PlainIndex) → look m ≡ o → EndsBefore (option_map (λ (i : PlainIndex). i.facts) o) (option_map (λ (i : PlainIndex). i.facts) p) → StartsFrom t o
          → (StartsFrom t p → Each (λ (i : PlainIndex). t ≤ℤ i.facts.start) (filter_map look (k ∷ ms))) → Each (λ (i : PlainIndex). t ≤ℤ i.facts.start) (cons_option o (filter_map look (k ∷ ms)))
      by_found None p here ends from later = absurd ends
      by_found (Some i) None here ends from later = absurd ends
      by_found (Some i) (Some j) here ends from later = let begins = some m i here in (from, later (omega (arith, ints, from, begins, ends)))

  ascend : (ms : List (List ℕ)) → WindowsFollow (windows ms) → StartsAscend (filter_map look ms)
  ascend [] follow = tt
  ascend (m ∷ []) follow = by_found (look m)
    where
      by_found : (o : Option PlainIndex) → StartsAscend (cons_option o [])
      by_found None = tt
      by_found (Some i) = (tt, tt)
  ascend (m ∷ k ∷ ms) follow = by_found (look m) (look k) refl refl follow.0 (ascend (k ∷ ms) follow.1)
    where
      by_found : (o p : Option PlainIndex) → look m ≡ o → look k ≡ p → EndsBefore (option_map (λ (i : PlainIndex). i.facts) o) (option_map (λ (i : PlainIndex). i.facts) p)
          → StartsAscend (filter_map look (k ∷ ms)) → StartsAscend (cons_option o (filter_map look (k ∷ ms)))
      by_found None p here there ends later = absurd ends
      by_found (Some i) None here there ends later = absurd ends
      by_found (Some i) (Some j) here there ends later =
          let begins = some m i here in
          let from : StartsFrom i.facts.end (look k) = subst (StartsFrom i.facts.end) (sym there) ends in (
            Each-weaker (λ (x : PlainIndex). i.facts.end ≤ℤ x.facts.start) (λ x. i.facts.start <ℤ x.facts.start) (λ x above. omega (arith, ints, begins, above))
                (filter_map look (k ∷ ms)) (begin_from i.facts.end k ms follow.1 from),
            later,
          )

windows-facts : (c : PlainCatalog) (ms : List (List ℕ)) → map (λ m. facts_named m (facts_of c).indices) ms ≡ map (λ m. option_map (λ (i : PlainIndex). i.facts) (index_named m c.indices)) ms
windows-facts c [] = refl
windows-facts c (m ∷ ms) =
    ap (λ o. o ∷ map (λ k. facts_named k (facts_of c).indices) ms) (facts-index m c.indices)
    ∙ ap (λ os. option_map (λ (i : PlainIndex). i.facts) (index_named m c.indices) ∷ os) (windows-facts c ms)

pub targets_ascend : FoundIsHeld → StreamsFound → TargetsAscend
targets_ascend held streams m name is sound told = by_stream (stream_named name c.streams) refl told
  where
    c : PlainCatalog
    c = m.catalog

    by_index : (o : Option PlainIndex) → with_found o None (λ i. Some (i ∷ [])) ≡ Some is → StartsAscend is
    by_index None told = absurd (none_not_some told)
    by_index (Some i) told = subst StartsAscend (some_is told) (tt, tt)

    by_stream : (o : Option PlainStream) → stream_named name c.streams ≡ o →
        with_found o (with_found (index_named name c.indices) None (λ i. Some (i ∷ []))) (λ s. Some (members_of c s)) ≡ Some is → StartsAscend is
    by_stream None found told = by_index (index_named name c.indices) told
    by_stream (Some s) found told =
        subst StartsAscend (some_is told)
        (ascend (λ n. index_named n c.indices) (λ n i there. (held c n i sound.catalog there).some) s.facts.members
        (subst WindowsFollow (windows-facts c s.facts.members) (streams c name s sound.catalog found).sound.windows))
