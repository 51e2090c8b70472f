-- A catalogue with a blocked index stays sound.
use Rattle.std.specs.Prelude.{◌≡◌, ℕ, ◌<◌, ◌⊎◌, Bool, List, length, Option, Some, None, true, false, bytes_eq}
use Rattle.std.specs.Option.{option_map}
use Rattle.std.proofs.Common.{refl, sym, subst}
use Rattle.std.proofs.lemmas.Slice.Eq.{bytes_eq-Decides}
use Rattle.row_cells.specs.EachLaws.{Each-weaker}
use Rattle.time_text.specs.declared.intervals.Interval.{Interval}
use Rattle.downsample_fold.specs.Laws.{series_of}
use Rattle.stream_catalog.specs.declared.facts.HeldIndex.{HeldIndex}
use Rattle.stream_catalog.specs.Plain.{PlainIndex, PlainFacts, facts_of}
use Rattle.stream_catalog.specs.Lists.{updated, index_name, facts_name, index_named}
use Rattle.stream_catalog.specs.Indices.{blocked_index}
use Rattle.stream_catalog.specs.Laws.{BlocksKeepSound}
use Rattle.stream_catalog.specs.Sound.{IsHeld, IsKind, IsIndexSound, IsUnderWay, AreFactsSound}
use Rattle.stream_catalog.proofs.NamedLemmas.{updated-map, each_updated, named_updated, named_updated_here}
use Rattle.stream_catalog.proofs.CatalogLemmas.{sound_of}
use Rattle.stream_catalog.proofs.FactLemmas.{changed_sound}

pub blocked_facts : HeldIndex → HeldIndex
blocked_facts i = record i { blocked = true }

blocked_kind : (i : HeldIndex) (interval : Option Interval) → IsKind interval i.blocked i.mapping.schema → IsKind interval true i.mapping.schema
blocked_kind i None kind = kind
blocked_kind i (Some by) kind = (kind.0, refl)

blocked_held : (f : PlainFacts) (i : HeldIndex) → IsHeld f i → IsHeld f (blocked_facts i)
unfolding blocked_facts
blocked_held f i is = record {
  begins = is.begins;
  ends = is.ends;
  some = is.some;
  mapping = is.mapping;
  kind = blocked_kind i i.interval is.kind;
  template = is.template;
}

blocked_facts_sound : (f : PlainFacts) (n : List ℕ) → AreFactsSound f → AreFactsSound (record f { indices = updated facts_name n blocked_facts f.indices })
unfolding blocked_facts
blocked_facts_sound f n sound =
    changed_sound n blocked_facts (λ i. refl) (λ i. refl) (λ i. refl) f (λ i found is. blocked_held f i is) (λ by rises i is. (refl, is.1, is.2)) sound

-- a task goes on whose index keeps its rows
pub still_under_way : (n m : List ℕ) (g : PlainIndex → PlainIndex) (is : List PlainIndex) (done : ℕ) → ((i : PlainIndex) → index_name (g i) ≡ index_name i) → ((i : PlainIndex) → (g i).rows ≡ i.rows) →
    IsUnderWay done (index_named m is) → IsUnderWay done (index_named m (updated index_name n g is))
still_under_way n m g is done keeps rows way = by_test (bytes_eq n m) refl
  where
    by_found : (o : Option PlainIndex) → IsUnderWay done o → IsUnderWay done (option_map g o)
    by_found None way = way
    by_found (Some i) way = subst (λ rs. (done < length (series_of rs)) ⊎ ((done ≡ 0) × (length (series_of rs) ≡ 0))) (sym (rows i)) way

    by_test : (b : Bool) → bytes_eq n m ≡ b → IsUnderWay done (index_named m (updated index_name n g is))
    by_test true here =
        subst (λ k. IsUnderWay done (index_named k (updated index_name n g is))) ((bytes_eq-Decides n m).0 here)
        (subst (IsUnderWay done) (sym (named_updated_here index_name n g is keeps)) (by_found (index_named n is) (subst (λ k. IsUnderWay done (index_named k is)) (sym ((bytes_eq-Decides n m).0 here)) way)))
    by_test false other = subst (IsUnderWay done) (sym (named_updated index_name n m g is keeps other)) way

pub blocks_keep_sound : BlocksKeepSound
unfolding blocked_facts
blocks_keep_sound c n sound = record {
  facts = subst (λ fs. AreFactsSound (record (facts_of c) { indices = fs }))
      (sym (updated-map (λ (i : PlainIndex). i.facts) index_name facts_name (λ i. refl) n blocked_index blocked_facts c.indices (λ i found. refl)))
      (blocked_facts_sound (facts_of c) n sound.facts);
  indices = each_updated index_name IsIndexSound n blocked_index c.indices
      (λ i found. let was = sound_of c n i sound found in record { rows = was.rows; distinct = was.distinct; few = was.few }) sound.indices;
  tasks = Each-weaker (λ t. IsUnderWay t.done (index_named t.index c.indices)) (λ t. IsUnderWay t.done (index_named t.index (updated index_name n blocked_index c.indices)))
      (λ t way. still_under_way n t.index blocked_index c.indices t.done (λ i. refl) (λ i. refl) way) c.tasks sound.tasks;
}
