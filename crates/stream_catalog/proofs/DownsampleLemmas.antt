-- A catalogue with a fold more stays sound.
use Rattle.std.specs.Prelude.{◌≡◌, ℕ, Bool, List, [], ◌∷◌, map, length, Option, Some, None}
use Rattle.std.specs.Option.{option_map}
use Rattle.std.proofs.Common.{refl, ap, ◌∙◌, sym, subst}
use Rattle.std.proofs.lemmas.Bool.{leb-false}
use Rattle.row_cells.specs.Each.{Each}
use Rattle.row_cells.specs.EachLaws.{Each-weaker}
use Rattle.time_text.specs.declared.intervals.Interval.{Interval}
use Rattle.stream_catalog.specs.declared.facts.HeldIndex.{HeldIndex}
use Rattle.stream_catalog.specs.Plain.{PlainIndex, PlainFacts, facts_of}
use Rattle.stream_catalog.specs.Ways.{plain_way}
use Rattle.stream_catalog.specs.Lists.{with_found, inserted, index_name, facts_name, facts_named, index_named}
use Rattle.stream_catalog.specs.Indices.{folded_facts, folded_index}
use Rattle.stream_catalog.specs.Laws.{DownsamplesKeepSound}
use Rattle.stream_catalog.specs.Sound.{times, form_of, template_form, Agrees, IsHeld, IsIndexSound, IsUnderWay, AreFactsSound, IsSoundCatalog}
use Rattle.stream_catalog.proofs.NamedLemmas.{inserted-map, each_found, each_inserted, named_inserted}
use Rattle.stream_catalog.proofs.CountLemmas.{some_named, apart_of}
use Rattle.stream_catalog.proofs.ChangeLemmas.{facts_named-facts}
use Rattle.stream_catalog.proofs.CatalogLemmas.{held_of, sound_of, may_downsample}
use Rattle.stream_catalog.proofs.FoldedLemmas.{may_fold, same_mark}
use Rattle.stream_catalog.proofs.AddedLemmas.{Suits, each_of_map, added_sound, alone_of}
use Rattle.stream_catalog.proofs.WiderLemmas.{folded_index-sound}

-- the facts of a fold are sound where those of its source are
pub folded_held : (f : PlainFacts) (target : List ℕ) (rises : Bool) (by : Interval) (i : HeldIndex) → IsHeld f i → IsHeld f (folded_facts target rises by i)
folded_held f target rises by i is = record {
  begins = is.begins;
  ends = is.ends;
  some = is.some;
  mapping = record {
    schema = record {
      mapped = record { ascending = is.mapping.schema.mapped.ascending; paths = is.mapping.schema.mapped.paths; routing = is.mapping.schema.mapped.routing };
      fields = is.mapping.schema.fields;
      apart = is.mapping.schema.apart;
      timed = is.mapping.schema.timed;
      few = is.mapping.schema.few;
      routing_ascends = is.mapping.schema.routing_ascends;
      routed = is.mapping.schema.routed;
    };
    shards = is.mapping.shards;
  };
  kind = (refl, refl);
  template = is.template;
}

-- an index that is there suits
pub suits_there : (f : PlainFacts) (n : List ℕ) (i : HeldIndex) → facts_named n f.indices ≡ Some i → AreFactsSound f → Suits f (form_of i)
suits_there f n i found sound =
    let row = each_found facts_name (λ k. Each (Agrees (form_of k)) (map form_of f.indices)) n f.indices i found (each_of_map form_of (λ a. Each (Agrees a) (map form_of f.indices)) f.indices sound.indices_agree) in
    record {
      itself = each_found facts_name (λ k. Agrees (form_of i) (form_of k)) n f.indices i found (each_of_map form_of (Agrees (form_of i)) f.indices row);
      others = row;
      by_others = Each-weaker (λ a. Each (Agrees a) (map form_of f.indices)) (λ a. Agrees a (form_of i))
          (λ a all. each_found facts_name (λ k. Agrees a (form_of k)) n f.indices i found (each_of_map form_of (Agrees a) f.indices all)) (map form_of f.indices) sound.indices_agree;
      templates = each_found facts_name (λ k. Each (Agrees (form_of k)) (map template_form f.templates)) n f.indices i found (each_of_map form_of (λ a. Each (Agrees a) (map template_form f.templates)) f.indices sound.templates_agree);
    }

pub names_same : (is : List PlainIndex) → map facts_name (map (λ i. i.facts) is) ≡ map index_name is
names_same [] = refl
names_same (i ∷ is) = ap (λ ns. i.facts.name ∷ ns) (names_same is)

-- a task goes on beside a new index
pub goes_on : (j : PlainIndex) (is : List PlainIndex) (m : List ℕ) (done : ℕ) → times j.facts.name (map index_name is) ≡ 0 → IsUnderWay done (index_named m is) → IsUnderWay done (index_named m (inserted index_name j is))
goes_on j is m done none way = by_found (index_named m is) refl way
  where
    by_found : (o : Option PlainIndex) → index_named m is ≡ o → IsUnderWay done o → IsUnderWay done (index_named m (inserted index_name j is))
    by_found None found way = absurd way
    by_found (Some i) found way =
        subst (IsUnderWay done) (sym (named_inserted index_name m j is (apart_of j.facts.name m (map index_name is) none (some_named index_name m is i found)) ∙ found)) way

pub downsamples_keep_sound : DownsamplesKeepSound
downsamples_keep_sound c source target by sound none = by_found (index_named source c.indices) refl
  where
    by_found : (o : Option PlainIndex) → index_named source c.indices ≡ o → IsSoundCatalog (with_found o c (λ i. record c { indices = inserted index_name (folded_index plain_way target i.facts.mapping.schema.rises by i) c.indices }))
    by_found None is = sound
    by_found (Some i) is =
        let f = facts_of c in
        let named : facts_named source f.indices ≡ Some i.facts = facts_named-facts source c.indices ∙ ap (option_map (λ (j : PlainIndex). j.facts)) is in
        let told = may_downsample f source target by i.facts named none in
        let rises = i.facts.mapping.schema.rises in
        let j = folded_index plain_way target rises by i in
        let alone : times target (map facts_name f.indices) ≡ 0 = alone_of f target told.free in
        let at : map (λ (k : PlainIndex). k.facts) (inserted index_name j c.indices) ≡ inserted facts_name j.facts f.indices = inserted-map (λ (k : PlainIndex). k.facts) index_name facts_name (λ k. refl) j c.indices in
        record {
          facts = subst (λ fs. AreFactsSound (record f { indices = fs })) (sym at)
              (added_sound f j.facts told.free (folded_held f target rises by i.facts (held_of c source i sound is)) (suits_there f source i.facts named sound.facts) (leb-false 10000 (length f.indices) told.room) sound.facts);
          indices = each_inserted index_name IsIndexSound j c.indices (folded_index-sound target rises by i (sound_of c source i sound is) (may_fold i.facts.interval rises rises by told.fault (same_mark i.facts.interval rises))) sound.indices;
          tasks = Each-weaker (λ t. IsUnderWay t.done (index_named t.index c.indices)) (λ t. IsUnderWay t.done (index_named t.index (inserted index_name j c.indices)))
              (λ t way. goes_on j c.indices t.index t.done (subst (λ ns. times target ns ≡ 0) (names_same c.indices) alone) way) c.tasks sound.tasks;
        }
