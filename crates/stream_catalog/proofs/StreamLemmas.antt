-- Facts stay sound with other streams.
use Rattle.std.specs.Prelude.{◌≡◌, ℕ, ◌≤◌, Bool, List, [], ◌∷◌, ◌++◌, map, length, Some, true, false, if◌then◌else◌, bytes_eq}
use Rattle.std.specs.List.{flat_map}
use Rattle.std.proofs.Common.{refl, ap, sym, subst}
use Rattle.row_cells.specs.Each.{Each}
use Rattle.row_cells.specs.EachLaws.{Each-weaker}
use Rattle.downsample_fold.specs.Laws.{KeysAscend}
use Rattle.lifecycle_swap.specs.declared.lifecycles.Lifecycle.{Lifecycle}
use Rattle.stream_catalog.specs.Plain.{PlainStream, PlainFacts, facts_of}
use Rattle.stream_catalog.specs.Lists.{updated, stream_name}
use Rattle.stream_catalog.specs.Laws.{LivesKeepSound}
use Rattle.stream_catalog.specs.Sound.{AreOnce, IsHeld, IsStreamSound, AreFactsSound}
use Rattle.stream_catalog.proofs.NamedLemmas.{each_found, each_updated, names_updated}
use Rattle.stream_catalog.proofs.CountLemmas.{length-updated}

pub other_streams : (f : PlainFacts) (ss : List PlainStream) → Each (IsStreamSound f) ss → KeysAscend (map stream_name ss) → AreOnce (map stream_name ss ++ map (λ i. i.name) f.indices ++ map (λ t. t.target) f.tasks) →
    AreOnce (flat_map (λ (s : PlainStream). s.facts.members) ss) → length ss ≤ 1000 → AreFactsSound f → AreFactsSound (record f { streams = ss })
other_streams f ss each order once members few sound = record {
  templates = sound.templates;
  indices = Each-weaker (IsHeld f) (IsHeld (record f { streams = ss })) (λ i is. record { begins = is.begins; ends = is.ends; some = is.some; mapping = is.mapping; kind = is.kind; template = is.template }) f.indices sound.indices;
  streams = Each-weaker (IsStreamSound f) (IsStreamSound (record f { streams = ss })) (λ s is. record { generation = is.generation; life = is.life; template = is.template; some = is.some; members = is.members; windows = is.windows }) ss each;
  tasks = sound.tasks;
  indices_agree = sound.indices_agree;
  templates_agree = sound.templates_agree;
  template_order = sound.template_order;
  stream_order = order;
  index_order = sound.index_order;
  names_once = once;
  members_once = members;
  tasks_once = sound.tasks_once;
  few_templates = sound.few_templates;
  few_streams = few;
  few_indices = sound.few_indices;
}

-- ---- a lifecycle

lives : Lifecycle → PlainStream → PlainStream
lives life s = record s { life = Some life }

same_members : (n : List ℕ) (life : Lifecycle) (ss : List PlainStream) → flat_map (λ (s : PlainStream). s.facts.members) (updated stream_name n (lives life) ss) ≡ flat_map (λ (s : PlainStream). s.facts.members) ss
unfolding lives
same_members n life [] = refl
same_members n life (s ∷ ss) = by_test (bytes_eq s.facts.name n) (same_members n life ss)
  where
    by_test : (b : Bool) → flat_map (λ (t : PlainStream). t.facts.members) (updated stream_name n (lives life) ss) ≡ flat_map (λ (t : PlainStream). t.facts.members) ss
        → flat_map (λ (t : PlainStream). t.facts.members) (if b then lives life s ∷ ss else s ∷ updated stream_name n (lives life) ss) ≡ s.facts.members ++ flat_map (λ (t : PlainStream). t.facts.members) ss
    by_test true later = refl
    by_test false later = ap (λ ms. s.facts.members ++ ms) later

pub lives_keep_sound : LivesKeepSound
unfolding lives
lives_keep_sound c name life fits sound =
    let f = facts_of c in
    let names : map stream_name (updated stream_name name (lives life) c.streams) ≡ map stream_name c.streams = names_updated stream_name name (lives life) c.streams (λ s. refl) in
    record {
      facts = other_streams f (updated stream_name name (lives life) c.streams)
          (each_updated stream_name (IsStreamSound f) name (lives life) c.streams
          (λ s found. let is = each_found stream_name (IsStreamSound f) name c.streams s found sound.facts.streams in record { generation = is.generation; life = fits; template = is.template; some = is.some; members = is.members; windows = is.windows }) sound.facts.streams)
          (subst KeysAscend (sym names) sound.facts.stream_order)
          (subst (λ ns. AreOnce (ns ++ map (λ i. i.name) f.indices ++ map (λ t. t.target) f.tasks)) (sym names) sound.facts.names_once)
          (subst AreOnce (sym (same_members name life c.streams)) sound.facts.members_once)
          (subst (λ k. k ≤ 1000) (sym (length-updated stream_name name (lives life) c.streams)) sound.facts.few_streams)
          sound.facts;
      indices = sound.indices;
      tasks = sound.tasks;
    }
