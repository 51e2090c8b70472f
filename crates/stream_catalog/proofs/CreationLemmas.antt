-- Write indices, and streams that are put in and taken out again.
use Rattle.std.specs.Prelude.{◌≡◌, ℕ, List, [], ◌∷◌, ◌++◌, Some, None}
use Rattle.std.proofs.Common.{refl, ap, ◌∙◌, sym, subst}
use Rattle.ts_mapping.specs.declared.templates.Template.{Template}
use Rattle.stream_catalog.specs.declared.facts.HeldIndex.{HeldIndex}
use Rattle.stream_catalog.specs.declared.facts.TaskFacts.{TaskFacts}
use Rattle.stream_catalog.specs.Plain.{PlainStream, PlainFacts}
use Rattle.stream_catalog.specs.Lists.{with_found, inserted, without, stream_name, stream_named}
use Rattle.stream_catalog.specs.Streams.{last_of, write_name}
use Rattle.stream_catalog.proofs.PlaceLemmas.{without_inserted}

last_end : (xs : List (List ℕ)) (x : List ℕ) → last_of (xs ++ x ∷ []) ≡ Some x
last_end [] x = refl
last_end (y ∷ []) x = refl
last_end (y ∷ z ∷ zs) x = last_end (z ∷ zs) x

-- the last member is the write index
pub write_told : (s : PlainStream) (members rest : List (List ℕ)) (last n : List ℕ) → n ≡ last → members ≡ rest ++ last ∷ [] → members ≡ s.facts.members → n ≡ write_name s
write_told s members rest last n is split same = is ∙ sym (ap (λ o. with_found o [] (λ m. m)) (ap last_of (sym same ∙ split) ∙ last_end rest last))

-- a stream that was put in is taken out by its name
pub stream_undone : (n m : List ℕ) (s : PlainStream) (old put left : List PlainStream) → s.facts.name ≡ n → m ≡ n → stream_named n old ≡ None → (stream_named s.facts.name old ≡ None → put ≡ inserted stream_name s old) →
    left ≡ without stream_name m put → left ≡ old
stream_undone n m s old put left named same none fresh left_is =
    let new : stream_named s.facts.name old ≡ None = subst (λ k. stream_named k old ≡ None) (sym named) none in
    left_is ∙ (ap (λ k. without stream_name k put) (same ∙ sym named) ∙ (ap (without stream_name s.facts.name) (fresh new) ∙ without_inserted stream_name s old new))

abbrev facts_by : List Template → List PlainStream → List HeldIndex → List TaskFacts → PlainFacts
facts_by templates streams indices tasks = record { templates = templates; streams = streams; indices = indices; tasks = tasks }

pub facts_undone : (f : PlainFacts) (templates : List Template) (streams left : List PlainStream) (indices kept : List HeldIndex) (tasks : List TaskFacts) → left ≡ streams → kept ≡ indices →
    record { templates = templates; streams = streams; indices = indices; tasks = tasks } ≡ f → record { templates = templates; streams = left; indices = kept; tasks = tasks } ≡ f
facts_undone f templates streams left indices kept tasks same_streams same_indices is =
    ap (λ ss. facts_by templates ss kept tasks) same_streams ∙ (ap (λ is. facts_by templates streams is tasks) same_indices ∙ is)
