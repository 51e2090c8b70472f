-- What rollovers, folds and moves leave of facts in memory.
use Rattle.std.specs.Prelude.{◌≡◌, ℕ, ℤ, ◌+◌, List, [], ◌∷◌, ◌++◌, Option, Some, None}
use Rattle.std.proofs.Common.{refl, ap, ◌∙◌, sym, subst}
use Rattle.time_text.specs.declared.intervals.Interval.{Interval}
use Rattle.ts_mapping.specs.declared.templates.Template.{Template}
use Rattle.stream_catalog.specs.declared.answers.Move.{Move}
use Rattle.stream_catalog.specs.declared.answers.Move.TheVariants.{Remove, Add}
use Rattle.stream_catalog.specs.declared.facts.HeldIndex.{HeldIndex}
use Rattle.stream_catalog.specs.declared.facts.TaskFacts.{TaskFacts}
use Rattle.stream_catalog.specs.FactChanges.{facts_downsampled, facts_rolled_over}
use Rattle.stream_catalog.specs.Indices.{downsample_refusal, folded_facts}
use Rattle.stream_catalog.specs.Lists.{with_found, updated, inserted, stream_name, facts_name, template_named, stream_named, facts_named}
use Rattle.stream_catalog.specs.Moves.{added_member, moved, insert_member, with_member}
use Rattle.stream_catalog.specs.Plain.{PlainStream, PlainFacts}
use Rattle.stream_catalog.specs.Streams.{next_index, next_name, rollover_refusal, with_next, write_name}
use Rattle.stream_catalog.proofs.CatalogLemmas.{may_downsample}
use Rattle.stream_catalog.proofs.MemberLemmas.{updated_found}
use Rattle.stream_catalog.proofs.RollLemmas.{may_roll}
use Rattle.stream_catalog.proofs.TakenLemmas.{free_index}

pub rolled_facts : (f : PlainFacts) (name : List ℕ) (now : ℤ) (s : PlainStream) (t : Template) (w : HeldIndex) → stream_named name f.streams ≡ Some s → template_named s.facts.template f.templates ≡ Some t →
    facts_named (write_name s) f.indices ≡ Some w → (g : PlainStream → PlainStream) → g s ≡ with_next now s →
    facts_rolled_over f name now ≡ record f { streams = updated stream_name name g f.streams; indices = inserted facts_name (next_index s t w now).facts f.indices }
rolled_facts f name now s t w found there write g same =
    rw (found, there, write) (ap (λ ss. record f { streams = ss; indices = inserted facts_name (next_index s t w now).facts f.indices }) (sym (updated_found stream_name name g (with_next now) f.streams s found same)))

-- a stream with a generation and members
abbrev pub set_roll : ℕ → List (List ℕ) → PlainStream → PlainStream
set_roll generation members s = record s { facts = record s.facts { generation = generation; members = members } }

-- the name of a next write index is free
pub next_free : (f : PlainFacts) (name : List ℕ) (now : ℤ) (s : PlainStream) (t : Template) (w index : HeldIndex) → stream_named name f.streams ≡ Some s → facts_named (write_name s) f.indices ≡ Some w →
    rollover_refusal f name now ≡ None → index ≡ (next_index s t w now).facts → facts_named index.name f.indices ≡ None
next_free f name now s t w index found write none is =
    ap (λ (j : HeldIndex). facts_named j.name f.indices) is ∙ free_index (next_name s now) f (may_roll f name now s w found write none).free

pub rolled_by : (f g : PlainFacts) (name : List ℕ) (now : ℤ) (s : PlainStream) (t : Template) (w index : HeldIndex) (generation : ℕ) (members : List (List ℕ)) → stream_named name f.streams ≡ Some s →
    template_named s.facts.template f.templates ≡ Some t → facts_named (write_name s) f.indices ≡ Some w → index ≡ (next_index s t w now).facts → generation ≡ s.facts.generation + 1 → members ≡ s.facts.members ++ next_name s now ∷ [] →
    g ≡ record f { streams = updated stream_name name (set_roll generation members) f.streams; indices = inserted facts_name index f.indices } → g ≡ facts_rolled_over f name now
rolled_by f g name now s t w index generation members found there write index_is generation_is members_is is =
    let set : set_roll generation members s ≡ with_next now s = ap (λ k. set_roll k members s) generation_is ∙ ap (λ ms. set_roll (s.facts.generation + 1) ms s) members_is in
    is ∙ (ap (λ j. record f { streams = updated stream_name name (set_roll generation members) f.streams; indices = inserted facts_name j f.indices }) index_is
    ∙ sym (rolled_facts f name now s t w found there write (set_roll generation members) set))

-- a stream whose template is gone stays
pub unrolled_facts : (f : PlainFacts) (name : List ℕ) (now : ℤ) (s : PlainStream) → stream_named name f.streams ≡ Some s → template_named s.facts.template f.templates ≡ None → facts_rolled_over f name now ≡ f
unrolled_facts f name now s found none = rw (found, none) refl

pub downsampled_facts : (f : PlainFacts) (source target : List ℕ) (by : Interval) (i : HeldIndex) → facts_named source f.indices ≡ Some i →
    facts_downsampled f source target by ≡ record f { indices = inserted facts_name (folded_facts target i.mapping.schema.rises by i) f.indices }
downsampled_facts f source target by i found = rw found refl

pub downsampled_in : (f : PlainFacts) (templates : List Template) (streams : List PlainStream) (old new : List HeldIndex) (tasks : List TaskFacts) → record { templates = templates; streams = streams; indices = old; tasks = tasks } ≡ f →
    (source target : List ℕ) (by : Interval) (i fold : HeldIndex) → facts_named source f.indices ≡ Some i → downsample_refusal f source target by ≡ None → fold ≡ folded_facts target i.mapping.schema.rises by i →
    (facts_named fold.name old ≡ None → new ≡ inserted facts_name fold old) → record { templates = templates; streams = streams; indices = new; tasks = tasks } ≡ facts_downsampled f source target by
downsampled_in f templates streams old new tasks view source target by i fold found none fold_is fresh =
    let g : PlainFacts = record { templates = templates; streams = streams; indices = old; tasks = tasks } in
    let P : PlainFacts → Type 0 = λ h. facts_named source h.indices ≡ Some i → downsample_refusal h source target by ≡ None →
    record { templates = templates; streams = streams; indices = new; tasks = tasks } ≡ facts_downsampled h source target by in
    subst P view (λ found none.
    let free : facts_named fold.name old ≡ None = ap (λ (j : HeldIndex). facts_named j.name old) fold_is ∙ free_index target g (may_downsample g source target by i found none).free in
    ap (λ is. record g { indices = is }) (fresh free ∙ ap (λ j. inserted facts_name j old) fold_is) ∙ sym (downsampled_facts g source target by i found)) found none

pub added_facts : (f : PlainFacts) (stream index : List ℕ) (s : PlainStream) (i : HeldIndex) → stream_named stream f.streams ≡ Some s → facts_named index f.indices ≡ Some i → (g : PlainStream → PlainStream) →
    g s ≡ with_member f.indices i s → added_member f stream index ≡ record f { streams = updated stream_name stream g f.streams }
added_facts f stream index s i found there g same = rw there (ap (λ ss. record f { streams = ss }) (sym (updated_found stream_name stream g (with_member f.indices i) f.streams s found same)))

-- a stream with members
abbrev pub set_members : List (List ℕ) → PlainStream → PlainStream
set_members members s = record s { facts = record s.facts { members = members } }

pub added_in : (f : PlainFacts) (templates : List Template) (streams changed : List PlainStream) (indices : List HeldIndex) (tasks : List TaskFacts) → record { templates = templates; streams = streams; indices = indices; tasks = tasks } ≡ f →
    (stream index n : List ℕ) (s : PlainStream) (i : HeldIndex) (members : List (List ℕ)) → n ≡ stream → stream_named stream f.streams ≡ Some s → facts_named index f.indices ≡ Some i → members ≡ insert_member f.indices i s.facts.members →
    changed ≡ updated stream_name n (set_members members) streams → record { templates = templates; streams = changed; indices = indices; tasks = tasks } ≡ added_member f stream index
added_in f templates streams changed indices tasks view stream index n s i members same found there members_are changed_are =
    let g : PlainFacts = record { templates = templates; streams = streams; indices = indices; tasks = tasks } in
    let P : PlainFacts → Type 0 = λ h. stream_named stream h.streams ≡ Some s → facts_named index h.indices ≡ Some i → members ≡ insert_member h.indices i s.facts.members →
    record { templates = templates; streams = changed; indices = indices; tasks = tasks } ≡ added_member h stream index in
    subst P view (λ found there members_are.
    ap (λ ss. record g { streams = ss }) (changed_are ∙ ap (λ k. updated stream_name k (set_members members) streams) same)
    ∙ sym (added_facts g stream index s i found there (set_members members) (ap (λ ms. set_members ms s) members_are))) found there members_are

-- a move leaves templates and indices
pub moved_templates : (f : PlainFacts) (m : Move) → (moved f m).templates ≡ f.templates
moved_templates f (Remove stream index) = refl
moved_templates f (Add stream index) = by_found (facts_named index f.indices)
  where
    by_found : (o : Option HeldIndex) → (with_found o f (λ i. record f { streams = updated stream_name stream (with_member f.indices i) f.streams })).templates ≡ f.templates
    by_found None = refl
    by_found (Some i) = refl

pub moved_indices : (f : PlainFacts) (m : Move) → (moved f m).indices ≡ f.indices
moved_indices f (Remove stream index) = refl
moved_indices f (Add stream index) = by_found (facts_named index f.indices)
  where
    by_found : (o : Option HeldIndex) → (with_found o f (λ i. record f { streams = updated stream_name stream (with_member f.indices i) f.streams })).indices ≡ f.indices
    by_found None = refl
    by_found (Some i) = refl
