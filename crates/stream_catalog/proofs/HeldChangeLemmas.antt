-- What changes leave of a catalogue in memory.
use Rattle.std.specs.Prelude.{◌≡◌, ℕ, List, [], ◌∷◌, Option, Some, None}
use Rattle.std.proofs.Common.{refl, ap, ◌∙◌, sym, subst}
use Rattle.row_cells.specs.Each.{Each}
use Rattle.row_cells.specs.EachLaws.{Each-weaker}
use Rattle.lifecycle_swap.specs.Lifecycles.{IsLifecycle}
use Rattle.lifecycle_swap.specs.declared.lifecycles.Lifecycle.{Lifecycle}
use Rattle.ts_mapping.specs.Facts.{IsMapping, IsTemplate}
use Rattle.ts_mapping.specs.declared.templates.Template.{Template}
use Rattle.stream_catalog.specs.declared.answers.Move.{Move}
use Rattle.stream_catalog.specs.declared.answers.Move.TheVariants.{Remove, Add}
use Rattle.stream_catalog.specs.declared.facts.HeldIndex.{HeldIndex}
use Rattle.stream_catalog.specs.declared.held_rows.HeldRows.{HeldRows}
use Rattle.stream_catalog.specs.Beside.{AreBeside, IsHeldCatalog, catalog_of, joined}
use Rattle.stream_catalog.specs.FactChanges.{blocked_facts, facts_blocked, facts_with_life, facts_with_template}
use Rattle.stream_catalog.specs.Indices.{blocked_in, blocked_index}
use Rattle.stream_catalog.specs.Lists.{facts_named, updated, stream_name, with_found}
use Rattle.stream_catalog.specs.Moves.{moved, moved_all, moved_by, moves_refusal, with_member}
use Rattle.stream_catalog.specs.Plain.{PlainCatalog, PlainFacts, facts_of}
use Rattle.stream_catalog.specs.Sound.{IsHeld, IsSeenCatalog, IsSoundCatalog}
use Rattle.stream_catalog.specs.Streams.{life_set, template_put, template_refusal}
use Rattle.stream_catalog.specs.Ways.{see_catalog}
use Rattle.stream_catalog.proofs.BesideLemmas.{facts_back, joined_updated, updated_beside}
use Rattle.stream_catalog.proofs.BlockLemmas.{blocks_keep_sound}
use Rattle.stream_catalog.proofs.CatalogLemmas.{changes_go_through, keeps}
use Rattle.stream_catalog.proofs.HeldLemmas.{facts_sound}
use Rattle.stream_catalog.proofs.MoveLemmas.{moves_keep_sound}
use Rattle.stream_catalog.proofs.StreamLemmas.{lives_keep_sound}
use Rattle.stream_catalog.proofs.TemplateLemmas.{templates_keep_sound}

-- its facts in memory are those of what it stands for
pub facts_same : (f : PlainFacts) (xs : List HeldRows) (c : PlainCatalog) → IsHeldCatalog f xs → catalog_of f xs ≡ c → f ≡ facts_of c
facts_same f xs c held view = sym (facts_back f xs held.beside) ∙ ap facts_of view

pub mappings_held : (f : PlainFacts) (xs : List HeldRows) → IsHeldCatalog f xs → Each (λ i. IsMapping i.mapping) f.indices
mappings_held f xs held = Each-weaker (IsHeld f) (λ i. IsMapping i.mapping) (λ i is. is.mapping) f.indices (facts_sound f xs held).indices

-- a change that goes through seeing and keeps a catalogue sound
pub seen_after : (change : PlainCatalog → PlainCatalog) (c : PlainCatalog) → IsSeenCatalog c → see_catalog (change c) ≡ change (see_catalog c) → IsSoundCatalog (change c) → IsSeenCatalog (change c)
seen_after change c seen through sound = keeps (λ way. change) c seen (through, sound)

-- ---- templates

pub held_template : (f g : PlainFacts) (xs : List HeldRows) (t : Template) → IsTemplate t → IsHeldCatalog f xs → template_refusal f t ≡ None → g ≡ facts_with_template f t → IsHeldCatalog g xs
held_template f g xs t is_template held none is =
    let c = catalog_of f xs in
    let free : template_refusal (facts_of c) t ≡ None = subst (λ h. template_refusal h t ≡ None) (sym (facts_back f xs held.beside)) none in
    subst (λ h. IsHeldCatalog h xs) (sym is) (record {
      seen = seen_after (λ d. template_put d t) c held.seen (changes_go_through.template_put t c) (templates_keep_sound c t is_template held.seen.sound free);
      beside = held.beside;
    })

-- ---- lifecycles

pub held_life : (f g : PlainFacts) (xs : List HeldRows) (name : List ℕ) (life : Lifecycle) → IsLifecycle life → IsHeldCatalog f xs → g ≡ facts_with_life f name life → IsHeldCatalog g xs
held_life f g xs name life is_life held is =
    let c = catalog_of f xs in
    subst (λ h. IsHeldCatalog h xs) (sym is) (record {
      seen = seen_after (λ d. life_set d name life) c held.seen (changes_go_through.life_set name life c) (lives_keep_sound c name life is_life held.seen.sound);
      beside = held.beside;
    })

-- ---- blocks

blocked_same : (f : PlainFacts) (xs : List HeldRows) (n : List ℕ) → IsHeldCatalog f xs → catalog_of (facts_blocked f n) xs ≡ blocked_in (catalog_of f xs) n
blocked_same f xs n held = ap (λ is. record (catalog_of f xs) { indices = is }) (joined_updated n blocked_facts blocked_index (λ i x. refl) f.indices xs held.beside)

pub held_blocked : (f g : PlainFacts) (xs : List HeldRows) (n : List ℕ) → IsHeldCatalog f xs → g ≡ facts_blocked f n → IsHeldCatalog g xs
held_blocked f g xs n held is =
    let c = catalog_of f xs in
    subst (λ h. IsHeldCatalog h xs) (sym is) (record {
      seen = subst IsSeenCatalog (sym (blocked_same f xs n held)) (seen_after (λ d. blocked_in d n) c held.seen (changes_go_through.blocked n c) (blocks_keep_sound c n held.seen.sound));
      beside = updated_beside n blocked_facts (λ i. refl) (λ i. refl) f.indices xs held.beside;
    })

pub told_blocked : (f g : PlainFacts) (xs : List HeldRows) (c : PlainCatalog) (n : List ℕ) → IsHeldCatalog f xs → catalog_of f xs ≡ c → g ≡ facts_blocked f n → catalog_of g xs ≡ blocked_in c n
told_blocked f g xs c n held view is = ap (λ h. catalog_of h xs) is ∙ (blocked_same f xs n held ∙ ap (λ d. blocked_in d n) view)

-- ---- moves

moved_rest : (f : PlainFacts) (m : Move) → moved f m ≡ record f { streams = (moved f m).streams; tasks = (moved f m).tasks }
moved_rest f (Remove stream index) = refl
moved_rest f (Add stream index) = by_found (facts_named index f.indices)
  where
    joining : HeldIndex → PlainFacts
    joining i = record f { streams = updated stream_name stream (with_member f.indices i) f.streams }

    by_found : (o : Option HeldIndex) → with_found o f joining ≡ record f { streams = (with_found o f joining).streams; tasks = (with_found o f joining).tasks }
    by_found None = refl
    by_found (Some i) = refl

moves_templates : (f : PlainFacts) (ms : List Move) → (moved_by f ms).templates ≡ f.templates
moves_templates f [] = refl
moves_templates f (m ∷ ms) = moves_templates (moved f m) ms ∙ ap (λ (g : PlainFacts). g.templates) (moved_rest f m)

moves_indices : (f : PlainFacts) (ms : List Move) → (moved_by f ms).indices ≡ f.indices
moves_indices f [] = refl
moves_indices f (m ∷ ms) = moves_indices (moved f m) ms ∙ ap (λ (g : PlainFacts). g.indices) (moved_rest f m)

abbrev with_moves : PlainFacts → List Template → List HeldIndex → List HeldRows → PlainCatalog
with_moves h templates indices xs = record { templates = templates; streams = h.streams; indices = joined indices xs; tasks = h.tasks }

moved_same : (f : PlainFacts) (xs : List HeldRows) (ms : List Move) → IsHeldCatalog f xs → catalog_of (moved_by f ms) xs ≡ moved_all (catalog_of f xs) ms
moved_same f xs ms held =
    let g = moved_by f ms in
    ap (λ ts. with_moves g ts g.indices xs) (moves_templates f ms)
    ∙ (ap (λ is. with_moves g f.templates is xs) (moves_indices f ms)
    ∙ ap (λ h. with_moves (moved_by h ms) f.templates f.indices xs) (sym (facts_back f xs held.beside)))

pub held_moved : (f g : PlainFacts) (xs : List HeldRows) (ms : List Move) → IsHeldCatalog f xs → moves_refusal f ms ≡ None → g ≡ moved_by f ms → IsHeldCatalog g xs
held_moved f g xs ms held none is =
    let c = catalog_of f xs in
    let free : moves_refusal (facts_of c) ms ≡ None = subst (λ h. moves_refusal h ms ≡ None) (sym (facts_back f xs held.beside)) none in
    subst (λ h. IsHeldCatalog h xs) (sym is) (record {
      seen = subst IsSeenCatalog (sym (moved_same f xs ms held)) (seen_after (λ d. moved_all d ms) c held.seen (changes_go_through.moved ms c) (moves_keep_sound c ms held.seen.sound free));
      beside = subst (λ is. AreBeside is xs) (sym (moves_indices f ms)) held.beside;
    })

pub told_moved : (f g : PlainFacts) (xs : List HeldRows) (c : PlainCatalog) (ms : List Move) → IsHeldCatalog f xs → catalog_of f xs ≡ c → g ≡ moved_by f ms → catalog_of g xs ≡ moved_all c ms
told_moved f g xs c ms held view is = ap (λ h. catalog_of h xs) is ∙ (moved_same f xs ms held ∙ ap (λ d. moved_all d ms) view)
