-- Each step of what is seen is what is seen of the step.
use Rattle.std.specs.Prelude.{◌≡◌, ℕ, Bool, true, false, List, [], ◌∷◌, map, length, Option, Some, None, Result, Ok, Err, if◌then◌else◌}
use Rattle.std.specs.Option.{option_map}
use Rattle.std.proofs.Common.{refl, ap, ◌∙◌, sym}
use Rattle.bulk_json.specs.declared.items.Item.{Item}
use Rattle.downsample_fold.specs.Laws.{series_of}
use Rattle.lifecycle_swap.specs.Bodies.{lifecycle_of}
use Rattle.lifecycle_swap.specs.declared.lifecycles.Lifecycle.{Lifecycle}
use Rattle.rest_request.specs.Message as asked
use Rattle.rest_request.specs.Message.{Message}
use Rattle.serde_json.specs.Data.{Data}
use Rattle.stream_catalog.specs.Indices.{block_refusal, blocked_in, downsample_refusal, downsampled, delete_refusal, index_deleted}
use Rattle.stream_catalog.specs.Laws.{see_running}
use Rattle.stream_catalog.specs.Lists.{with_found, stream_named, index_named}
use Rattle.stream_catalog.specs.Moves.{moves_refusal, moved_all}
use Rattle.stream_catalog.specs.Plain.{PlainIndex, PlainStream, PlainCatalog, PlainFacts, facts_of}
use Rattle.stream_catalog.specs.Runs.{Running, lifecycle_run}
use Rattle.stream_catalog.specs.Sound.{IsSoundCatalog}
use Rattle.stream_catalog.specs.Streams.{template_refusal, template_put, create_refusal, created, named_refusal, stream_deleted, life_set, rollover_refusal, rolled_over, rolled_names}
use Rattle.stream_catalog.specs.Ways.{Way, plain_way, seen_way, see_index, see_catalog}
use Rattle.stream_catalog.specs.declared.answers.Refusal.{Refusal}
use Rattle.stream_catalog.specs.declared.answers.Move.{Move}
use Rattle.stream_catalog.specs.declared.facts.TaskFacts.{TaskFacts}
use Rattle.time_text.specs.declared.intervals.Interval.{Interval}
use Rattle.ts_mapping.specs.Faults.{refusal_of}
use Rattle.ts_mapping.specs.Templates.{template_of}
use Rattle.ts_mapping.specs.declared.faults.Fault.{Fault}
use Rattle.tsds_service.specs.Bodies.{fixed_interval_of, moves_of}
use Rattle.tsds_service.specs.Bulk.{items_of, outcomes_of, after_items, bulk_reply}
use Rattle.tsds_service.specs.declared.causes.Cause.TheVariants as cause
use Rattle.tsds_service.specs.Causes.{refused}
use Rattle.tsds_service.specs.declared.causes.Cause.{Cause}
use Rattle.tsds_service.specs.Laws.{StepsRefine, StepsStand, UnitsRefine, UnitsStand}
use Rattle.tsds_service.specs.Machine.{Machine, see, unit}
use Rattle.tsds_service.specs.Questions.{Searching, facts_in, samples_of, target_of, get_reply}
use Rattle.tsds_service.specs.Replies.{ack, stream_reply, rolled_reply, blocked_reply, ran_reply, series_count, task_tree, tasks_listed}
use Rattle.tsds_service.specs.Requests as spec
use Rattle.tsds_service.specs.Requests.{Stepped, see_stepped, unchanged, changed, unless, caused, about_name, about_index, about_fold, fold_names_refusal, write_index, step_of, step}
use Rattle.tsds_service.specs.declared.layer_causes.About.{About}
use Rattle.tsds_service.specs.declared.reply.Reply.{Reply}
use Rattle.tsds_service.proofs.CatalogLaws.{CatalogLaws}
use Rattle.tsds_service.proofs.ItemLemmas.{outcomes-see, after_items-see}
use Rattle.tsds_service.proofs.OrderLemmas.{targets_stay}
use Rattle.tsds_service.proofs.SampleLemmas.{facts_in-see, samples_stay}

-- ---- answers

unless-see : (o : Option Cause) (m : Machine) (seen plain : Stepped) → (o ≡ None → seen ≡ see_stepped plain) → unless o (see m) seen ≡ see_stepped (unless o m plain)
unless-see None m seen plain same = same refl
unless-see (Some c) m seen plain same = refl

unchanged-see : (m : Machine) (seen plain : Reply) → seen ≡ plain → unchanged (see m) seen ≡ see_stepped (unchanged m plain)
unchanged-see m seen plain same = ap (unchanged (see m)) same

pub caused_none : (a : About) (refusal : Option Refusal) → caused a refusal ≡ None → refusal ≡ None
caused_none a None is = refl
caused_none a (Some e) is = absurd (no is)
  where
    no : {A : Type 0} {x : A} → Some x ≡ None → ⊥
    no e = cc

module _ (laws : CatalogLaws) (m : Machine) where
  -- a change that is refused by facts, and answered by facts
  by_facts : (refusal : PlainFacts → Option Cause) (reply : PlainFacts → Reply) (plain seen : PlainCatalog → PlainCatalog) →
      (refusal (facts_of m.catalog) ≡ None → see_catalog (plain m.catalog) ≡ seen (see_catalog m.catalog)) →
      unless (refusal (facts_of (see_catalog m.catalog))) (see m) (changed (see m) (reply (facts_of (see_catalog m.catalog))) (seen (see_catalog m.catalog)))
      ≡ see_stepped (unless (refusal (facts_of m.catalog)) m (changed m (reply (facts_of m.catalog)) (plain m.catalog)))
  by_facts refusal reply plain seen goes =
      ap (λ f. unless (refusal f) (see m) (changed (see m) (reply f) (seen (see_catalog m.catalog)))) (laws.facts m.catalog)
      ∙ unless-see (refusal (facts_of m.catalog)) m (changed (see m) (reply (facts_of m.catalog)) (seen (see_catalog m.catalog))) (changed m (reply (facts_of m.catalog)) (plain m.catalog))
      (λ none. ap (changed (see m) (reply (facts_of m.catalog))) (sym (goes none)))

  -- one whose change has no way
  by_change : (refusal : PlainFacts → Option Cause) (reply : PlainFacts → Reply) (change : PlainCatalog → PlainCatalog) → see_catalog (change m.catalog) ≡ change (see_catalog m.catalog) →
      unless (refusal (facts_of (see_catalog m.catalog))) (see m) (changed (see m) (reply (facts_of (see_catalog m.catalog))) (change (see_catalog m.catalog)))
      ≡ see_stepped (unless (refusal (facts_of m.catalog)) m (changed m (reply (facts_of m.catalog)) (change m.catalog)))
  by_change refusal reply change goes = by_facts refusal reply change change (λ none. goes)

  -- ---- templates and streams

  put_template-see : (name : List ℕ) (body : Data) (fault : Option Fault) → spec.put_template (see m) name body fault ≡ see_stepped (spec.put_template m name body fault)
  put_template-see name body (Some fault) = refl
  put_template-see name body None =
      by_change (λ f. caused (about_name name) (template_refusal f (template_of name body))) (λ f. ack) (λ c. template_put c (template_of name body)) (laws.changes.template_put (template_of name body) m.catalog)

  get_stream-see : (name : List ℕ) → spec.get_stream (see m) name ≡ see_stepped (spec.get_stream m name)
  get_stream-see name = by_found (stream_named name m.catalog.streams)
    where
      by_found : (o : Option PlainStream) → with_found o (unchanged (see m) (refused (cause.NoSuchName name))) (λ s. unchanged (see m) (stream_reply (facts_of (see_catalog m.catalog)) s))
          ≡ see_stepped (with_found o (unchanged m (refused (cause.NoSuchName name))) (λ s. unchanged m (stream_reply (facts_of m.catalog) s)))
      by_found None = refl
      by_found (Some s) = ap (λ f. unchanged (see m) (stream_reply f s)) (laws.facts m.catalog)

  rollover-see : (name : List ℕ) → spec.rollover (see m) name ≡ see_stepped (spec.rollover m name)
  rollover-see name =
      by_change (λ f. caused (about_index (write_index f name)) (rollover_refusal f name m.now)) (λ f. rolled_reply (rolled_names f name m.now)) (λ c. rolled_over c name m.now) (laws.changes.rolled_over name m.now m.catalog)

  put_lifecycle-see : (name : List ℕ) (body : Data) → spec.put_lifecycle (see m) name body ≡ see_stepped (spec.put_lifecycle m name body)
  put_lifecycle-see name body = by_life (lifecycle_of body)
    where
      by_life : (o : Option Lifecycle) →
          unless (caused (about_name name) (named_refusal (facts_of (see_catalog m.catalog)) name)) (see m) (with_found o (unchanged (see m) (refused cause.BadBody)) (λ life. changed (see m) ack (life_set (see_catalog m.catalog) name life)))
          ≡ see_stepped (unless (caused (about_name name) (named_refusal (facts_of m.catalog) name)) m (with_found o (unchanged m (refused cause.BadBody)) (λ life. changed m ack (life_set m.catalog name life))))
      by_life None =
          ap (λ f. unless (caused (about_name name) (named_refusal f name)) (see m) (unchanged (see m) (refused cause.BadBody))) (laws.facts m.catalog)
          ∙ unless-see (caused (about_name name) (named_refusal (facts_of m.catalog) name)) m (unchanged (see m) (refused cause.BadBody)) (unchanged m (refused cause.BadBody)) (λ none. refl)
      by_life (Some life) = by_change (λ f. caused (about_name name) (named_refusal f name)) (λ f. ack) (λ c. life_set c name life) (laws.changes.life_set name life m.catalog)

  -- ---- indices

  downsample-see : IsSoundCatalog m.catalog → (source target : List ℕ) (by : Option Interval) → spec.downsample_by seen_way (see m) source target by ≡ see_stepped (spec.downsample_by plain_way m source target by)
  downsample-see sound source target None =
      ap (λ f. unless (caused (about_name target) (fold_names_refusal f source target)) (see m) (unchanged (see m) (refused cause.BadBody))) (laws.facts m.catalog)
      ∙ unless-see (caused (about_name target) (fold_names_refusal (facts_of m.catalog) source target)) m (unchanged (see m) (refused cause.BadBody)) (unchanged m (refused cause.BadBody)) (λ none. refl)
  downsample-see sound source target (Some by) =
      by_facts (λ f. caused (about_fold f source target by) (downsample_refusal f source target by)) (λ f. ack) (λ c. downsampled plain_way c source target by) (λ c. downsampled seen_way c source target by)
      (λ none. laws.downsamples m.catalog source target by sound (caused_none (about_fold (facts_of m.catalog) source target by) (downsample_refusal (facts_of m.catalog) source target by) none))

  modify-see : (body : Data) → spec.modify (see m) body ≡ see_stepped (spec.modify m body)
  modify-see body = by_moves (moves_of body)
    where
      by_moves : (o : Option (List Move)) →
          with_found o (unchanged (see m) (refused cause.BadBody)) (λ moves. unless (caused (about_name []) (moves_refusal (facts_of (see_catalog m.catalog)) moves)) (see m) (changed (see m) ack (moved_all (see_catalog m.catalog) moves)))
          ≡ see_stepped (with_found o (unchanged m (refused cause.BadBody)) (λ moves. unless (caused (about_name []) (moves_refusal (facts_of m.catalog) moves)) m (changed m ack (moved_all m.catalog moves))))
      by_moves None = refl
      by_moves (Some moves) = by_change (λ f. caused (about_name []) (moves_refusal f moves)) (λ f. ack) (λ c. moved_all c moves) (laws.changes.moved moves m.catalog)

  -- ---- documents

  bulk-see : IsSoundCatalog m.catalog → (items : Result (List Item) Cause) → spec.bulk seen_way (see m) items ≡ see_stepped (spec.bulk plain_way m items)
  bulk-see sound (Err cause) = refl
  bulk-see sound (Ok items) =
      let shows = laws.shows m.catalog sound in
      ap (λ os. changed (see m) (bulk_reply items os) (after_items seen_way (see_catalog m.catalog) items)) (outcomes-see laws m.catalog shows items)
      ∙ ap (changed (see m) (bulk_reply items (outcomes_of plain_way m.catalog items))) (sym (after_items-see laws m.catalog shows items))

  -- ---- questions

  asked-see : (name : List ℕ) (answer : Way → List PlainIndex → Reply) → ((is : List PlainIndex) → answer seen_way (map see_index is) ≡ answer plain_way is) →
      with_found (target_of (see_catalog m.catalog) name) (refused (cause.NoSuchName name)) (answer seen_way) ≡ with_found (target_of m.catalog name) (refused (cause.NoSuchName name)) (answer plain_way)
  asked-see name answer same = ap (λ o. with_found o (refused (cause.NoSuchName name)) (answer seen_way)) (targets_stay laws.lookups m.catalog name) ∙ by_found (target_of m.catalog name)
    where
      by_found : (o : Option (List PlainIndex)) → with_found (option_map (map see_index) o) (refused (cause.NoSuchName name)) (answer seen_way) ≡ with_found o (refused (cause.NoSuchName name)) (answer plain_way)
      by_found None = refl
      by_found (Some is) = same is

  document-see : (n id : List ℕ) → with_found (index_named n (see_catalog m.catalog).indices) (refused (cause.NoSuchName n)) (λ i. get_reply seen_way i id) ≡ with_found (index_named n m.catalog.indices) (refused (cause.NoSuchName n)) (λ i. get_reply plain_way i id)
  document-see n id = ap (λ o. with_found o (refused (cause.NoSuchName n)) (λ i. get_reply seen_way i id)) (laws.lookups m.catalog n) ∙ by_found (index_named n m.catalog.indices)
    where
      by_found : (o : Option PlainIndex) → with_found (option_map see_index o) (refused (cause.NoSuchName n)) (λ i. get_reply seen_way i id) ≡ with_found o (refused (cause.NoSuchName n)) (λ i. get_reply plain_way i id)
      by_found None = refl
      by_found (Some i) = refl

  -- ---- tasks

  series-see : IsSoundCatalog m.catalog → (t : TaskFacts) → series_count (see_catalog m.catalog) t ≡ series_count m.catalog t
  series-see sound t = ap (λ o. with_found o 0 (λ i. length (series_of i.rows))) (laws.lookups m.catalog t.index) ∙ by_found (index_named t.index m.catalog.indices) refl
    where
      by_found : (o : Option PlainIndex) → index_named t.index m.catalog.indices ≡ o → with_found (option_map see_index o) 0 (λ i. length (series_of i.rows)) ≡ with_found o 0 (λ i. length (series_of i.rows))
      by_found None found = refl
      by_found (Some i) found = ap length (laws.series i (laws.found m.catalog t.index i sound found))

  tasks-see : IsSoundCatalog m.catalog → (ts : List TaskFacts) → map (λ t. task_tree t (series_count (see_catalog m.catalog) t)) ts ≡ map (λ t. task_tree t (series_count m.catalog t)) ts
  tasks-see sound [] = refl
  tasks-see sound (t ∷ ts) =
      ap (λ k. task_tree t k ∷ map (λ u. task_tree u (series_count (see_catalog m.catalog) u)) ts) (series-see sound t)
      ∙ ap (λ trees. task_tree t (series_count m.catalog t) ∷ trees) (tasks-see sound ts)

  run-see : (run : Running) → lifecycle_run (see_catalog m.catalog) m.now ≡ see_running run → changed (see m) (ran_reply (lifecycle_run (see_catalog m.catalog) m.now).ran) (lifecycle_run (see_catalog m.catalog) m.now).catalog ≡ see_stepped (changed m (ran_reply run.ran) run.catalog)
  run-see run same = ap (λ (r : Running). changed (see m) (ran_reply r.ran) r.catalog) same

  flush-see : spec.flush (see m) ≡ see_stepped (spec.flush m)
  flush-see = by_test m.kept
    where
      by_test : (b : Bool) → (if b then record { reply = ack; machine = see m; wrote = true } else unchanged (see m) (refused cause.NoData))
          ≡ see_stepped (if b then record { reply = ack; machine = m; wrote = true } else unchanged m (refused cause.NoData))
      by_test true = refl
      by_test false = refl

  -- ---- all requests

  pub step_of-see : (searching : Searching) (message : Message) → IsSoundCatalog m.catalog → step_of searching seen_way (see m) message ≡ see_stepped (step_of searching plain_way m message)
  step_of-see searching (asked.put_template name body) sound = put_template-see name body (refusal_of body)
  step_of-see searching (asked.put_stream name) sound =
      by_change (λ f. caused (about_name name) (create_refusal f name m.now)) (λ f. ack) (λ c. created c name m.now) (laws.changes.created name m.now m.catalog)
  step_of-see searching (asked.get_stream name) sound = get_stream-see name
  step_of-see searching (asked.delete_stream name) sound =
      by_change (λ f. caused (about_name name) (named_refusal f name)) (λ f. ack) (λ c. stream_deleted c name) (laws.changes.stream_deleted name m.catalog)
  step_of-see searching (asked.bulk path body) sound = bulk-see sound (items_of path body)
  step_of-see searching (asked.rollover name) sound = rollover-see name
  step_of-see searching (asked.block n) sound =
      by_change (λ f. caused (about_index n) (block_refusal f n)) (λ f. blocked_reply n) (λ c. blocked_in c n) (laws.changes.blocked n m.catalog)
  step_of-see searching (asked.downsample source target body) sound = downsample-see sound source target (fixed_interval_of body)
  step_of-see searching (asked.modify body) sound = modify-see body
  step_of-see searching (asked.delete_index n) sound =
      by_change (λ f. caused (about_index n) (delete_refusal f n)) (λ f. ack) (λ c. index_deleted c n) (laws.changes.index_deleted n m.catalog)
  step_of-see searching (asked.put_lifecycle name body) sound = put_lifecycle-see name body
  step_of-see searching asked.run_lifecycle sound = run-see (lifecycle_run m.catalog m.now) (sym (laws.runs m.catalog m.now))
  step_of-see searching asked.tasks sound = ap (λ trees. unchanged (see m) (tasks_listed trees)) (tasks-see sound m.catalog.tasks)
  step_of-see searching (asked.search_rows name body) sound =
      ap (unchanged (see m)) (asked-see name (λ way is. searching.search m.now (facts_in is) (samples_of way is) body)
      (λ is. ap (λ fs. searching.search m.now fs (samples_of seen_way (map see_index is)) body) (facts_in-see is) ∙ ap (λ os. searching.search m.now (facts_in is) os body) (samples_stay is)))
  step_of-see searching (asked.count_rows name body) sound =
      ap (unchanged (see m)) (asked-see name (λ way is. searching.count m.now (facts_in is) (samples_of way is) body)
      (λ is. ap (λ fs. searching.count m.now fs (samples_of seen_way (map see_index is)) body) (facts_in-see is) ∙ ap (λ os. searching.count m.now (facts_in is) os body) (samples_stay is)))
  step_of-see searching (asked.get_doc n id) sound = ap (unchanged (see m)) (document-see n id)
  step_of-see searching asked.flush sound = flush-see

pub steps_refine : CatalogLaws → StepsRefine
unfolding step
steps_refine laws searching m message now sound = step_of-see laws (record m { now = now }) searching message sound.catalog

pub units_refine : CatalogLaws → UnitsRefine
units_refine laws m sound = ap (λ c. record (see m) { catalog = c }) (sym (laws.units m.catalog sound.catalog))

pub steps_stand : CatalogLaws → StepsStand
steps_stand laws searching m message now seen = ap (λ x. step searching seen_way x message now) (sym seen.again) ∙ steps_refine laws searching m message now seen.sound

pub units_stand : CatalogLaws → UnitsStand
units_stand laws m seen = ap (unit seen_way) (sym seen.again) ∙ units_refine laws m seen.sound
