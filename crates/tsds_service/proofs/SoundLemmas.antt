-- A step leaves a sound machine sound.
use Rattle.std.specs.Prelude.{◌≡◌, ℕ, Bool, true, false, List, [], Option, Some, None, Result, Ok, Err, IsTrue, if◌then◌else◌}
use Rattle.std.proofs.Common.{refl, sym, subst}
use Rattle.bulk_json.specs.declared.items.Item.{Item}
use Rattle.index_names.specs.Names.{is_stream_name, is_target_name}
use Rattle.lifecycle_swap.specs.BodyLaws.{bodies_are_lifecycles}
use Rattle.lifecycle_swap.specs.Bodies.{lifecycle_of}
use Rattle.rest_request.specs.Asked.{IsAsked}
use Rattle.rest_request.specs.Message as asked
use Rattle.rest_request.specs.Message.{Message}
use Rattle.row_cells.specs.Limits.{longest_list}
use Rattle.serde_json.specs.Data.{Data}
use Rattle.stream_catalog.specs.Indices.{block_refusal, blocked_in, downsample_refusal, downsampled, delete_refusal, index_deleted}
use Rattle.stream_catalog.specs.Lists.{with_found, stream_named}
use Rattle.stream_catalog.specs.Moves.{moves_refusal, moved_all}
use Rattle.stream_catalog.specs.Plain.{PlainCatalog, facts_of}
use Rattle.stream_catalog.specs.Runs.{lifecycle_run}
use Rattle.stream_catalog.specs.Sound.{IsSoundCatalog}
use Rattle.stream_catalog.specs.Streams.{template_refusal, template_put, create_refusal, created, named_refusal, stream_deleted, life_set, rollover_refusal, rolled_over, rolled_names}
use Rattle.stream_catalog.specs.Ways.{plain_way}
use Rattle.stream_catalog.specs.WellNamed.{IsWellNamed}
use Rattle.stream_catalog.specs.declared.answers.Refusal.{Refusal}
use Rattle.time_text.specs.declared.intervals.Interval.{Interval}
use Rattle.ts_mapping.specs.Faults.{refusal_of}
use Rattle.ts_mapping.specs.Templates.{template_of}
use Rattle.ts_mapping.specs.declared.faults.Fault.{Fault}
use Rattle.tsds_service.specs.Bodies.{fixed_interval_of, moves_of}
use Rattle.tsds_service.specs.Bulk.{items_of, after_items}
use Rattle.tsds_service.specs.declared.causes.Cause.TheVariants as cause
use Rattle.tsds_service.specs.Causes.{refused}
use Rattle.tsds_service.specs.declared.causes.Cause.{Cause}
use Rattle.tsds_service.specs.Laws.{MachinesSeenAgain, StepsStand, StepsKeepSound, StepsKeepSeen}
use Rattle.tsds_service.specs.Machine.{Machine, IsSound, IsSeen}
use Rattle.tsds_service.specs.Questions.{Searching}
use Rattle.tsds_service.specs.Replies.{ack, stream_reply, rolled_reply, blocked_reply}
use Rattle.tsds_service.specs.Requests as spec
use Rattle.tsds_service.specs.Requests.{Stepped, unchanged, changed, unless, caused, about_name, about_index, about_fold, fold_names_refusal, write_index, step_of, step}
use Rattle.tsds_service.specs.declared.layer_causes.About.{About}
use Rattle.tsds_service.specs.declared.reply.Reply.{Reply}
use Rattle.tsds_service.proofs.CatalogLaws.{SoundLaws}
use Rattle.tsds_service.proofs.SourceLemmas.{GivesWithin, items_within}
use Rattle.tsds_service.proofs.TakesLemmas.{items_sound, items_named}
use Rattle.tsds_service.proofs.StepLemmas.{caused_none}

-- ---- answers

unless-sound : (o : Option Cause) (m : Machine) (answer : Stepped) → IsSound m → (o ≡ None → IsSound answer.machine) → IsSound (unless o m answer).machine
unless-sound None m answer sound keeps = keeps refl
unless-sound (Some c) m answer sound keeps = sound

found-sound : {A : Type 0} (o : Option A) (missed : Stepped) (answer : A → Stepped) → IsSound missed.machine → ((a : A) → o ≡ Some a → IsSound (answer a).machine) →
    IsSound (with_found o missed answer).machine
found-sound None missed answer sound keeps = sound
found-sound (Some a) missed answer sound keeps = keeps a refl

template-named : (name : List ℕ) (body : Data) → IsTrue (is_stream_name name) → IsTrue (is_stream_name (template_of name body).name)
unfolding template_of
template-named name body named = named

module _ (laws : SoundLaws) (m : Machine) (sound : IsSound m) where
  left : (c : PlainCatalog) → IsSoundCatalog c → IsWellNamed c → IsSound (record m { catalog = c })
  left c is named = record { catalog = is; now = sound.now; names = named }

  -- a change that keeps a catalogue sound, and its names well formed, where nothing refuses it
  by_change : (a : About) (refusal : Option Refusal) (reply : Reply) (c : PlainCatalog) → (refusal ≡ None → IsSoundCatalog c) → (refusal ≡ None → IsWellNamed c) →
      IsSound (unless (caused a refusal) m (changed m reply c)).machine
  by_change a refusal reply c keeps names =
      unless-sound (caused a refusal) m (changed m reply c) sound (λ none. left c (keeps (caused_none a refusal none)) (names (caused_none a refusal none)))

  put_lifecycle-sound : (name : List ℕ) (body : Data) → IsSound (spec.put_lifecycle m name body).machine
  put_lifecycle-sound name body =
      unless-sound (caused (about_name name) (named_refusal (facts_of m.catalog) name)) m
      (with_found (lifecycle_of body) (unchanged m (refused cause.BadBody)) (λ life. changed m ack (life_set m.catalog name life))) sound
      (λ none. found-sound (lifecycle_of body) (unchanged m (refused cause.BadBody)) (λ life. changed m ack (life_set m.catalog name life)) sound
      (λ life is. left (life_set m.catalog name life) (laws.lives m.catalog name life (bodies_are_lifecycles body life is) sound.catalog) (laws.names.lives m.catalog name life sound.names)))

  downsample-sound : (source target : List ℕ) (by : Option Interval) → IsTrue (is_target_name target) → IsSound (spec.downsample_by plain_way m source target by).machine
  downsample-sound source target None named =
      unless-sound (caused (about_name target) (fold_names_refusal (facts_of m.catalog) source target)) m (unchanged m (refused cause.BadBody)) sound (λ none. sound)
  downsample-sound source target (Some by) named =
      by_change (about_fold (facts_of m.catalog) source target by) (downsample_refusal (facts_of m.catalog) source target by) ack (downsampled plain_way m.catalog source target by)
      (λ none. laws.downsamples m.catalog source target by sound.catalog none) (λ none. laws.names.downsamples plain_way m.catalog source target by named sound.names)

  modify-sound : (body : Data) → IsSound (spec.modify m body).machine
  modify-sound body =
      found-sound (moves_of body) (unchanged m (refused cause.BadBody))
      (λ moves. unless (caused (about_name []) (moves_refusal (facts_of m.catalog) moves)) m (changed m ack (moved_all m.catalog moves))) sound
      (λ moves is. by_change (about_name []) (moves_refusal (facts_of m.catalog) moves) ack (moved_all m.catalog moves) (λ none. laws.moves m.catalog moves sound.catalog none)
      (λ none. laws.names.moves m.catalog moves sound.names))

  flush-sound : IsSound (spec.flush m).machine
  flush-sound = by_test m.kept
    where
      by_test : (b : Bool) → IsSound (if b then record { reply = ack; machine = m; wrote = true } else unchanged m (refused cause.NoData)).machine
      by_test true = sound
      by_test false = sound

  put_template-sound : (name : List ℕ) (body : Data) (fault : Option Fault) → refusal_of body ≡ fault → IsTrue (is_stream_name name) → IsSound (spec.put_template m name body fault).machine
  put_template-sound name body (Some fault) read named = sound
  put_template-sound name body None read named =
      by_change (about_name name) (template_refusal (facts_of m.catalog) (template_of name body)) ack (template_put m.catalog (template_of name body))
      (laws.templates m.catalog (template_of name body) (laws.bodies name body read) sound.catalog)
      (λ none. laws.names.templates m.catalog (template_of name body) (template-named name body named) sound.names)

  bulk-sound : (items : Result (List Item) Cause) → GivesWithin longest_list items → IsSound (spec.bulk plain_way m items).machine
  bulk-sound (Err cause) short = sound
  bulk-sound (Ok items) short =
      left (after_items plain_way m.catalog items) (items_sound laws.held laws.cells laws.puts m.catalog items sound.catalog short) (items_named laws.names m.catalog items sound.names)

  pub step_of-sound : (searching : Searching) (message : Message) → IsAsked message → IsSound (step_of searching plain_way m message).machine
  step_of-sound searching (asked.put_template name body) is_asked = put_template-sound name body (refusal_of body) refl is_asked.0
  step_of-sound searching (asked.put_stream name) is_asked =
      by_change (about_name name) (create_refusal (facts_of m.catalog) name m.now) ack (created m.catalog name m.now) (laws.creations m.catalog name m.now sound.now sound.catalog)
      (λ none. laws.names.creations m.catalog name m.now is_asked sound.now sound.names)
  step_of-sound searching (asked.get_stream name) is_asked =
      found-sound (stream_named name m.catalog.streams) (unchanged m (refused (cause.NoSuchName name))) (λ s. unchanged m (stream_reply (facts_of m.catalog) s)) sound (λ s is. sound)
  step_of-sound searching (asked.delete_stream name) is_asked =
      by_change (about_name name) (named_refusal (facts_of m.catalog) name) ack (stream_deleted m.catalog name) (λ none. laws.stream_deletions m.catalog name sound.catalog)
      (λ none. laws.names.stream_deletions m.catalog name sound.names)
  step_of-sound searching (asked.bulk path body) is_asked = bulk-sound (items_of path body) (items_within path body longest_list is_asked.1)
  step_of-sound searching (asked.rollover name) is_asked =
      by_change (about_index (write_index (facts_of m.catalog) name)) (rollover_refusal (facts_of m.catalog) name m.now) (rolled_reply (rolled_names (facts_of m.catalog) name m.now))
      (rolled_over m.catalog name m.now) (laws.rollovers m.catalog name m.now sound.now sound.catalog) (λ none. laws.names.rollovers m.catalog name m.now sound.now none sound.names)
  step_of-sound searching (asked.block n) is_asked =
      by_change (about_index n) (block_refusal (facts_of m.catalog) n) (blocked_reply n) (blocked_in m.catalog n) (λ none. laws.blocks m.catalog n sound.catalog)
      (λ none. laws.names.blocks m.catalog n sound.names)
  step_of-sound searching (asked.downsample source target body) is_asked = downsample-sound source target (fixed_interval_of body) is_asked.1.0
  step_of-sound searching (asked.modify body) is_asked = modify-sound body
  step_of-sound searching (asked.delete_index n) is_asked =
      by_change (about_index n) (delete_refusal (facts_of m.catalog) n) ack (index_deleted m.catalog n) (laws.deletions m.catalog n sound.catalog)
      (λ none. laws.names.deletions m.catalog n sound.names)
  step_of-sound searching (asked.put_lifecycle name body) is_asked = put_lifecycle-sound name body
  step_of-sound searching asked.run_lifecycle is_asked = left (lifecycle_run m.catalog m.now).catalog (laws.runs m.catalog m.now sound.catalog) (laws.names.runs m.catalog m.now sound.names)
  step_of-sound searching asked.tasks is_asked = sound
  step_of-sound searching (asked.search_rows name body) is_asked = sound
  step_of-sound searching (asked.count_rows name body) is_asked = sound
  step_of-sound searching (asked.get_doc n id) is_asked = sound
  step_of-sound searching asked.flush is_asked = flush-sound

pub steps_keep_sound : SoundLaws → StepsKeepSound
unfolding step
steps_keep_sound laws searching m message now sound is_asked instant = step_of-sound laws (record m { now = now })
    (record { catalog = sound.catalog; now = instant; names = sound.names }) searching message is_asked

pub steps_keep_seen : SoundLaws → MachinesSeenAgain → StepsStand → StepsKeepSeen
steps_keep_seen laws again stand searching m message now seen is_asked instant =
    subst (λ (s : Stepped). IsSeen s.machine) (sym (stand searching m message now seen))
    (again (step searching plain_way m message now).machine (steps_keep_sound laws searching m message now seen.sound is_asked instant))
