-- The laws of catalogues.
use Rattle.std.specs.Prelude.{◌≡◌, ℕ, ◌==◌, ◌<◌, ◌⊎◌, nat_le, Bool, not, List, [], ◌∷◌, ◌++◌, map, length, Option, Some, None, true, false, if◌then◌else◌}
use Rattle.std.specs.Option.{option_map}
use Rattle.std.proofs.Common.{refl, ap, ◌∙◌, sym, subst}
use Rattle.std.proofs.lemmas.Bool.{both_ways}
use Rattle.row_cells.specs.declared.rows.Row.{Row}
use Rattle.row_cells.specs.Each.{Each}
use Rattle.row_cells.specs.EachLaws.{Each-weaker, Each-both}
use Rattle.row_cells.specs.declared.schemas.Schema.{Schema}
use Rattle.row_cells.specs.RowLists.{insert_row}
use Rattle.time_text.specs.declared.intervals.Interval.{Interval}
use Rattle.row_cells.specs.RowLists.{AreDistinct}
use Rattle.downsample_fold.specs.Intervals.{interval_fault}
use Rattle.downsample_fold.specs.Laws.{series_of}
use Rattle.stream_catalog.specs.declared.answers.Refusal.{Refusal}
use Rattle.stream_catalog.specs.declared.answers.Refusal.TheVariants.{NoSuchName, NameTaken, Reserved, NotBlocked, Interval as BadInterval, Limit}
use Rattle.stream_catalog.specs.declared.answers.What.TheVariants.{Indices}
use Rattle.index_names.specs.Backing.{is_reserved}
use Rattle.stream_catalog.specs.Limits.{most_indices}
use Rattle.stream_catalog.specs.Names.{is_taken}
use Rattle.stream_catalog.specs.declared.facts.HeldIndex.{HeldIndex}
use Rattle.stream_catalog.specs.declared.facts.TaskFacts.{TaskFacts}
use Rattle.stream_catalog.specs.Plain.{PlainIndex, PlainCatalog, PlainFacts, facts_of}
use Rattle.stream_catalog.specs.Ways.{shown_by, plain_way, seen_way, see_index, see_catalog, kept_rows}
use Rattle.stream_catalog.specs.Lists.{with_found, on_found, first_refusal, when, inserted, without, index_name, facts_named, index_named}
use Rattle.stream_catalog.specs.Indices.{downsample_refusal, folded_index, write_fault}
use Rattle.row_cells.specs.RowLists.{has_place}
use Rattle.stream_catalog.specs.Units.{with_renamed, swapped, next_done, advanced, advanced_at, unit_from, unit_of}
use Rattle.stream_catalog.specs.Sound.{IsIndexSound, IsKind, IsHeld, IsTaskOf, IsUnderWay, AreFactsSound, IsSoundCatalog, IsSeenCatalog}
use Rattle.stream_catalog.specs.Laws.{IsShut, ShowsPuts, PutsKeepShowing, SoundShows, LookupsStay, SeenAgain, Keeps, ChangesGoThrough, PutsGoThrough, RowTestsStay, SeriesStay, DownsamplesGoThrough, UnitsGoThrough, TasksKeep}
use Rattle.stream_catalog.proofs.NamedLemmas.{updated-map, inserted-map, without-map, each_found, each_updated, cons_eq}
use Rattle.stream_catalog.proofs.ChangeLemmas as change
use Rattle.stream_catalog.proofs.ChangeLemmas.{index_named-see, facts_named-facts, facts_of-see, with_indices}
use Rattle.stream_catalog.proofs.FoldedLemmas.{MayFold, may_fold, same_mark, task_may, series_seen, folded_index-seen, kept_of_base, none_first, none_when, none_map}
use Rattle.stream_catalog.proofs.SeenLemmas.{index_again, index_sound}
use Rattle.row_cells.specs.PlaceLaws.{free_apart, push_distinct, insert_last, has_place-in_row_order, length-in_row_order}

-- ---- what a sound catalogue says of an index

pub of_facts : (P : HeldIndex → Type 0) (is : List PlainIndex) → Each P (map (λ i. i.facts) is) → Each (λ i. P i.facts) is
of_facts P [] each = tt
of_facts P (i ∷ is) each = (each.0, of_facts P is each.1)

pub to_facts : (P : HeldIndex → Type 0) (is : List PlainIndex) → Each (λ i. P i.facts) is → Each P (map (λ i. i.facts) is)
to_facts P [] each = tt
to_facts P (i ∷ is) each = (each.0, to_facts P is each.1)

pub held_of : (c : PlainCatalog) (n : List ℕ) (i : PlainIndex) → IsSoundCatalog c → index_named n c.indices ≡ Some i → IsHeld (facts_of c) i.facts
held_of c n i sound found =
    each_found index_name (λ j. IsHeld (facts_of c) j.facts) n c.indices i found (of_facts (IsHeld (facts_of c)) c.indices sound.facts.indices)

pub sound_of : (c : PlainCatalog) (n : List ℕ) (i : PlainIndex) → IsSoundCatalog c → index_named n c.indices ≡ Some i → IsIndexSound i
sound_of c n i sound found = each_found index_name IsIndexSound n c.indices i found sound.indices

-- ---- seen again

indices_again : (is : List PlainIndex) → Each IsIndexSound is → map see_index (map see_index is) ≡ map see_index is
indices_again [] sound = refl
indices_again (i ∷ is) sound = cons_eq (index_again i sound.0) (indices_again is sound.1)

indices_sound : (f : PlainFacts) (is : List PlainIndex) → Each (λ i. IsHeld f i.facts) is → Each IsIndexSound is → Each IsIndexSound (map see_index is)
indices_sound f [] held sound = tt
indices_sound f (i ∷ is) held sound = (index_sound i held.0.mapping.schema.mapped sound.0, indices_sound f is held.1 sound.1)

under_way : (done : ℕ) (o : Option PlainIndex) → ((i : PlainIndex) → o ≡ Some i → IsIndexSound i) → IsUnderWay done o → IsUnderWay done (option_map see_index o)
under_way done None sound is = is
under_way done (Some i) sound is =
    subst (λ (series : List (List ℕ)). (done < length series) ⊎ ((done ≡ 0) × (length series ≡ 0))) (sym (series_seen i (sound i refl))) is

tasks_seen : (c : PlainCatalog) → IsSoundCatalog c → Each (λ t. IsUnderWay t.done (index_named t.index (map see_index c.indices))) c.tasks
tasks_seen c sound =
    Each-weaker (λ t. IsUnderWay t.done (index_named t.index c.indices)) (λ t. IsUnderWay t.done (index_named t.index (map see_index c.indices)))
    (λ t is. subst (IsUnderWay t.done) (sym (index_named-see t.index c.indices)) (under_way t.done (index_named t.index c.indices) (λ i found. sound_of c t.index i sound found) is))
    c.tasks sound.tasks

pub seen_again : SeenAgain
seen_again c sound = record {
  sound = record {
    facts = subst AreFactsSound (sym (facts_of-see c)) sound.facts;
    indices = indices_sound (facts_of c) c.indices (of_facts (IsHeld (facts_of c)) c.indices sound.facts.indices) sound.indices;
    tasks = tasks_seen c sound;
  };
  again = ap (with_indices c) (indices_again c.indices sound.indices);
}

pub keeps : Keeps
keeps change c seen refines = subst IsSeenCatalog (refines.0 ∙ ap (change seen_way) seen.again) (seen_again (change plain_way c) refines.1)

pub changes_go_through : ChangesGoThrough
changes_go_through = record {
  template_put = λ t c. change.template_put-seen c t;
  created = λ name now c. change.created-seen c name now;
  stream_deleted = λ name c. change.stream_deleted-seen c name;
  life_set = λ name life c. change.life_set-seen c name life;
  rolled_over = λ name now c. change.rolled_over-seen c name now;
  blocked = λ n c. change.blocked-seen c n;
  moved = λ moves c. change.moved-seen c moves;
  index_deleted = λ n c. change.index_deleted-seen c n;
}

-- ---- rows that are put

pub row_tests_stay : RowTestsStay
row_tests_stay = record {
  place = has_place-in_row_order;
  number = length-in_row_order;
}

shown_push : (interval : Option Interval) (blocked : Bool) (schema : Schema) (rows : List Row) (row : Row) → IsShut interval blocked → AreDistinct rows → blocked ≡ false → has_place row.key row.time rows ≡ false →
    shown_by interval schema (rows ++ row ∷ []) ≡ insert_row row (shown_by interval schema rows)
shown_push None blocked schema rows row shut distinct takes free = insert_last rows row distinct free
shown_push (Some by) blocked schema rows row shut distinct takes free = absurd (both_ways blocked takes shut)

pub puts_go_through : PutsGoThrough
puts_go_through c n row shows finds =
    ap (with_indices c)
    (updated-map see_index index_name index_name (λ i. refl) n (λ i. record i { rows = i.rows ++ row ∷ [] }) (λ i. record i { rows = insert_row row i.rows }) c.indices
    (λ i found.
    let shown = each_found index_name ShowsPuts n c.indices i found shows in
    let place = finds i found in
    ap (λ rows. record i { rows = rows }) (shown_push i.facts.interval i.facts.blocked i.facts.mapping.schema i.rows row shown.shut shown.distinct place.0 place.1)))

pub puts_keep_showing : PutsKeepShowing
puts_keep_showing c n row shows finds =
    each_updated index_name ShowsPuts n (λ i. record i { rows = i.rows ++ row ∷ [] }) c.indices
    (λ i found.
    let shown = each_found index_name ShowsPuts n c.indices i found shows in
    record { shut = shown.shut; distinct = push_distinct i.rows row shown.distinct (free_apart row i.rows (finds i found).1) }) shows

shut_of : (interval : Option Interval) (blocked : Bool) (schema : Schema) → IsKind interval blocked schema → IsShut interval blocked
shut_of None blocked schema kind = tt
shut_of (Some by) blocked schema kind = kind.1

pub sound_shows : SoundShows
sound_shows c sound =
    Each-both (λ i. IsHeld (facts_of c) i.facts) IsIndexSound ShowsPuts
    (λ i held is. record { shut = shut_of i.facts.interval i.facts.blocked i.facts.mapping.schema held.kind; distinct = is.distinct })
    c.indices (of_facts (IsHeld (facts_of c)) c.indices sound.facts.indices) sound.indices

pub lookups_stay : LookupsStay
lookups_stay c n = index_named-see n c.indices

-- ---- folds

-- what is known where nothing refuses a downsampling
pub record Folds (f : PlainFacts) (target : List ℕ) (by : Interval) (i : HeldIndex) : Type 0 where
  pub free : is_taken target f ≡ false
  pub blocked : i.blocked ≡ true
  pub fault : interval_fault i.interval by ≡ None
  pub room : nat_le most_indices (length f.indices) ≡ false

pub may_downsample : (f : PlainFacts) (source target : List ℕ) (by : Interval) (i : HeldIndex) → facts_named source f.indices ≡ Some i → downsample_refusal f source target by ≡ None → Folds f target by i
may_downsample f source target by i found none =
    let limit : List (Option Refusal) = when (nat_le most_indices (length f.indices)) (Limit Indices) ∷ [] in
    let interval : List (Option Refusal) = option_map BadInterval (interval_fault i.interval by) ∷ limit in
    let blocked : List (Option Refusal) = when (not i.blocked) NotBlocked ∷ interval in
    let write : List (Option Refusal) = write_fault f source ∷ blocked in
    let reserved : List (Option Refusal) = when (is_reserved target) Reserved ∷ write in
    let here : first_refusal (when (is_taken target f) (NameTaken target) ∷ reserved) ≡ None = sym (ap (λ o. on_found o (NoSuchName source) (λ (j : HeldIndex). first_refusal (
    when (is_taken target f) (NameTaken target) ∷ when (is_reserved target) Reserved ∷ write_fault f source ∷ when (not j.blocked) NotBlocked
    ∷ option_map BadInterval (interval_fault j.interval by) ∷ when (nat_le most_indices (length f.indices)) (Limit Indices) ∷ []))) found) ∙ none in
    let first = none_first (when (is_taken target f) (NameTaken target)) reserved here in
    let second = none_first (when (is_reserved target) Reserved) write first.1 in
    let third = none_first (write_fault f source) blocked second.1 in
    let fourth = none_first (when (not i.blocked) NotBlocked) interval third.1 in
    let fifth = none_first (option_map BadInterval (interval_fault i.interval by)) limit fourth.1 in
    record {
      free = none_when (is_taken target f) (NameTaken target) first.0;
      blocked = not_false i.blocked (none_when (not i.blocked) NotBlocked fourth.0);
      fault = none_map BadInterval (interval_fault i.interval by) fifth.0;
      room = none_when (nat_le most_indices (length f.indices)) (Limit Indices) (none_first (when (nat_le most_indices (length f.indices)) (Limit Indices)) [] fifth.1).0;
    }
  where
    not_false : (b : Bool) → not b ≡ false → b ≡ true
    not_false true is = refl
    not_false false is = cc

pub downsamples_go_through : DownsamplesGoThrough
downsamples_go_through c source target by sound none =
    by_found (index_named source c.indices) refl
    ∙ sym (ap (λ o. with_found o (see_catalog c) (λ i. record (see_catalog c) { indices = inserted index_name (folded_index seen_way target i.facts.mapping.schema.rises by i) (map see_index c.indices) })) (index_named-see source c.indices))
  where
    by_found : (o : Option PlainIndex) → index_named source c.indices ≡ o →
        see_catalog (with_found o c (λ i. record c { indices = inserted index_name (folded_index plain_way target i.facts.mapping.schema.rises by i) c.indices }))
        ≡ with_found (option_map see_index o) (see_catalog c) (λ i. record (see_catalog c) { indices = inserted index_name (folded_index seen_way target i.facts.mapping.schema.rises by i) (map see_index c.indices) })
    by_found None is = refl
    by_found (Some i) is =
        let named : facts_named source (map (λ j. j.facts) c.indices) ≡ Some i.facts = facts_named-facts source c.indices ∙ ap (option_map (λ (j : PlainIndex). j.facts)) is in
        let fault = (may_downsample (facts_of c) source target by i.facts named none).fault in
        let rises = i.facts.mapping.schema.rises in
        ap (with_indices c)
        (inserted-map see_index index_name index_name (λ j. refl) (folded_index plain_way target rises by i) c.indices
        ∙ ap (λ j. inserted index_name j (map see_index c.indices))
        (folded_index-seen target rises by i (sound_of c source i sound is) (may_fold i.facts.interval rises rises by fault (same_mark i.facts.interval rises))))

-- ---- units

pub task_of : (c : PlainCatalog) (task : TaskFacts) (i : PlainIndex) → index_named task.index c.indices ≡ Some i → IsTaskOf task.by task.rises (facts_named task.index (map (λ j. j.facts) c.indices)) →
    MayFold i.facts.interval i.facts.mapping.schema.rises task.rises task.by
task_of c task i found holds =
    task_may task.by task.rises i.facts (subst (IsTaskOf task.by task.rises) (facts_named-facts task.index c.indices ∙ ap (option_map (λ (j : PlainIndex). j.facts)) found) holds)

swapped-seen : (c : PlainCatalog) (task : TaskFacts) (i : PlainIndex) → IsIndexSound i → MayFold i.facts.interval i.facts.mapping.schema.rises task.rises task.by →
    see_catalog (swapped plain_way c task i) ≡ swapped seen_way (see_catalog c) task (see_index i)
swapped-seen c task i sound may =
    ap (λ is. record c { streams = map (with_renamed i.facts.name task.target) c.streams; indices = is })
    (inserted-map see_index index_name index_name (λ j. refl) (folded_index plain_way task.target task.rises task.by i) (without index_name i.facts.name c.indices)
    ∙ (ap (λ j. inserted index_name j (map see_index (without index_name i.facts.name c.indices))) (folded_index-seen task.target task.rises task.by i sound may)
    ∙ ap (inserted index_name (folded_index seen_way task.target task.rises task.by (see_index i))) (without-map see_index index_name index_name (λ j. refl) i.facts.name c.indices)))

advanced-seen : (c : PlainCatalog) (task : TaskFacts) (tasks : List TaskFacts) (i : PlainIndex) → IsIndexSound i → MayFold i.facts.interval i.facts.mapping.schema.rises task.rises task.by →
    see_catalog (advanced plain_way c task tasks i) ≡ advanced seen_way (see_catalog c) task tasks (see_index i)
advanced-seen c task tasks i sound may =
    by_test (next_done task.done (length (series_of i.rows)) == length (series_of i.rows))
    ∙ ap (λ (series : List (List ℕ)). if next_done task.done (length series) == length series
    then swapped seen_way (record (see_catalog c) { tasks = tasks }) task (see_index i)
    else record (see_catalog c) { tasks = record task { done = next_done task.done (length series) } ∷ tasks })
    (sym (series_seen i sound))
  where
    by_test : (b : Bool) →
        see_catalog (if b then swapped plain_way (record c { tasks = tasks }) task i else record c { tasks = record task { done = next_done task.done (length (series_of i.rows)) } ∷ tasks })
        ≡ (if b then swapped seen_way (record (see_catalog c) { tasks = tasks }) task (see_index i) else record (see_catalog c) { tasks = record task { done = next_done task.done (length (series_of i.rows)) } ∷ tasks })
    by_test true = swapped-seen (record c { tasks = tasks }) task i sound may
    by_test false = refl

unit_from-seen : (c : PlainCatalog) (ts : List TaskFacts) → IsSoundCatalog c → Each (λ task. IsTaskOf task.by task.rises (facts_named task.index (map (λ i. i.facts) c.indices))) ts →
    see_catalog (unit_from plain_way c ts) ≡ unit_from seen_way (see_catalog c) ts
unit_from-seen c [] sound holds = refl
unit_from-seen c (task ∷ tasks) sound holds =
    by_found (index_named task.index c.indices) refl ∙ ap (advanced_at seen_way (see_catalog c) task tasks) (sym (index_named-see task.index c.indices))
  where
    by_found : (o : Option PlainIndex) → index_named task.index c.indices ≡ o → see_catalog (advanced_at plain_way c task tasks o) ≡ advanced_at seen_way (see_catalog c) task tasks (option_map see_index o)
    by_found None is = refl
    by_found (Some i) is = advanced-seen c task tasks i (sound_of c task.index i sound is) (task_of c task i is holds.0)

pub units_go_through : UnitsGoThrough
unfolding unit_of
units_go_through c sound = unit_from-seen c c.tasks sound sound.facts.tasks

pub tasks_keep : TasksKeep
tasks_keep c sound =
    Each-weaker (λ task. IsTaskOf task.by task.rises (facts_named task.index (map (λ i. i.facts) c.indices))) (λ task. (i : PlainIndex) → index_named task.index c.indices ≡ Some i → kept_rows task (see_index i) ≡ kept_rows task i)
    (λ task holds i found. kept_of_base task i (sound_of c task.index i sound found) (task_of c task i found holds)) c.tasks sound.facts.tasks

pub series_stay : SeriesStay
series_stay = series_seen
