-- What units, rollovers and removals leave.
use Rattle.std.specs.Prelude.{◌≡◌, ℕ, zero, suc, ◌+◌, ◌==◌, ◌≤◌, ◌<◌, Bool, not, true, false, if◌then◌else◌, List, [], ◌∷◌, ◌++◌, map, length, Option, None, Some, bytes_eq}
use Rattle.std.specs.List.{flat_map, slice_get}
use Rattle.std.specs.Option.{option_map}
use Rattle.std.proofs.Common.{refl, ap, ◌∙◌, sym, subst, arith}
use Rattle.std.proofs.lemmas.Bool.{eqb-true}
use Rattle.std.proofs.lemmas.List.{take_all}
use Rattle.row_cells.specs.Each.{Each}
use Rattle.row_cells.specs.declared.rows.Row.{Row}
use Rattle.time_text.specs.Interval.{ms_of}
use Rattle.downsample_fold.specs.Direct.{down}
use Rattle.downsample_fold.specs.Laws.{series_of, rows_of_first}
use Rattle.downsample_fold.specs.Places.{rows_of}
use Rattle.downsample_fold.specs.SeriesLaws.{folds_join_series, folds_join_first, folds_join_next}
use Rattle.downsample_fold.specs.SettleLaws.{folds_any_form}
use Rattle.ts_mapping.specs.declared.templates.Template.{Template}
use Rattle.stream_catalog.specs.declared.answers.Move.{Move}
use Rattle.stream_catalog.specs.declared.answers.Move.TheVariants.{Remove, Add}
use Rattle.stream_catalog.specs.declared.facts.HeldIndex.{HeldIndex}
use Rattle.stream_catalog.specs.declared.facts.TaskFacts.{TaskFacts}
use Rattle.stream_catalog.specs.Plain.{PlainIndex, PlainStream, PlainCatalog, PlainFacts, facts_of}
use Rattle.stream_catalog.specs.Ways.{plain_way, see_index, task_schema, kept_rows}
use Rattle.stream_catalog.specs.Lists.{with_found, updated, inserted, without, index_name, stream_name, facts_name, facts_named, stream_named, index_named, template_named}
use Rattle.stream_catalog.specs.Indices.{task_index, folded_index}
use Rattle.stream_catalog.specs.Moves.{with_member, removed, moved, moved_by}
use Rattle.stream_catalog.specs.Streams.{write_name, next_name, next_index, with_next}
use Rattle.stream_catalog.specs.Units.{swapped, next_done, advanced, advanced_at, unit_from, unit_of}
use Rattle.stream_catalog.specs.Laws.{FoundIsHeld, FoundAgree, series_rows, IsNext, UnitsGoOn, UnitsEnd, RolloversJoin, RemovalsEndTasks}
use Rattle.stream_catalog.specs.Sound.{times, AreOnce, IsHeld, Agrees, form_of, IsSoundCatalog}
use Rattle.stream_catalog.proofs.NamedLemmas.{none_not_some, some_is, each_found}
use Rattle.stream_catalog.proofs.CountLemmas.{named_new, times-filter, some_named, bytes_eq-itself}
use Rattle.stream_catalog.proofs.ChangeLemmas.{facts_named-facts}
use Rattle.stream_catalog.proofs.CatalogLemmas.{sound_of}
use Rattle.stream_catalog.proofs.AddedLemmas.{alone_of, each_of_map}
use Rattle.stream_catalog.proofs.DownsampleLemmas.{names_same}
use Rattle.stream_catalog.proofs.RollLemmas.{may_roll}
use Rattle.stream_catalog.proofs.SeenLemmas.{some_ms, cells_of}
use Rattle.stream_catalog.proofs.TemplateLemmas.{without-gone}
use Rattle.stream_catalog.proofs.UnitLemmas.{swap_told}

-- ---- what is found

facts_there : (c : PlainCatalog) (n : List ℕ) (i : PlainIndex) → index_named n c.indices ≡ Some i → facts_named n (facts_of c).indices ≡ Some i.facts
facts_there c n i found = facts_named-facts n c.indices ∙ ap (option_map (λ (j : PlainIndex). j.facts)) found

pub found_is_held : FoundIsHeld
found_is_held c n i sound found = each_found facts_name (IsHeld (facts_of c)) n (facts_of c).indices i.facts (facts_there c n i found) sound.facts.indices

pub found_agree : FoundAgree
found_agree c m n i j sound first second same =
    let fs = (facts_of c).indices in
    let row = each_found facts_name (λ k. Each (Agrees (form_of k)) (map form_of fs)) m fs i.facts (facts_there c m i first)
    (each_of_map form_of (λ a. Each (Agrees a) (map form_of fs)) fs sound.facts.indices_agree) in
    each_found facts_name (λ k. Agrees (form_of i.facts) (form_of k)) n fs j.facts (facts_there c n j second) (each_of_map form_of (Agrees (form_of i.facts)) fs row) same

-- ---- units

below : {A : Type 0} (xs : List A) (k : ℕ) (x : A) → slice_get xs k ≡ Some x → k < length xs
below [] k x at = absurd (none_not_some at)
below (y ∷ ys) zero x at = omega arith
below (y ∷ ys) (suc k) x at = omega (arith, below ys k x at)

-- with a series to go, the next number is one more
one_more : (done series : ℕ) → done < series → next_done done series ≡ done + 1
one_more done series less = by_test (done == series) refl
  where
    by_test : (b : Bool) → (done == series) ≡ b → (if b then done else done + 1) ≡ done + 1
    by_test true same = absurd (omega (arith, less, eqb-true done series same))
    by_test false other = refl

unit_is : (c : PlainCatalog) (task : TaskFacts) (i : PlainIndex) (key : List ℕ) → (is : IsNext c task i key) → unit_of plain_way c ≡ advanced plain_way c task is.rest i
unfolding unit_of
unit_is c task i key is = ap (unit_from plain_way c) is.oldest ∙ ap (advanced_at plain_way c task is.rest) is.there

-- what a task keeps with one series more
kept_next : (c : PlainCatalog) (task : TaskFacts) (i : PlainIndex) (key : List ℕ) → IsSoundCatalog c → IsNext c task i key →
    down (task_schema task i.facts) (rows_of_first (task.done + 1) i.rows) (ms_of task.by) ≡ kept_rows task i ++ series_rows task i key
kept_next c task i key sound is =
    folds_join_next (task_schema task i.facts) i.rows (ms_of task.by) task.done key (cells_of i (sound_of c task.index i sound is.there)) (some_ms task.by) is.next

-- the fold of all rows is that of as many first series as there are
kept_whole : (c : PlainCatalog) (task : TaskFacts) (i : PlainIndex) (key : List ℕ) → IsSoundCatalog c → IsNext c task i key →
    down (task_schema task i.facts) i.rows (ms_of task.by) ≡ down (task_schema task i.facts) (rows_of_first (length (series_of i.rows)) i.rows) (ms_of task.by)
kept_whole c task i key sound is =
    let schema = task_schema task i.facts in
    let n = ms_of task.by in
    let series = series_of i.rows in
    let cells = cells_of i (sound_of c task.index i sound is.there) in
    let one : List ℕ → List Row = λ k. down schema (rows_of k i.rows) n in
    folds_join_series schema i.rows n cells (some_ms task.by)
    ∙ (ap (flat_map one) (sym (take_all (length series) series (omega arith))) ∙ sym (folds_join_first schema i.rows n (length series) cells (some_ms task.by)))

twice : (n m : List ℕ) (ms : List (List ℕ)) → AreOnce (n ∷ m ∷ ms) → m ≡ n → ⊥
twice n m ms once same = by_tests (bytes_eq n n) (bytes_eq m n) (bytes_eq-itself n) (ap (λ k. bytes_eq k n) same ∙ bytes_eq-itself n) (once n)
  where
    no : false ≡ true → ⊥
    no e = cc

    by_tests : (a b : Bool) → a ≡ true → b ≡ true → (if a then suc (if b then suc (times n ms) else times n ms) else (if b then suc (times n ms) else times n ms)) ≤ 1 → ⊥
    by_tests true true here there le = omega (arith, le)
    by_tests true false here there le = no there
    by_tests false b here there le = no here

head_is : {A : Type 0} {x y : A} {xs ys : List A} → x ∷ xs ≡ y ∷ ys → x ≡ y
head_is e = cc

pub units_go_on : UnitsGoOn
units_go_on c task t ts i key sound is left same = by_last (next_done task.done series == series) (sym (ap (λ (d : PlainCatalog). d.tasks) (unit_is c task i key is)) ∙ left)
  where
    series : ℕ
    series = length (series_of i.rows)

    ends : is.rest ≡ t ∷ ts → ⊥
    ends others =
        twice task.index t.index (map task_index ts)
        (subst (λ us. AreOnce (task.index ∷ map task_index us)) others (subst (λ us. AreOnce (map task_index us)) is.oldest sound.facts.tasks_once)) same

    goes : record task { done = next_done task.done series } ∷ is.rest ≡ t ∷ ts → kept_rows t i ≡ kept_rows task i ++ series_rows task i key
    goes others =
        let less = below (series_of i.rows) task.done key is.next in
        ap (λ (u : TaskFacts). kept_rows u i) (sym (head_is others))
        ∙ (ap (λ k. kept_rows (record task { done = k }) i) (one_more task.done series less) ∙ kept_next c task i key sound is)

    by_last : (b : Bool) → (if b then swapped plain_way (record c { tasks = is.rest }) task i else record c { tasks = record task { done = next_done task.done series } ∷ is.rest }).tasks ≡ t ∷ ts →
        kept_rows t i ≡ kept_rows task i ++ series_rows task i key
    by_last true others = absurd (ends others)
    by_last false others = goes others

pub units_end : UnitsEnd
units_end c task i j key sound is found = by_last (next_done task.done series == series) refl (sym (ap (λ (d : PlainCatalog). index_named task.target d.indices) (unit_is c task i key is)) ∙ found)
  where
    series : ℕ
    series = length (series_of i.rows)

    fresh : times task.target (map index_name c.indices) ≡ 0
    fresh = subst (λ ns. times task.target ns ≡ 0) (names_same c.indices) (swap_told (facts_of c) task is.rest i.facts is.oldest (facts_there c task.index i is.there) sound.facts).0

    new : PlainIndex
    new = folded_index plain_way task.target task.rises task.by i

    swaps : (next_done task.done series == series) ≡ true → index_named task.target (inserted index_name new (without index_name i.facts.name c.indices)) ≡ Some j →
        (see_index j).rows ≡ kept_rows task i ++ series_rows task i key
    swaps last there =
        let less = below (series_of i.rows) task.done key is.next in
        let fewer = times-filter index_name (λ k. not (bytes_eq k.facts.name i.facts.name)) task.target c.indices in
        let none : times task.target (map index_name (without index_name i.facts.name c.indices)) ≡ 0 = omega (arith, fresh, fewer) in
        let is_new : new ≡ j = some_is (sym (named_new index_name new (without index_name i.facts.name c.indices) none) ∙ there) in
        let whole : series ≡ task.done + 1 = sym (eqb-true (next_done task.done series) series last) ∙ one_more task.done series less in
        ap (λ (k : PlainIndex). (see_index k).rows) (sym is_new)
        ∙ (folds_any_form (task_schema task i.facts) true i.rows (ms_of task.by)
        ∙ (kept_whole c task i key sound is
        ∙ (ap (λ k. down (task_schema task i.facts) (rows_of_first k i.rows) (ms_of task.by)) whole ∙ kept_next c task i key sound is)))

    stays : index_named task.target c.indices ≡ Some j → ⊥
    stays there = let some = some_named index_name task.target c.indices j there in omega (arith, fresh, some)

    by_last : (b : Bool) → (next_done task.done series == series) ≡ b →
        index_named task.target (if b then swapped plain_way
        (record c { tasks = is.rest }) task i else record c { tasks = record task { done = next_done task.done series } ∷ is.rest }).indices ≡ Some j →
        (see_index j).rows ≡ kept_rows task i ++ series_rows task i key
    by_last true last there = swaps last there
    by_last false not_last there = absurd (stays there)

-- ---- rollovers

pub rollovers_join : RolloversJoin
rollovers_join c name now s w n none found write there = by_stream (stream_named name c.streams) found there
  where
    fresh : times (next_name s now) (map index_name c.indices) ≡ 0
    fresh = subst (λ ns. times (next_name s now) ns ≡ 0) (names_same c.indices)
        (alone_of (facts_of c) (next_name s now) (may_roll (facts_of c) name now s w.facts found (facts_there c (write_name s) w write) none).free)

    next : PlainStream → Template → PlainIndex → PlainCatalog
    next z t v = record c {
      streams = updated stream_name name (with_next now) c.streams;
      indices = inserted index_name (next_index z t v.facts now) c.indices;
    }

    stays : {A : Type 0} → index_named (next_name s now) c.indices ≡ Some n → A
    stays old = let some = some_named index_name (next_name s now) c.indices n old in absurd (omega (arith, fresh, some))

    by_index : (t : Template) (o : Option PlainIndex) → o ≡ Some w → index_named (next_name s now) (with_found o c (next s t)).indices ≡ Some n → n.facts.start ≡ w.facts.end
    by_index t None is there = absurd (none_not_some is)
    by_index t (Some v) is there =
        let new = next_index s t v.facts now in
        let is_new : new ≡ n = some_is (sym (named_new index_name new c.indices fresh) ∙ there) in
        ap (λ (k : PlainIndex). k.facts.start) (sym is_new) ∙ ap (λ (k : PlainIndex). k.facts.end) (some_is is)

    by_template : (o : Option Template) → index_named (next_name s now) (with_found o c (λ t. with_found (index_named (write_name s) c.indices) c (next s t))).indices ≡ Some n →
        n.facts.start ≡ w.facts.end
    by_template None there = stays there
    by_template (Some t) there = by_index t (index_named (write_name s) c.indices) write there

    by_own : (z : PlainStream) → z ≡ s →
        index_named (next_name s now) (with_found (template_named z.facts.template c.templates) c (λ t. with_found (index_named (write_name z) c.indices) c (next z t))).indices ≡ Some n →
        n.facts.start ≡ w.facts.end
    by_own z same there =
        by_template (template_named s.facts.template c.templates)
        (subst (λ (y : PlainStream). index_named (next_name s now)
        (with_found (template_named y.facts.template c.templates) c (λ t. with_found (index_named (write_name y) c.indices) c (next y t))).indices ≡ Some n) same there)

    by_stream : (o : Option PlainStream) → o ≡ Some s →
        index_named (next_name s now) (with_found o c
        (λ z. with_found (template_named z.facts.template c.templates) c (λ t. with_found (index_named (write_name z) c.indices) c (next z t)))).indices ≡ Some n →
        n.facts.start ≡ w.facts.end
    by_stream None is there = absurd (none_not_some is)
    by_stream (Some z) is there = by_own z (some_is is) there

-- ---- removals

-- moves begin no task
moved_fewer : (n : List ℕ) (f : PlainFacts) (m : Move) → times n (map task_index (moved f m).tasks) ≤ times n (map task_index f.tasks)
moved_fewer n f (Remove stream index) = times-filter task_index (λ t. not (bytes_eq t.index index)) n f.tasks
moved_fewer n f (Add stream index) = by_found (facts_named index f.indices)
  where
    by_found : (o : Option HeldIndex) →
        times n (map task_index (with_found o f (λ i. record f { streams = updated stream_name stream (with_member f.indices i) f.streams })).tasks) ≤ times n (map task_index f.tasks)
    by_found None = omega arith
    by_found (Some i) = omega arith

moves_fewer : (n : List ℕ) (f : PlainFacts) (ms : List Move) → times n (map task_index (moved_by f ms).tasks) ≤ times n (map task_index f.tasks)
moves_fewer n f [] = omega arith
moves_fewer n f (m ∷ ms) = omega (arith, moves_fewer n (moved f m) ms, moved_fewer n f m)

pub removals_end_tasks : RemovalsEndTasks
removals_end_tasks f stream index [] after =
    let gone : times index (map task_index (removed f stream index).tasks) ≡ 0 = without-gone task_index index f.tasks in
    let fewer = moves_fewer index (removed f stream index) after in
    omega (arith, gone, fewer)
removals_end_tasks f stream index (m ∷ before) after = removals_end_tasks (moved f m) stream index before after
