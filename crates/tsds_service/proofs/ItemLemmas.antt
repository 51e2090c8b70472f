-- Items come to the same on both sides.
use Rattle.std.specs.Prelude.{◌≡◌, ℕ, ℤ, Bool, true, false, nat_le, bytes_eq, List, [], ◌∷◌, length, Option, Some, None, Result, Ok, Err, option_and_then, if◌then◌else◌}
use Rattle.std.specs.Option.{option_map}
use Rattle.std.proofs.Common.{refl, ap, ◌∙◌, sym, subst}
use Rattle.std.proofs.lemmas.Bool.{both_ways}
use Rattle.bulk_json.specs.declared.action.Action.{Action}
use Rattle.bulk_json.specs.declared.action.Action.TheVariants.{Create, Index, Update, Delete}
use Rattle.bulk_json.specs.declared.items.Item.{Item}
use Rattle.rest_request.specs.Body.{object_of}
use Rattle.row_cells.specs.Each.{Each}
use Rattle.row_cells.specs.RowLists.{has_place, in_row_order}
use Rattle.row_cells.specs.declared.rows.Cell.{Cell}
use Rattle.row_cells.specs.declared.rows.Row.{Row}
use Rattle.serde_json.specs.Data.{Data}
use Rattle.series_id.specs.Ids.{id_of}
use Rattle.stream_catalog.specs.Laws.{IsShut, ShowsPuts, FindsPlace}
use Rattle.stream_catalog.specs.Lists.{with_found, stream_named, index_named}
use Rattle.stream_catalog.specs.Plain.{PlainIndex, PlainStream, PlainCatalog}
use Rattle.stream_catalog.specs.Puts.{is_full, member_at}
use Rattle.stream_catalog.specs.Ways.{shown_by, plain_way, seen_way, see_index, see_catalog}
use Rattle.synthetic_source.specs.Document.{document_cells}
use Rattle.synthetic_source.specs.Faults.{time_of}
use Rattle.synthetic_source.specs.declared.errors.DocKind.{DocKind}
use Rattle.time_text.specs.declared.intervals.Interval.{Interval}
use Rattle.tsds_service.specs.Bulk.{Outcome, taken, barred, key_of, by_place, by_key, by_cells, by_index, by_pick, by_time, by_document, by_stream, by_action, item_outcome, after_outcome, after_item, outcomes_of, after_items}
use Rattle.tsds_service.specs.declared.causes.ItemCause.{ItemCause}
use Rattle.tsds_service.specs.declared.causes.ItemCause.TheVariants.{Conflict, Full, Blocked, NoStream, NoObject}
use Rattle.tsds_service.proofs.CatalogLaws.{CatalogLaws}
use Rattle.tsds_service.proofs.PickLemmas.{member-see, member_found}
use Rattle.row_cells.specs.Limits.{most_documents}

-- ---- look-ups in lists of indices

pub none_not_some : {A : Type 0} {a : A} → None ≡ Some a → ⊥
none_not_some e = cc

pub some_is : {A : Type 0} {a b : A} → Some a ≡ Some b → a ≡ b
some_is e = cc

pub each_named : (P : PlainIndex → Type 0) (n : List ℕ) (is : List PlainIndex) (i : PlainIndex) → index_named n is ≡ Some i → Each P is → P i
each_named P n [] i found each = absurd (none_not_some found)
each_named P n (j ∷ js) i found each = by_test (bytes_eq j.facts.name n) found (λ later. each_named P n js i later each.1)
  where
    by_test : (b : Bool) → (if b then Some j else index_named n js) ≡ Some i → (index_named n js ≡ Some i → P i) → P i
    by_test true found later = subst P (some_is found) each.0
    by_test false found later = later found

pub barred_not : {cause : ItemCause} {n : List ℕ} {row : Row} → barred cause ≡ taken n row → ⊥
barred_not e = cc

pub taken_name : {m n : List ℕ} {r row : Row} → taken m r ≡ taken n row → m ≡ n
taken_name e = cc

pub taken_row : {m n : List ℕ} {r row : Row} → taken m r ≡ taken n row → r ≡ row
taken_row e = cc

module _ (laws : CatalogLaws) where
  -- ---- one index

  place-see : (n : List ℕ) (i : PlainIndex) (row : Row) → i.facts.interval ≡ None → by_place n (see_index i) row ≡ by_place n i row
  place-see n i row raw =
      let shown : shown_by i.facts.interval i.facts.mapping.schema i.rows ≡ in_row_order i.rows = ap (λ o. shown_by o i.facts.mapping.schema i.rows) raw in
      let place : has_place row.key row.time (see_index i).rows ≡ has_place row.key row.time i.rows = ap (has_place row.key row.time) shown ∙ laws.rows.place row.key row.time i.rows in
      let number : length (see_index i).rows ≡ length i.rows = ap length shown ∙ laws.rows.number i.rows in
      ap (λ b. if b then barred (Conflict (id_of row.key row.time)) else (if is_full (see_index i).rows then barred (Full n) else taken n row)) place
      ∙ ap (λ k. if has_place row.key row.time i.rows then barred (Conflict (id_of row.key row.time)) else (if nat_le most_documents k then barred (Full n) else taken n row)) number

  key-see : (n : List ℕ) (i : PlainIndex) (time : ℤ) (cells : List Cell) (key : Result (List ℕ) ItemCause) → i.facts.interval ≡ None → by_key n (see_index i) time cells key ≡ by_key n i time cells key
  key-see n i time cells (Ok key) raw = place-see n i (record { key = key; time = time; count = 1; cells = cells }) raw
  key-see n i time cells (Err cause) raw = refl

  cells-see : (n : List ℕ) (i : PlainIndex) (time : ℤ) (cells : Result (List Cell) (DocKind × List ℕ)) → i.facts.interval ≡ None → by_cells n (see_index i) time cells ≡ by_cells n i time cells
  cells-see n i time (Ok cells) raw = key-see n i time cells (key_of i.facts.mapping.schema cells) raw
  cells-see n i time (Err fault) raw = refl

  -- an index that takes documents is raw
  raw_of : (interval : Option Interval) (shut : Bool) → IsShut interval shut → shut ≡ false → interval ≡ None
  raw_of None shut is takes = refl
  raw_of (Some by) shut is takes = absurd (both_ways shut takes is)

  index-see : (n : List ℕ) (i : PlainIndex) (time : ℤ) (d : Data) → ShowsPuts i → i.facts.blocked ≡ false → by_index n (see_index i) time d ≡ by_index n i time d
  index-see n i time d shows takes = cells-see n i time (document_cells i.facts.mapping.schema i.facts.mapping.strict d) (raw_of i.facts.interval i.facts.blocked shows.shut takes)

  -- ---- an item

  module _ (c : PlainCatalog) (shows : Each ShowsPuts c.indices) where
    pick-see : (s : PlainStream) (time : ℤ) (d : Data) (pick : Option PlainIndex) → member_at c time s ≡ pick → by_pick time d (option_map see_index pick) ≡ by_pick time d pick
    pick-see s time d None picked = refl
    pick-see s time d (Some i) picked = by_test i.facts.blocked refl
      where
        by_test : (b : Bool) → i.facts.blocked ≡ b →
            (if b then barred (Blocked i.facts.name) else by_index i.facts.name (see_index i) time d) ≡ (if b then barred (Blocked i.facts.name) else by_index i.facts.name i time d)
        by_test true shut = refl
        by_test false takes = index-see i.facts.name i time d (each_named ShowsPuts i.facts.name c.indices i (member_found c s time i picked).there shows) takes

    time-see : (s : PlainStream) (d : Data) (time : Option ℤ) → by_time (see_catalog c) s d time ≡ by_time c s d time
    time-see s d None = refl
    time-see s d (Some time) =
        ap (by_pick time d) (member-see laws.lookups c time s) ∙ pick-see s time d (member_at c time s) refl

    stream-see : (name : List ℕ) (source : Option (List ℕ)) → by_stream (see_catalog c) name source ≡ by_stream c name source
    stream-see name source = by_found (stream_named name c.streams) (option_and_then object_of source)
      where
        by_found : (o : Option PlainStream) (tree : Option Data) →
            with_found o (barred (NoStream name)) (λ s. with_found tree (barred NoObject) (by_document (see_catalog c) s))
            ≡ with_found o (barred (NoStream name)) (λ s. with_found tree (barred NoObject) (by_document c s))
        by_found None tree = refl
        by_found (Some s) None = refl
        by_found (Some s) (Some d) = time-see s d (time_of d)

    action-see : (action : Action) (name : List ℕ) (source : Option (List ℕ)) → by_action (see_catalog c) action name source ≡ by_action c action name source
    action-see Create name source = stream-see name source
    action-see Index name source = refl
    action-see Update name source = refl
    action-see Delete name source = refl

    pub outcome-see : (item : Item) → item_outcome (see_catalog c) item ≡ item_outcome c item
    unfolding item_outcome
    outcome-see item = action-see item.action item.stream item.source

  -- ---- an item that is taken finds its place

  module _ (c : PlainCatalog) (n : List ℕ) (row : Row) where
    place_found : (m : List ℕ) (i : PlainIndex) (r : Row) → index_named m c.indices ≡ Some i → i.facts.blocked ≡ false → by_place m i r ≡ taken n row → FindsPlace c n row
    place_found m i r found takes is = by_tests (has_place r.key r.time i.rows) (is_full i.rows) refl is
      where
        by_tests : (a b : Bool) → has_place r.key r.time i.rows ≡ a → (if a then barred (Conflict (id_of r.key r.time)) else (if b then barred (Full m) else taken m r)) ≡ taken n row → FindsPlace c n row
        by_tests true b place is = absurd (barred_not is)
        by_tests false true place is = absurd (barred_not is)
        by_tests false false place is = λ j there.
            let same : i ≡ j = some_is (sym found ∙ (ap (λ k. index_named k c.indices) (taken_name is) ∙ there)) in
            subst (λ (k : PlainIndex). (k.facts.blocked ≡ false) × (has_place row.key row.time k.rows ≡ false)) same
            (takes, subst (λ (x : Row). has_place x.key x.time i.rows ≡ false) (taken_row is) place)

    key_found : (m : List ℕ) (i : PlainIndex) (time : ℤ) (cells : List Cell) (key : Result (List ℕ) ItemCause) → index_named m c.indices ≡ Some i → i.facts.blocked ≡ false → by_key m i time cells key ≡ taken n row → FindsPlace c n row
    key_found m i time cells (Ok key) found takes is = place_found m i (record { key = key; time = time; count = 1; cells = cells }) found takes is
    key_found m i time cells (Err cause) found takes is = absurd (barred_not is)

    cells_found : (m : List ℕ) (i : PlainIndex) (time : ℤ) (cells : Result (List Cell) (DocKind × List ℕ)) → index_named m c.indices ≡ Some i → i.facts.blocked ≡ false → by_cells m i time cells ≡ taken n row → FindsPlace c n row
    cells_found m i time (Ok cells) found takes is = key_found m i time cells (key_of i.facts.mapping.schema cells) found takes is
    cells_found m i time (Err fault) found takes is = absurd (barred_not is)

    pick_found : (s : PlainStream) (time : ℤ) (d : Data) (pick : Option PlainIndex) → member_at c time s ≡ pick → by_pick time d pick ≡ taken n row → FindsPlace c n row
    pick_found s time d None picked is = absurd (barred_not is)
    pick_found s time d (Some i) picked is = by_test i.facts.blocked refl is
      where
        by_test : (b : Bool) → i.facts.blocked ≡ b → (if b then barred (Blocked i.facts.name) else by_index i.facts.name i time d) ≡ taken n row → FindsPlace c n row
        by_test true shut is = absurd (barred_not is)
        by_test false takes is = cells_found i.facts.name i time (document_cells i.facts.mapping.schema i.facts.mapping.strict d) (member_found c s time i picked).there takes is

    stream_found : (name : List ℕ) (source : Option (List ℕ)) → by_stream c name source ≡ taken n row → FindsPlace c n row
    stream_found name source is = by_found (stream_named name c.streams) (option_and_then object_of source) is
      where
        of_time : (s : PlainStream) (d : Data) (time : Option ℤ) → by_time c s d time ≡ taken n row → FindsPlace c n row
        of_time s d None is = absurd (barred_not is)
        of_time s d (Some time) is = pick_found s time d (member_at c time s) refl is

        by_found : (o : Option PlainStream) (tree : Option Data) →
            with_found o (barred (NoStream name)) (λ s. with_found tree (barred NoObject) (by_document c s)) ≡ taken n row → FindsPlace c n row
        by_found None tree is = absurd (barred_not is)
        by_found (Some s) None is = absurd (barred_not is)
        by_found (Some s) (Some d) is = of_time s d (time_of d) is

    action_found : (action : Action) (name : List ℕ) (source : Option (List ℕ)) → by_action c action name source ≡ taken n row → FindsPlace c n row
    action_found Create name source is = stream_found name source is
    action_found Index name source is = absurd (barred_not is)
    action_found Update name source is = absurd (barred_not is)
    action_found Delete name source is = absurd (barred_not is)

    finds_place : (item : Item) → item_outcome c item ≡ taken n row → FindsPlace c n row
    unfolding item_outcome
    finds_place item is = action_found item.action item.stream item.source is

  -- ---- what items leave

  module _ (c : PlainCatalog) (shows : Each ShowsPuts c.indices) (item : Item) where
    after-see : see_catalog (after_item plain_way c item) ≡ after_item seen_way (see_catalog c) item
    after-see = by_outcome (item_outcome c item) refl ∙ ap (after_outcome seen_way (see_catalog c)) (sym (outcome-see c shows item))
      where
        by_outcome : (o : Outcome) → item_outcome c item ≡ o → see_catalog (after_outcome plain_way c o) ≡ after_outcome seen_way (see_catalog c) o
        by_outcome (taken n row) is = laws.puts c n row shows (finds_place c n row item is)
        by_outcome (barred cause) is = refl

    after_shows : Each ShowsPuts (after_item plain_way c item).indices
    after_shows = by_outcome (item_outcome c item) refl
      where
        by_outcome : (o : Outcome) → item_outcome c item ≡ o → Each ShowsPuts (after_outcome plain_way c o).indices
        by_outcome (taken n row) is = laws.puts_keep c n row shows (finds_place c n row item is)
        by_outcome (barred cause) is = shows

  pub outcomes-see : (c : PlainCatalog) → Each ShowsPuts c.indices → (items : List Item) → outcomes_of seen_way (see_catalog c) items ≡ outcomes_of plain_way c items
  outcomes-see c shows [] = refl
  outcomes-see c shows (item ∷ items) =
      ap (λ o. o ∷ outcomes_of seen_way (after_item seen_way (see_catalog c) item) items) (outcome-see c shows item)
      ∙ ap (λ os. item_outcome c item ∷ os)
      (ap (λ d. outcomes_of seen_way d items) (sym (after-see c shows item)) ∙ outcomes-see (after_item plain_way c item) (after_shows c shows item) items)

  pub after_items-see : (c : PlainCatalog) → Each ShowsPuts c.indices → (items : List Item) → see_catalog (after_items plain_way c items) ≡ after_items seen_way (see_catalog c) items
  after_items-see c shows [] = refl
  after_items-see c shows (item ∷ items) =
      after_items-see (after_item plain_way c item) (after_shows c shows item) items ∙ ap (λ d. after_items seen_way d items) (after-see c shows item)
