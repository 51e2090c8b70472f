-- The index that an item is taken by may take its row.
use Rattle.std.specs.Prelude.{◌≡◌, ℕ, ℤ, ◌≤◌, ◌≤ℤ◌, ◌<ℤ◌, int_le, int_lt, T, Bool, true, false, List, [], ◌∷◌, length, Option, Some, None, Result, Ok, Err, option_and_then, if◌then◌else◌}
use Rattle.std.specs.Int.Signed.{lt_z_yes, le_z_yes}
use Rattle.std.proofs.Common.{refl, ap, ◌∙◌, sym, subst, arith}
use Rattle.std.proofs.lemmas.Int.{ints}
use Rattle.std.proofs.lemmas.Bool.{and_parts, both_ways}
use Rattle.bulk_json.specs.declared.action.Action.{Action}
use Rattle.bulk_json.specs.declared.action.Action.TheVariants.{Create, Index, Update, Delete}
use Rattle.bulk_json.specs.declared.items.Item.{Item}
use Rattle.json_walk.specs.CountLaws.{few_leaves}
use Rattle.json_walk.specs.Counted.{leaf_count}
use Rattle.json_walk.specs.Shapes.{is_object}
use Rattle.json_walk.specs.Tree.{tree_of}
use Rattle.rest_request.specs.Body.{tree_if_object, object_of}
use Rattle.row_cells.specs.Each.{Each}
use Rattle.row_cells.specs.Fitting.{CellsFit}
use Rattle.row_cells.specs.KeyedRows.{IsShortList, IsRowOf}
use Rattle.row_cells.specs.Limits.{longest_list}
use Rattle.row_cells.specs.RowLists.{has_place}
use Rattle.row_cells.specs.declared.rows.Cell.{Cell}
use Rattle.row_cells.specs.declared.rows.Row.{Row}
use Rattle.row_cells.specs.declared.schemas.Schema.{Schema}
use Rattle.serde_json.specs.Data.{Data}
use Rattle.series_id.specs.Ids.{id_of}
use Rattle.series_id.specs.KeyFaultLaws.{keyed_told}
use Rattle.series_id.specs.Keys.{keyed}
use Rattle.stream_catalog.specs.Laws.{FoundIsHeld, NamesKeep, TakesRow, PutsKeepSound}
use Rattle.stream_catalog.specs.Lists.{with_found, stream_named, index_named}
use Rattle.stream_catalog.specs.Plain.{PlainIndex, PlainStream, PlainCatalog}
use Rattle.stream_catalog.specs.Puts.{has_time, MayPut, is_full, member_at}
use Rattle.stream_catalog.specs.Sound.{IsKind, IsSoundCatalog}
use Rattle.stream_catalog.specs.Ways.{plain_way}
use Rattle.stream_catalog.specs.WellNamed.{IsWellNamed}
use Rattle.synthetic_source.specs.Document.{document_cells}
use Rattle.synthetic_source.specs.Faults.{time_of}
use Rattle.synthetic_source.specs.Laws.{CellsOfDocumentsFit}
use Rattle.synthetic_source.specs.declared.errors.DocKind.{DocKind}
use Rattle.time_text.specs.Instant.{IsInstant}
use Rattle.time_text.specs.declared.intervals.Interval.{Interval}
use Rattle.tsds_service.specs.Bulk.{Outcome, taken, barred, key_of, by_place, by_key, by_cells, by_index, by_pick, by_time, by_document, by_stream, by_action, item_outcome, after_outcome, after_item, after_items}
use Rattle.tsds_service.specs.CausedLaws.{keys_caused, same_with_causes}
use Rattle.tsds_service.specs.Causes.{key_cause}
use Rattle.tsds_service.specs.declared.causes.ItemCause.{ItemCause}
use Rattle.tsds_service.specs.declared.causes.ItemCause.TheVariants.{Conflict, Full, Blocked, NoStream, NoObject}
use Rattle.tsds_service.proofs.ItemLemmas.{barred_not, taken_name, taken_row, some_is, none_not_some}
use Rattle.tsds_service.proofs.PickLemmas.{member_found}
use Rattle.tsds_service.proofs.SourceLemmas.{IsSourceWithin, AreSourcesWithin}

-- ---- numbers

from_le : (a b : ℤ) → int_le a b ≡ true → a ≤ℤ b
from_le a b is = le_z_yes {a = a} {b = b} (subst T (sym is) tt)

from_lt : (a b : ℤ) → int_lt a b ≡ true → a <ℤ b
from_lt a b is = lt_z_yes {a = a} {b = b} (subst T (sym is) tt)

instant_between : (start end t : ℤ) → IsInstant start → IsInstant end → start ≤ℤ t → t <ℤ end → IsInstant t
instant_between start end t begins ends above below = (omega (arith, ints, begins.0, above), omega (arith, ints, ends.1, below))

-- ---- what is held of an index that is there

raw_schema : (interval : Option Interval) (shut : Bool) (schema : Schema) → IsKind interval shut schema → shut ≡ false → schema.folded ≡ false
raw_schema None shut schema kind takes = kind.0
raw_schema (Some by) shut schema kind takes = absurd (both_ways shut takes kind.1)

-- ---- the row of an item

module _ (held_there : FoundIsHeld) (fit : CellsOfDocumentsFit) (c : PlainCatalog) (sound : IsSoundCatalog c) (n : List ℕ) (row : Row) where
  place_takes : (m : List ℕ) (i : PlainIndex) (r : Row) → index_named m c.indices ≡ Some i → i.facts.blocked ≡ false → has_time i.facts r.time ≡ true → IsRowOf i.facts.mapping.schema r
      → by_place m i r ≡ taken n row → TakesRow c n row
  place_takes m i r found takes within row_of is = by_tests (has_place r.key r.time i.rows) (is_full i.rows) refl refl is
    where
      by_tests : (a b : Bool) → has_place r.key r.time i.rows ≡ a → is_full i.rows ≡ b
          → (if a then barred (Conflict (id_of r.key r.time)) else (if b then barred (Full m) else taken m r)) ≡ taken n row → TakesRow c n row
      by_tests true b place room is = absurd (barred_not is)
      by_tests false true place room is = absurd (barred_not is)
      by_tests false false place room is = λ j there.
          let same : i ≡ j = some_is (sym found ∙ (ap (λ k. index_named k c.indices) (taken_name is) ∙ there)) in
          subst (λ (k : PlainIndex). MayPut k.facts k.rows row) same
          (subst (λ (x : Row). MayPut i.facts i.rows x) (taken_row is) (record { takes = takes; within = within; free = place; room = room; row_of = row_of }))

  key_takes : (m : List ℕ) (i : PlainIndex) (time : ℤ) (cells : List Cell) (key : Result (List ℕ) ItemCause) → index_named m c.indices ≡ Some i → i.facts.blocked ≡ false → has_time i.facts time ≡ true
      → CellsFit false i.facts.mapping.schema.rises 1 i.facts.mapping.schema.fields cells × Each IsShortList cells
      → key_of i.facts.mapping.schema cells ≡ key → by_key m i time cells key ≡ taken n row → TakesRow c n row
  key_takes m i time cells (Ok key) found takes within fits made is =
      let schema = i.facts.mapping.schema in
      let held = held_there c m i sound found in
      let raw = raw_schema i.facts.interval i.facts.blocked schema held.kind takes in
      let both = keyed_told schema cells key ((same_with_causes key_cause (keyed schema cells) (keys_caused schema cells)).value_back key made) in
      let window = and_parts (int_le i.facts.start time) (int_lt time i.facts.end) within in
      place_takes m i (record { key = key; time = time; count = 1; cells = cells }) found takes within
      (record {
        fits = record {
          cells_fit = subst (λ b. CellsFit b schema.rises 1 schema.fields cells) (sym raw) fits.0;
          key_is = both.1;
          instant = instant_between i.facts.start i.facts.end time held.begins held.ends (from_le i.facts.start time window.0) (from_lt time i.facts.end window.1);
          counted = omega arith;
          count_within = omega arith;
          alone = λ is_raw. refl;
        };
        keyed = both.0;
        short = fits.1;
      }) is
  key_takes m i time cells (Err cause) found takes within fits made is = absurd (barred_not is)

  cells_take : (m : List ℕ) (i : PlainIndex) (time : ℤ) (d : Data) (cells : Result (List Cell) (DocKind × List ℕ)) → leaf_count d ≤ longest_list → index_named m c.indices ≡ Some i →
      i.facts.blocked ≡ false
      → has_time i.facts time ≡ true → document_cells i.facts.mapping.schema i.facts.mapping.strict d ≡ cells → by_cells m i time cells ≡ taken n row → TakesRow c n row
  cells_take m i time d (Ok cells) few found takes within made is =
      let held = held_there c m i sound found in
      key_takes m i time cells (key_of i.facts.mapping.schema cells) found takes within (fit i.facts.mapping.schema i.facts.mapping.strict d cells held.mapping.schema few made) refl is
  cells_take m i time d (Err fault) few found takes within made is = absurd (barred_not is)

  pick_takes : (s : PlainStream) (time : ℤ) (d : Data) (pick : Option PlainIndex) → leaf_count d ≤ longest_list → member_at c time s ≡ pick → by_pick time d pick ≡ taken n row → TakesRow c n row
  pick_takes s time d None few picked is = absurd (barred_not is)
  pick_takes s time d (Some i) few picked is = by_test i.facts.blocked refl is
    where
      by_test : (b : Bool) → i.facts.blocked ≡ b → (if b then barred (Blocked i.facts.name) else by_index i.facts.name i time d) ≡ taken n row → TakesRow c n row
      by_test true shut is = absurd (barred_not is)
      by_test false takes is =
          let member = member_found c s time i picked in
          cells_take i.facts.name i time d (document_cells i.facts.mapping.schema i.facts.mapping.strict d) few member.there takes member.within refl is

  time_takes : (s : PlainStream) (d : Data) (time : Option ℤ) → leaf_count d ≤ longest_list → by_time c s d time ≡ taken n row → TakesRow c n row
  time_takes s d None few is = absurd (barred_not is)
  time_takes s d (Some time) few is = pick_takes s time d (member_at c time s) few refl is

  -- the tree of a source has few enough leaves
  few_in : (source : List ℕ) (d : Data) → length source ≤ longest_list → object_of source ≡ Some d → leaf_count d ≤ longest_list
  unfolding object_of
  few_in source d short is = by_tree (tree_of source) refl is
    where
      by_test : (e : Data) (b : Bool) → (if b then Some e else None) ≡ Some d → e ≡ d
      by_test e true is = some_is is
      by_test e false is = absurd (none_not_some is)

      by_tree : (o : Option Data) → tree_of source ≡ o → option_and_then tree_if_object o ≡ Some d → leaf_count d ≤ longest_list
      by_tree None read is = absurd (none_not_some is)
      by_tree (Some e) read is =
          let few = few_leaves source d (read ∙ ap (λ x. Some x) (by_test e (is_object e) is)) in
          omega (arith, few, short)

  stream_takes : (name : List ℕ) (source : Option (List ℕ)) → IsSourceWithin longest_list source → by_stream c name source ≡ taken n row → TakesRow c n row
  stream_takes name None short is = by_found (stream_named name c.streams) is
    where
      by_found : (o : Option PlainStream) → with_found o (barred (NoStream name)) (λ s. barred NoObject) ≡ taken n row → TakesRow c n row
      by_found None is = absurd (barred_not is)
      by_found (Some s) is = absurd (barred_not is)
  stream_takes name (Some source) short is = by_found (stream_named name c.streams) (object_of source) refl is
    where
      by_found : (o : Option PlainStream) (tree : Option Data) → object_of source ≡ tree →
          with_found o (barred (NoStream name)) (λ s. with_found tree (barred NoObject) (by_document c s)) ≡ taken n row → TakesRow c n row
      by_found None tree read is = absurd (barred_not is)
      by_found (Some s) None read is = absurd (barred_not is)
      by_found (Some s) (Some d) read is = time_takes s d (time_of d) (few_in source d short read) is

  action_takes : (action : Action) (name : List ℕ) (source : Option (List ℕ)) → IsSourceWithin longest_list source → by_action c action name source ≡ taken n row → TakesRow c n row
  action_takes Create name source short is = stream_takes name source short is
  action_takes Index name source short is = absurd (barred_not is)
  action_takes Update name source short is = absurd (barred_not is)
  action_takes Delete name source short is = absurd (barred_not is)

  pub item_takes : (item : Item) → IsSourceWithin longest_list item.source → item_outcome c item ≡ taken n row → TakesRow c n row
  unfolding item_outcome
  item_takes item short is = action_takes item.action item.stream item.source short is

-- ---- items one after another

module _ (held_there : FoundIsHeld) (fit : CellsOfDocumentsFit) (puts : PutsKeepSound) where
  item_sound : (c : PlainCatalog) (item : Item) → IsSoundCatalog c → IsSourceWithin longest_list item.source → IsSoundCatalog (after_item plain_way c item)
  item_sound c item sound short = by_outcome (item_outcome c item) refl
    where
      by_outcome : (o : Outcome) → item_outcome c item ≡ o → IsSoundCatalog (after_outcome plain_way c o)
      by_outcome (taken n row) is = puts c n row sound (item_takes held_there fit c sound n row item short is)
      by_outcome (barred cause) is = sound

  pub items_sound : (c : PlainCatalog) (items : List Item) → IsSoundCatalog c → AreSourcesWithin longest_list items → IsSoundCatalog (after_items plain_way c items)
  items_sound c [] sound short = sound
  items_sound c (item ∷ items) sound short = items_sound (after_item plain_way c item) items (item_sound c item sound short.0) short.1

pub items_named : NamesKeep → (c : PlainCatalog) (items : List Item) → IsWellNamed c → IsWellNamed (after_items plain_way c items)
items_named names c [] named = named
items_named names c (item ∷ items) named = items_named names (after_item plain_way c item) items (by_outcome (item_outcome c item))
  where
    by_outcome : (o : Outcome) → IsWellNamed (after_outcome plain_way c o)
    by_outcome (taken n row) = names.puts plain_way c n row named
    by_outcome (barred cause) = named
