-- The rows of an index that is seen again itself.
use Rattle.std.specs.Prelude.{◌≡◌, ℕ, ℤ, ◌≤◌, Bool, List, [], ◌∷◌, map, Option, Some, None}
use Rattle.std.specs.Option.{option_map}
use Rattle.std.proofs.Common.{refl, ap, ◌∙◌, sym, subst, inr}
use Rattle.std.proofs.Math.Nat.{mod_self}
use Rattle.row_cells.specs.declared.rows.Row.{Row}
use Rattle.row_cells.specs.declared.schemas.Schema.{Schema}
use Rattle.row_cells.specs.Each.{Each}
use Rattle.row_cells.specs.EachLaws.{Each-weaker, Each-both}
use Rattle.row_cells.specs.Fitting.{folded_form}
use Rattle.row_cells.specs.Mapped.{IsMapped}
use Rattle.row_cells.specs.PlaceLaws.{in_order-distinct}
use Rattle.row_cells.specs.RowLists.{in_row_order, documents}
use Rattle.time_text.specs.declared.intervals.Interval.{Interval}
use Rattle.time_text.specs.Bucket.{bucket_start}
use Rattle.time_text.specs.Interval.{ms_of}
use Rattle.downsample_fold.specs.Direct.{down}
use Rattle.downsample_fold.specs.FoldLaws.{folds_at_starts}
use Rattle.downsample_fold.specs.SettleLaws.{folds_settle}
use Rattle.row_cells.specs.OrderLaws.{in_row_order-each, in_row_order-same, in_order-ascends}
use Rattle.stream_catalog.specs.Plain.{PlainIndex, PlainCatalog, PlainFacts, facts_of}
use Rattle.stream_catalog.specs.Ways.{shown_by, see_index, see_catalog}
use Rattle.stream_catalog.specs.Lists.{index_named}
use Rattle.stream_catalog.specs.Sound.{raw_form, IsWithin, Meets, AreRows, IsKind, IsHeld, IsIndexSound}
use Rattle.stream_catalog.specs.RowLaws.{IsBucketIn, StandIn, AreRowsIn, HasOwnRows, ShownRows, SeenIsMade}
use Rattle.row_cells.specs.KeyedRows.{IsRowOf}
use Rattle.stream_catalog.proofs.NamedLemmas.{some_is, cons_eq}
use Rattle.stream_catalog.proofs.ChangeLemmas.{index_named-see, with_indices}
use Rattle.stream_catalog.proofs.CatalogLemmas.{of_facts, held_of, sound_of}
use Rattle.stream_catalog.proofs.SeenLemmas.{some_ms, fits_of, either_of, either_cells, down_rows, folds_meet, shown_in_order, cells_of, index_sound}
use Rattle.row_cells.specs.Limits.{most_documents}

-- ---- a schema is in the form of its kind

raw_kind : (blocked : Bool) (schema : Schema) → IsKind None blocked schema → raw_form schema ≡ schema
raw_kind blocked schema kind = ap (λ b. record schema { folded = b }) (sym kind.0)

folded_kind : (by : Interval) (blocked : Bool) (schema : Schema) → IsKind (Some by) blocked schema → folded_form schema ≡ schema
folded_kind by blocked schema kind = ap (λ b. record schema { folded = b }) (sym kind.0)

-- ---- what a sound index shows

shown_fit : (interval : Option Interval) (blocked : Bool) (schema : Schema) (start end : ℤ) (rows : List Row) → IsKind interval blocked schema → IsMapped schema → AreRows interval schema start end rows → documents rows ≤ most_documents →
    Each (IsRowOf schema) (shown_by interval schema rows)
shown_fit None blocked schema start end rows kind mapped are few =
    subst (λ s. Each (IsRowOf s) (in_row_order rows)) (raw_kind blocked schema kind) (in_row_order-each (IsRowOf (raw_form schema)) rows are.each)
shown_fit (Some by) blocked schema start end rows kind mapped are few =
    subst (λ s. Each (IsRowOf s) (down schema rows (ms_of by))) (folded_kind by blocked schema kind)
    (down_rows schema rows (ms_of by) mapped (some_ms by) (either_of (Some by) schema start end rows are) few)

shown_stand : (interval : Option Interval) (schema : Schema) (start end : ℤ) (rows : List Row) → AreRows interval schema start end rows → StandIn interval start end (shown_by interval schema rows)
shown_stand None schema start end rows are = in_row_order-each (λ row. IsWithin start end row.time) rows are.within
shown_stand (Some by) schema start end rows are =
    let n = ms_of by in
    Each-both (λ row. bucket_start n row.time ≡ row.time) (λ row. Meets n start end (bucket_start n row.time)) (λ row. IsBucketIn n start end row.time)
    (λ row at meets. (at, subst (Meets n start end) at meets)) (down schema rows n)
    (folds_at_starts schema rows n (either_cells schema rows (either_of (Some by) schema start end rows are)) (some_ms by)) (folds_meet schema start end by rows are)

pub shown_own : (i : PlainIndex) → IsKind i.facts.interval i.facts.blocked i.facts.mapping.schema → IsMapped i.facts.mapping.schema → IsIndexSound i → HasOwnRows (see_index i)
shown_own i kind mapped sound =
    let schema = i.facts.mapping.schema in
    record {
      fit = record {
        each = shown_fit i.facts.interval i.facts.blocked schema i.facts.start i.facts.end i.rows kind mapped sound.rows sound.few;
        in_order = shown_in_order i.facts.interval schema i.rows (cells_of i sound) sound.distinct;
        few = (index_sound i mapped sound).few;
      };
      times = shown_stand i.facts.interval schema i.facts.start i.facts.end i.rows sound.rows;
    }

-- ---- an index of a catalogue that is seen again itself is seen itself

seen_itself : (c : PlainCatalog) (n : List ℕ) (i : PlainIndex) → see_catalog c ≡ c → index_named n c.indices ≡ Some i → see_index i ≡ i
seen_itself c n i again found =
    some_is (sym (index_named-see n c.indices ∙ ap (option_map see_index) found) ∙ (ap (λ (d : PlainCatalog). index_named n d.indices) again ∙ found))

own_rows : (f : PlainFacts) (i : PlainIndex) → IsHeld f i.facts → IsIndexSound i → see_index i ≡ i → HasOwnRows i
own_rows f i held sound again = subst HasOwnRows again (shown_own i held.kind held.mapping.schema.mapped sound)

pub shown_rows : ShownRows
shown_rows c n i seen found = own_rows (facts_of c) i (held_of c n i seen.sound found) (sound_of c n i seen.sound found) (seen_itself c n i seen.again found)

-- ---- rows of its own make an index sound, and seen again itself

own_are : (interval : Option Interval) (blocked : Bool) (schema : Schema) (start end : ℤ) (rows : List Row) → IsKind interval blocked schema → AreRowsIn schema interval start end rows →
    AreRows interval schema start end rows
own_are None blocked schema start end rows kind own = record {
  each = subst (λ s. Each (IsRowOf s) rows) (sym (raw_kind blocked schema kind)) own.fit.each;
  within = own.times;
}
own_are (Some by) blocked schema start end rows kind own =
    let n = ms_of by in
    inr (record {
      by = n;
      some = some_ms by;
      divides = mod_self n;
      each = subst (λ s. Each (IsRowOf s) rows) (sym (folded_kind by blocked schema kind)) own.fit.each;
      starts = Each-weaker (λ row. IsBucketIn n start end row.time) (λ row. bucket_start n row.time ≡ row.time) (λ row is. is.0) rows own.times;
      meet = Each-weaker (λ row. IsBucketIn n start end row.time) (λ row. Meets n start end (bucket_start n row.time)) (λ row is. subst (Meets n start end) (sym is.0) is.1) rows own.times;
    })

own_shown : (interval : Option Interval) (blocked : Bool) (schema : Schema) (start end : ℤ) (rows : List Row) → IsKind interval blocked schema → AreRowsIn schema interval start end rows →
    shown_by interval schema rows ≡ rows
own_shown None blocked schema start end rows kind own = in_row_order-same rows (in_order-ascends rows own.fit.in_order)
own_shown (Some by) blocked schema start end rows kind own =
    let n = ms_of by in
    let fit = fits_of (folded_form schema) rows (subst (λ s. Each (IsRowOf s) rows) (sym (folded_kind by blocked schema kind)) own.fit.each) in
    let starts = Each-weaker (λ row. IsBucketIn n start end row.time) (λ row. bucket_start n row.time ≡ row.time) (λ row is. is.0) rows own.times in
    folds_settle schema rows n fit own.fit.in_order starts (some_ms by)

own_sound : (i : PlainIndex) → IsKind i.facts.interval i.facts.blocked i.facts.mapping.schema → HasOwnRows i → IsIndexSound i
own_sound i kind own = record {
  rows = own_are i.facts.interval i.facts.blocked i.facts.mapping.schema i.facts.start i.facts.end i.rows kind own;
  distinct = in_order-distinct i.rows own.fit.in_order;
  few = own.fit.few;
}

own_again : (i : PlainIndex) → IsKind i.facts.interval i.facts.blocked i.facts.mapping.schema → HasOwnRows i → see_index i ≡ i
own_again i kind own = ap (λ rows. record i { rows = rows }) (own_shown i.facts.interval i.facts.blocked i.facts.mapping.schema i.facts.start i.facts.end i.rows kind own)

-- ---- all indices

head_is : {A : Type 0} {x y : A} {xs ys : List A} → x ∷ xs ≡ y ∷ ys → x ≡ y
head_is e = cc

tail_is : {A : Type 0} {x y : A} {xs ys : List A} → x ∷ xs ≡ y ∷ ys → xs ≡ ys
tail_is e = cc

module _ (f : PlainFacts) where
  all_own : (is : List PlainIndex) → Each (λ i. IsHeld f i.facts) is → Each IsIndexSound is → map see_index is ≡ is → Each HasOwnRows is
  all_own [] held sound again = tt
  all_own (i ∷ is) held sound again = (own_rows f i held.0 sound.0 (head_is again), all_own is held.1 sound.1 (tail_is again))

  all_again : (is : List PlainIndex) → Each (λ i. IsHeld f i.facts) is → Each HasOwnRows is → map see_index is ≡ is
  all_again [] held own = refl
  all_again (i ∷ is) held own = cons_eq (own_again i held.0.kind own.0) (all_again is held.1 own.1)

pub seen_is_made : SeenIsMade
seen_is_made c = (
  λ seen. record {
    facts = seen.sound.facts;
    indices = all_own (facts_of c) c.indices (of_facts (IsHeld (facts_of c)) c.indices seen.sound.facts.indices) seen.sound.indices (ap (λ (d : PlainCatalog). d.indices) seen.again);
    tasks = seen.sound.tasks;
  },
  λ made.
      let held = of_facts (IsHeld (facts_of c)) c.indices made.facts.indices in
      record {
        sound = record {
          facts = made.facts;
          indices = Each-both (λ i. IsHeld (facts_of c) i.facts) HasOwnRows IsIndexSound (λ i is own. own_sound i is.kind own) c.indices held made.indices;
          tasks = made.tasks;
        };
        again = ap (with_indices c) (all_again (facts_of c) c.indices held made.indices);
      },
)
