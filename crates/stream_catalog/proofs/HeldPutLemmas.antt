-- What a row that is put leaves of a catalogue in memory.
use Rattle.std.specs.Prelude.{◌≡◌, ℕ, Bool, true, false, List, [], ◌∷◌, Option, Some, None, bytes_eq, if◌then◌else◌}
use Rattle.std.proofs.Common.{refl, ap, ◌∙◌, sym, subst}
use Rattle.std.proofs.lemmas.Bool.{both_ways}
use Rattle.row_cells.specs.declared.rows.Row.{Row}
use Rattle.row_cells.specs.declared.schemas.Schema.{Schema}
use Rattle.row_cells.specs.KeyedRows.{IsRowOf}
use Rattle.row_cells.specs.RowLists.{has_place, insert_row}
use Rattle.time_text.specs.declared.intervals.Interval.{Interval}
use Rattle.tsds_index.specs.declared.refusal.PutError.{PutError}
use Rattle.tsds_index.specs.declared.refusal.PutError.TheVariants.{Duplicate, Full}
use Rattle.tsds_index.specs.Spread.{rows_of}
use Rattle.stream_catalog.specs.declared.facts.HeldIndex.{HeldIndex}
use Rattle.stream_catalog.specs.declared.held_rows.HeldRows.{HeldRows}
use Rattle.stream_catalog.specs.Beside.{AreBeside, IsHeldCatalog, catalog_of, joined, rows_name}
use Rattle.stream_catalog.specs.Calls.{HasIndexFor, IsFor, put_refusal, rows_refusal}
use Rattle.stream_catalog.specs.Laws.{TakesRow}
use Rattle.stream_catalog.specs.Lists.{facts_named, found_by, index_name, index_named, updated, with_found}
use Rattle.stream_catalog.specs.Plain.{PlainCatalog, PlainFacts, PlainIndex}
use Rattle.stream_catalog.specs.Puts.{is_full, put_into}
use Rattle.stream_catalog.specs.RowChanges.{AreChanged, IsOfRaw, held_refusal}
use Rattle.stream_catalog.specs.Sound.{IsKind, IsSeenCatalog}
use Rattle.stream_catalog.specs.Ways.{seen_way}
use Rattle.stream_catalog.proofs.BesideLemmas.{AreFound, changed_beside, found_beside, joined_changed, with_rows}
use Rattle.stream_catalog.proofs.CatalogLemmas.{held_of, keeps, puts_go_through, sound_shows}
use Rattle.stream_catalog.proofs.PutLemmas.{puts_keep_sound}

-- ---- rows that are changed

-- none of an index's rows are, where they become what they were
updated_same : (n : List ℕ) (g : PlainIndex → PlainIndex) (is : List PlainIndex) → ((i : PlainIndex) → g i ≡ i) → updated index_name n g is ≡ is
updated_same n g [] same = refl
updated_same n g (i ∷ is) same = by_test (bytes_eq i.facts.name n) (updated_same n g is same)
  where
    by_test : (b : Bool) → updated index_name n g is ≡ is → (if b then g i ∷ is else i ∷ updated index_name n g is) ≡ i ∷ is
    by_test true later = ap (λ j. j ∷ is) (same i)
    by_test false later = ap (λ js. i ∷ js) later

module _ (f : PlainFacts) (xs ys : List HeldRows) (n : List ℕ) (h : List Row → List Row) (held : IsHeldCatalog f xs) (changed : AreChanged n h xs ys) where
  rows_beside : AreBeside f.indices ys
  rows_beside = subst (AreBeside f.indices) (sym changed.place) (changed_beside n changed.rows h f.indices xs held.beside changed.change)

  rows_joined : catalog_of f ys ≡ record (catalog_of f xs) { indices = updated index_name n (with_rows h) (joined f.indices xs) }
  rows_joined = ap (λ is. record (catalog_of f xs) { indices = is }) (ap (joined f.indices) changed.place ∙ joined_changed n changed.rows h f.indices xs held.beside changed.change)

-- ---- a row that is put

raw_of : (interval : Option Interval) (blocked : Bool) (schema : Schema) → IsKind interval blocked schema → blocked ≡ false → schema.folded ≡ false
raw_of None blocked schema kind takes = kind.0
raw_of (Some by) blocked schema kind takes = absurd (both_ways blocked takes kind.1)

-- an index that takes documents has rows of its own, which aren't folded
for_raw : (f : PlainFacts) (xs : List HeldRows) (n : List ℕ) (row : Row) → IsHeldCatalog f xs → HasIndexFor row (index_named n (joined f.indices xs)) → IsOfRaw row (found_by rows_name n xs)
for_raw f xs n row held has = by_found (facts_named n f.indices) (found_by rows_name n xs) (index_named n (joined f.indices xs)) refl (found_beside n f.indices xs held.beside) has
  where
    by_found : (i : Option HeldIndex) (x : Option HeldRows) (p : Option PlainIndex) → index_named n (joined f.indices xs) ≡ p → AreFound i x p → HasIndexFor row p → IsOfRaw row x
    by_found (Some i) (Some x) (Some p) is found has =
        let schema : x.index.schema ≡ p.facts.mapping.schema = found.0.schema ∙ ap (λ (q : PlainIndex). q.facts.mapping.schema) (sym found.1) in (
          subst (λ s. IsRowOf s row) (sym schema) has.row_of,
          ap (λ (s : Schema). s.folded) schema ∙ raw_of p.facts.interval p.facts.blocked p.facts.mapping.schema (held_of (catalog_of f xs) n p held.seen.sound is).kind has.takes,
        )
    by_found None None None is found has = absurd has
    by_found None None (Some p) is found has = absurd found
    by_found None (Some x) None is found has = absurd found
    by_found None (Some x) (Some p) is found has = absurd found
    by_found (Some i) None None is found has = absurd found
    by_found (Some i) None (Some p) is found has = absurd found
    by_found (Some i) (Some x) None is found has = absurd found

pub awaited : (f : PlainFacts) (xs : List HeldRows) (c : PlainCatalog) (m n : List ℕ) (row : Row) → IsHeldCatalog f xs → catalog_of f xs ≡ c → m ≡ n → HasIndexFor row (index_named n c.indices) → IsOfRaw row (found_by rows_name m xs)
awaited f xs c m n row held view same has =
    subst (λ k. IsOfRaw row (found_by rows_name k xs)) (sym same) (for_raw f xs n row held (subst (λ (d : PlainCatalog). HasIndexFor row (index_named n d.indices)) (sym view) has))

-- what refuses it is read off rows in memory
same_refusal : (row : Row) (i : Option HeldIndex) (x : Option HeldRows) (p : Option PlainIndex) → AreFound i x p →
    with_found x None (λ y. rows_refusal (rows_of y.index) row) ≡ with_found p None (λ (q : PlainIndex). rows_refusal q.rows row)
same_refusal row None None None found = refl
same_refusal row (Some i) (Some x) (Some p) found = ap (λ (q : PlainIndex). rows_refusal q.rows row) (sym found.1)
same_refusal row None None (Some p) found = absurd found
same_refusal row None (Some x) None found = absurd found
same_refusal row None (Some x) (Some p) found = absurd found
same_refusal row (Some i) None None found = absurd found
same_refusal row (Some i) None (Some p) found = absurd found
same_refusal row (Some i) (Some x) None found = absurd found

pub refusal_told : (f : PlainFacts) (xs : List HeldRows) (c : PlainCatalog) (m n : List ℕ) (row : Row) → IsHeldCatalog f xs → catalog_of f xs ≡ c → m ≡ n → held_refusal xs m row ≡ put_refusal c n row
refusal_told f xs c m n row held view same =
    ap (λ k. held_refusal xs k row) same
    ∙ (same_refusal row (facts_named n f.indices) (found_by rows_name n xs) (index_named n (joined f.indices xs)) (found_beside n f.indices xs held.beside)
    ∙ ap (λ d. put_refusal d n row) view)

-- ---- what it leaves

-- rows that nothing refuses
none_refused : (taken full : Bool) → ◌≡◌ {A = Option PutError} (if taken then Some Duplicate else (if full then Some Full else None)) None → (taken ≡ false) × (full ≡ false)
none_refused false false none = (refl, refl)
none_refused true full none = cc
none_refused false true none = cc

takes_row : (c : PlainCatalog) (n : List ℕ) (row : Row) → HasIndexFor row (index_named n c.indices) → put_refusal c n row ≡ None → TakesRow c n row
takes_row c n row has none i found =
    let own : IsFor row i.facts = subst (HasIndexFor row) found has in
    let may : rows_refusal i.rows row ≡ None = sym (ap (λ o. with_found o None (λ (q : PlainIndex). rows_refusal q.rows row)) found) ∙ none in
    let both = none_refused (has_place row.key row.time i.rows) (is_full i.rows) may in
    record { takes = own.takes; within = own.within; free = both.0; room = both.1; row_of = own.row_of }

seen_put : (c : PlainCatalog) (n : List ℕ) (row : Row) → IsSeenCatalog c → TakesRow c n row → IsSeenCatalog (put_into seen_way c n row)
seen_put c n row seen takes =
    keeps (λ way d. put_into way d n row) c seen (
      puts_go_through c n row (sound_shows c seen.sound) (λ i found. ((takes i found).takes, (takes i found).free)),
      puts_keep_sound c n row seen.sound takes,
    )

module _ (f : PlainFacts) (xs ys : List HeldRows) (c : PlainCatalog) (m n : List ℕ) (row : Row) (held : IsHeldCatalog f xs) (view : catalog_of f xs ≡ c) (same : m ≡ n) where
  pub told_put : AreChanged m (insert_row row) xs ys → catalog_of f ys ≡ put_into seen_way c n row
  told_put changed = rows_joined f xs ys m (insert_row row) held changed ∙ (ap (λ k. put_into seen_way (catalog_of f xs) k row) same ∙ ap (λ d. put_into seen_way d n row) view)

  pub held_put : HasIndexFor row (index_named n c.indices) → held_refusal xs m row ≡ None → AreChanged m (insert_row row) xs ys → IsHeldCatalog f ys
  held_put has none changed =
      let free = sym (refusal_told f xs c m n row held view same) ∙ none in
      record {
        seen = subst IsSeenCatalog (sym (told_put changed)) (seen_put c n row (subst IsSeenCatalog view held.seen) (takes_row c n row has free));
        beside = rows_beside f xs ys m (insert_row row) held changed;
      }

-- ---- rows that are as they were

pub told_stay : (f : PlainFacts) (xs ys : List HeldRows) (m : List ℕ) → IsHeldCatalog f xs → AreChanged m (λ rows. rows) xs ys → catalog_of f ys ≡ catalog_of f xs
told_stay f xs ys m held changed =
    rows_joined f xs ys m (λ rows. rows) held changed ∙ ap (λ is. record (catalog_of f xs) { indices = is }) (updated_same m (with_rows (λ rows. rows)) (joined f.indices xs) (λ i. refl))

pub held_stay : (f : PlainFacts) (xs ys : List HeldRows) (m : List ℕ) → IsHeldCatalog f xs → AreChanged m (λ rows. rows) xs ys → IsHeldCatalog f ys
held_stay f xs ys m held changed = record {
  seen = subst IsSeenCatalog (sym (told_stay f xs ys m held changed)) held.seen;
  beside = rows_beside f xs ys m (λ rows. rows) held changed;
}
