-- A catalogue that takes a row stays sound.
use Rattle.std.specs.Prelude.{◌≡◌, ℕ, ℤ, ◌≤◌, ◌≤ℤ◌, ◌<ℤ◌, int_le, int_lt, T, Bool, List, [], ◌∷◌, ◌++◌, map, length, Option, Some, None, true, false, if◌then◌else◌, bytes_eq}
use Rattle.std.specs.Int.Signed.{lt_z, lt_z_yes, le_z, le_z_yes}
use Rattle.std.specs.Option.{option_map}
use Rattle.std.proofs.Common.{refl, ap, sym, subst, arith}
use Rattle.std.proofs.lemmas.Bool.{and_parts, both_ways, leb-false}
use Rattle.std.proofs.lemmas.Slice.Eq.{bytes_eq-Decides}
use Rattle.row_cells.specs.declared.rows.Row.{Row}
use Rattle.row_cells.specs.declared.schemas.Schema.{Schema}
use Rattle.row_cells.specs.Each.{Each}
use Rattle.row_cells.specs.EachLaws.{Each-both}
use Rattle.row_cells.specs.RowLists.{documents}
use Rattle.time_text.specs.declared.intervals.Interval.{Interval}
use Rattle.row_cells.specs.OrderLaws.{each_push, documents-push}
use Rattle.stream_catalog.specs.declared.facts.HeldIndex.{HeldIndex}
use Rattle.stream_catalog.specs.declared.facts.TaskFacts.{TaskFacts}
use Rattle.stream_catalog.specs.Plain.{PlainIndex, PlainCatalog, facts_of}
use Rattle.stream_catalog.specs.Lists.{updated, index_name, facts_named, index_named}
use Rattle.stream_catalog.specs.Puts.{has_time, MayPut}
use Rattle.stream_catalog.specs.Sound.{raw_form, IsWithin, AreRows, IsKind, IsTaskOf, IsIndexSound, IsUnderWay, AreFactsSound}
use Rattle.row_cells.specs.KeyedRows.{IsRowOf}
use Rattle.stream_catalog.specs.Laws.{TakesRow, PutsKeepSound}
use Rattle.stream_catalog.proofs.NamedLemmas.{each_updated, named_updated}
use Rattle.stream_catalog.proofs.ChangeLemmas.{facts_named-facts}
use Rattle.stream_catalog.proofs.CatalogLemmas.{held_of, sound_of}
use Rattle.row_cells.specs.PlaceLaws.{push_distinct, free_apart}
use Rattle.row_cells.specs.Limits.{most_documents}

-- ---- the row

pub from_le : (a b : ℤ) → int_le a b ≡ true → a ≤ℤ b
from_le a b is = le_z_yes {a = a} {b = b} (subst T (sym is) tt)

pub from_lt : (a b : ℤ) → int_lt a b ≡ true → a <ℤ b
from_lt a b is = lt_z_yes {a = a} {b = b} (subst T (sym is) tt)

within_of : (facts : HeldIndex) (t : ℤ) → has_time facts t ≡ true → IsWithin facts.start facts.end t
within_of facts t is = let both = and_parts (int_le facts.start t) (int_lt t facts.end) is in (from_le facts.start t both.0, from_lt t facts.end both.1)

documents_raw : (schema : Schema) (rows : List Row) → Each (IsRowOf (raw_form schema)) rows → documents rows ≡ length rows
documents_raw schema [] each = refl
documents_raw schema (row ∷ rows) each = let one = each.0.fits.alone refl in let later = documents_raw schema rows each.1 in omega (arith, one, later)

push_rows : (facts : HeldIndex) (interval : Option Interval) (rows : List Row) (row : Row) → IsKind interval facts.blocked facts.mapping.schema → MayPut facts rows row → AreRows interval facts.mapping.schema facts.start facts.end rows →
    AreRows interval facts.mapping.schema facts.start facts.end (rows ++ row ∷ []) × (documents (rows ++ row ∷ []) ≤ most_documents)
push_rows facts None rows row kind may are =
    let schema = facts.mapping.schema in
    let same : schema ≡ raw_form schema = ap (λ b. record schema { folded = b }) kind.0 in
    let here : IsRowOf (raw_form schema) row = subst (λ s. IsRowOf s row) same may.row_of in
    let few = documents_raw schema rows are.each in
    let one = here.fits.alone refl in
    let more = documents-push rows row in (
      record {
        each = each_push (IsRowOf (raw_form schema)) rows row are.each here;
        within = each_push (λ r. IsWithin facts.start facts.end r.time) rows row are.within (within_of facts row.time may.within);
      },
      omega (arith, few, one, more, leb-false most_documents (length rows) may.room),
    )
push_rows facts (Some by) rows row kind may are = absurd (both_ways facts.blocked may.takes kind.1)

push_sound : (i : PlainIndex) (row : Row) → IsIndexSound i → IsKind i.facts.interval i.facts.blocked i.facts.mapping.schema → MayPut i.facts i.rows row → IsIndexSound (record i { rows = i.rows ++ row ∷ [] })
push_sound i row sound kind may =
    let more = push_rows i.facts i.facts.interval i.rows row kind may sound.rows in
    record { rows = more.0; distinct = push_distinct i.rows row sound.distinct (free_apart row i.rows may.free); few = more.1 }

-- ---- facts stay

facts-updated : (n : List ℕ) (g : PlainIndex → PlainIndex) (is : List PlainIndex) → ((i : PlainIndex) → (g i).facts ≡ i.facts) → map (λ i. i.facts) (updated index_name n g is) ≡ map (λ i. i.facts) is
facts-updated n g [] keeps = refl
facts-updated n g (i ∷ is) keeps = by_test (bytes_eq i.facts.name n) (facts-updated n g is keeps)
  where
    by_test : (b : Bool) → map (λ i. i.facts) (updated index_name n g is) ≡ map (λ i. i.facts) is → map (λ i. i.facts) (if b then g i ∷ is else i ∷ updated index_name n g is) ≡ i.facts ∷ map (λ i. i.facts) is
    by_test true later = ap (λ f. f ∷ map (λ i. i.facts) is) (keeps i)
    by_test false later = ap (λ fs. i.facts ∷ fs) later

-- ---- tasks: their indices are blocked, so they took no row

pub not_taken : (n : List ℕ) (c : PlainCatalog) (row : Row) (by : Interval) (rises : Bool) (o : Option PlainIndex) → index_named n c.indices ≡ o → TakesRow c n row → IsTaskOf by rises (option_map (λ i. i.facts) o) → ⊥
not_taken n c row by rises None is takes holds = holds
not_taken n c row by rises (Some i) is takes holds = both_ways i.facts.blocked (takes i is).takes holds.0

task_stays : (c : PlainCatalog) (n : List ℕ) (row : Row) (g : PlainIndex → PlainIndex) (t : TaskFacts) → ((i : PlainIndex) → index_name (g i) ≡ index_name i) → TakesRow c n row → IsTaskOf t.by t.rises (facts_named t.index (map (λ i. i.facts) c.indices)) →
    IsUnderWay t.done (index_named t.index c.indices) → IsUnderWay t.done (index_named t.index (updated index_name n g c.indices))
task_stays c n row g t keeps takes holds is = by_test (bytes_eq n t.index) refl
  where
    by_test : (b : Bool) → bytes_eq n t.index ≡ b → IsUnderWay t.done (index_named t.index (updated index_name n g c.indices))
    by_test true same =
        let here : n ≡ t.index = (bytes_eq-Decides n t.index).0 same in
        absurd (not_taken n c row t.by t.rises (index_named n c.indices) refl takes (subst (λ m. IsTaskOf t.by t.rises (option_map (λ i. i.facts) (index_named m c.indices))) (sym here) (subst (IsTaskOf t.by t.rises) (facts_named-facts t.index c.indices) holds)))
    by_test false other = subst (IsUnderWay t.done) (sym (named_updated index_name n t.index g c.indices keeps other)) is

pub puts_keep_sound : PutsKeepSound
puts_keep_sound c n row sound may =
    let push : PlainIndex → PlainIndex = λ i. record i { rows = i.rows ++ row ∷ [] } in
    record {
      facts = subst (λ fs. AreFactsSound (record (facts_of c) { indices = fs })) (sym (facts-updated n push c.indices (λ i. refl))) sound.facts;
      indices = each_updated index_name IsIndexSound n push c.indices (λ i found. push_sound i row (sound_of c n i sound found) (held_of c n i sound found).kind (may i found)) sound.indices;
      tasks = Each-both (λ t. IsTaskOf t.by t.rises (facts_named t.index (map (λ i. i.facts) c.indices))) (λ t. IsUnderWay t.done (index_named t.index c.indices)) (λ t. IsUnderWay t.done (index_named t.index (updated index_name n push c.indices)))
          (λ t holds is. task_stays c n row push t (λ i. refl) may holds is) c.tasks sound.facts.tasks sound.tasks;
    }
