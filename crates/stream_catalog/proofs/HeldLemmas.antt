-- What a catalogue in memory keeps.
use Rattle.std.specs.Prelude.{◌≡◌, ℕ, List, Option, Some, None}
use Rattle.std.specs.Option.{option_map}
use Rattle.std.proofs.Common.{ap, ◌∙◌, sym, subst}
use Rattle.stream_catalog.specs.declared.facts.HeldIndex.{HeldIndex}
use Rattle.stream_catalog.specs.declared.held_rows.HeldRows.{HeldRows}
use Rattle.stream_catalog.specs.Beside.{IsHeldCatalog, catalog_of, joined, rows_name}
use Rattle.stream_catalog.specs.Calls.{AreItsRows}
use Rattle.stream_catalog.specs.Lists.{facts_named, found_by, index_named}
use Rattle.stream_catalog.specs.Plain.{PlainCatalog, PlainFacts, PlainIndex, facts_of}
use Rattle.stream_catalog.specs.Sound.{AreFactsSound}
use Rattle.stream_catalog.proofs.BesideLemmas.{AreFound, facts_back, found_beside}

-- its facts are sound
pub facts_sound : (f : PlainFacts) (xs : List HeldRows) → IsHeldCatalog f xs → AreFactsSound f
facts_sound f xs held = subst AreFactsSound (facts_back f xs held.beside) held.seen.sound.facts

-- ---- look-ups

-- an index's facts are found by its name
pub facts_told : (f : PlainFacts) (xs : List HeldRows) (c : PlainCatalog) (m n : List ℕ) (o : Option HeldIndex) → IsHeldCatalog f xs → catalog_of f xs ≡ c → m ≡ n → o ≡ facts_named m f.indices →
    o ≡ facts_named n (facts_of c).indices
facts_told f xs c m n o held view same found =
    found ∙ (ap (λ k. facts_named k f.indices) same ∙ (ap (λ (g : PlainFacts). facts_named n g.indices) (sym (facts_back f xs held.beside)) ∙ ap (λ d. facts_named n (facts_of d).indices) view))

its_rows : (i : Option HeldIndex) (x : Option HeldRows) (p : Option PlainIndex) → AreFound i x p → AreItsRows p (option_map (λ (y : HeldRows). y.index) x)
its_rows None None None found = tt
its_rows (Some i) (Some x) (Some p) found = (ap (λ (q : PlainIndex). q.rows) (sym found.1), found.0.schema ∙ ap (λ (q : PlainIndex). q.facts.mapping.schema) (sym found.1))
its_rows None None (Some p) found = absurd found
its_rows None (Some x) None found = absurd found
its_rows None (Some x) (Some p) found = absurd found
its_rows (Some i) None None found = absurd found
its_rows (Some i) None (Some p) found = absurd found
its_rows (Some i) (Some x) None found = absurd found

-- and its rows
pub rows_told : (f : PlainFacts) (xs : List HeldRows) (c : PlainCatalog) (m n : List ℕ) (o : Option HeldRows) → IsHeldCatalog f xs → catalog_of f xs ≡ c → m ≡ n → o ≡ found_by rows_name m xs →
    AreItsRows (index_named n c.indices) (option_map (λ (y : HeldRows). y.index) o)
rows_told f xs c m n o held view same found =
    subst (λ d. AreItsRows (index_named n d.indices) (option_map (λ (y : HeldRows). y.index) o)) view
    (subst (λ p. AreItsRows (index_named n (joined f.indices xs)) (option_map (λ (y : HeldRows). y.index) p)) (sym (found ∙ ap (λ k. found_by rows_name k xs) same))
    (its_rows (facts_named n f.indices) (found_by rows_name n xs) (index_named n (joined f.indices xs)) (found_beside n f.indices xs held.beside)))
