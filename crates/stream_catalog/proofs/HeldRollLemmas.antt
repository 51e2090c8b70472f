-- What a rollover leaves of a catalogue in memory.
use Rattle.std.specs.Prelude.{◌≡◌, ℕ, ℤ, List, Option, Some, None}
use Rattle.std.specs.Option.{option_map}
use Rattle.std.proofs.Common.{refl, ap, ◌∙◌, sym, subst}
use Rattle.row_cells.specs.declared.rows.Row.{Row}
use Rattle.time_text.specs.Instant.{IsInstant}
use Rattle.stream_catalog.specs.declared.facts.HeldIndex.{HeldIndex}
use Rattle.stream_catalog.specs.declared.held_rows.HeldRows.{HeldRows}
use Rattle.stream_catalog.specs.Beside.{AreBeside, AreRowsBy, IsHeldCatalog, catalog_of, joined, rows_name}
use Rattle.stream_catalog.specs.FactChanges.{facts_rolled_over}
use Rattle.stream_catalog.specs.Lists.{facts_name, facts_named, found_by, index_name, index_named, inserted, stream_name, updated}
use Rattle.stream_catalog.specs.NewRows.{IsForNext}
use Rattle.stream_catalog.specs.Plain.{PlainCatalog, PlainFacts, PlainIndex, facts_of}
use Rattle.stream_catalog.specs.Sound.{IsSeenCatalog}
use Rattle.stream_catalog.specs.Streams.{next_index, next_name, rolled_over, rollover_refusal, with_next, write_name}
use Rattle.stream_catalog.proofs.BesideLemmas.{facts_back, inserted_beside, joined_inserted}
use Rattle.stream_catalog.proofs.CatalogLemmas.{changes_go_through}
use Rattle.stream_catalog.proofs.ChangeLemmas.{facts_named-facts}
use Rattle.stream_catalog.proofs.HeldChangeLemmas.{seen_after}
use Rattle.stream_catalog.proofs.HeldGoneLemmas.{no_rows_under}
use Rattle.stream_catalog.proofs.NamedLemmas.{none_not_some, some_is}
use Rattle.stream_catalog.proofs.RollLemmas.{may_roll, rollovers_keep_sound}
use Rattle.stream_catalog.proofs.RolloverLemmas.{rolled_facts}
use Rattle.stream_catalog.proofs.TakenLemmas.{free_index}

-- the index of facts that are found
pub facts_joined : (f : PlainFacts) (xs : List HeldRows) (n : List ℕ) → IsHeldCatalog f xs → facts_named n f.indices ≡ option_map (λ (p : PlainIndex). p.facts) (index_named n (joined f.indices xs))
facts_joined f xs n held = ap (λ (g : PlainFacts). facts_named n g.indices) (sym (facts_back f xs held.beside)) ∙ facts_named-facts n (joined f.indices xs)

pub next_rows_free : (f : PlainFacts) (xs : List HeldRows) (name m : List ℕ) (now : ℤ) (x : HeldRows) → IsHeldCatalog f xs → rollover_refusal f name now ≡ None → IsForNext f name now x → m ≡ x.name → found_by rows_name m xs ≡ None
next_rows_free f xs name m now x held none next same =
    no_rows_under f xs (next_name next.stream now) m held (same ∙ next.name) (free_index (next_name next.stream now) f (may_roll f name now next.stream next.write next.found next.last none).free)

module _ (f : PlainFacts) (xs : List HeldRows) (x : HeldRows) (name : List ℕ) (now : ℤ) (held : IsHeldCatalog f xs) (next : IsForNext f name now x) where
  abbrev new_one : HeldIndex → PlainIndex
  new_one w = next_index next.stream next.template w now

  abbrev with_one : List PlainIndex → PlainCatalog
  with_one is = record (catalog_of f xs) { streams = updated stream_name name (with_next now) f.streams; indices = is }

  one_of : AreRowsBy (new_one next.write).facts x
  one_of = record { name = next.name; schema = next.schema }

  facts_next : facts_rolled_over f name now ≡ record f { streams = updated stream_name name (with_next now) f.streams; indices = inserted facts_name (new_one next.write).facts f.indices }
  facts_next = rolled_facts f name now next.stream next.template next.write next.found next.taken next.last (with_next now) refl

  catalog_next : rolled_over (catalog_of f xs) name now ≡ with_one (inserted index_name (new_one next.write) (joined f.indices xs))
  catalog_next = by_found (index_named (write_name next.stream) (joined f.indices xs)) refl (sym (facts_joined f xs (write_name next.stream) held) ∙ next.last)
    where
      by_found : (o : Option PlainIndex) → index_named (write_name next.stream) (joined f.indices xs) ≡ o → option_map (λ (p : PlainIndex). p.facts) o ≡ Some next.write →
          rolled_over (catalog_of f xs) name now ≡ with_one (inserted index_name (new_one next.write) (joined f.indices xs))
      by_found None is found = absurd (none_not_some found)
      by_found (Some p) is found = rw (next.found, next.taken, is) (ap (λ w. with_one (inserted index_name (new_one w) (joined f.indices xs))) (some_is found))

  rolled_same : catalog_of (facts_rolled_over f name now) (inserted rows_name x xs) ≡ rolled_over (catalog_of f xs) name now
  rolled_same =
      let index : List Row → PlainIndex = λ rows. record { facts = (new_one next.write).facts; rows = rows } in
      ap (λ g. catalog_of g (inserted rows_name x xs)) facts_next
      ∙ (ap with_one (joined_inserted (new_one next.write).facts x f.indices xs one_of held.beside)
      ∙ (ap (λ rows. with_one (inserted index_name (index rows) (joined f.indices xs))) next.empty ∙ sym catalog_next))

  pub rolled_held : IsInstant now → rollover_refusal f name now ≡ None → IsHeldCatalog (facts_rolled_over f name now) (inserted rows_name x xs)
  rolled_held instant none =
      let c = catalog_of f xs in
      let free : rollover_refusal (facts_of c) name now ≡ None = subst (λ h. rollover_refusal h name now ≡ None) (sym (facts_back f xs held.beside)) none in
      record {
        seen = subst IsSeenCatalog (sym rolled_same) (seen_after (λ d. rolled_over d name now) c held.seen (changes_go_through.rolled_over name now c) (rollovers_keep_sound c name now instant held.seen.sound free));
        beside = subst (λ (g : PlainFacts). AreBeside g.indices (inserted rows_name x xs)) (sym facts_next) (inserted_beside (new_one next.write).facts x f.indices xs one_of held.beside);
      }

  pub rolled_told : (g : PlainFacts) (ys : List HeldRows) (c : PlainCatalog) → catalog_of f xs ≡ c → g ≡ facts_rolled_over f name now → ys ≡ inserted rows_name x xs → catalog_of g ys ≡ rolled_over c name now
  rolled_told g ys c view is put = ap (λ h. catalog_of h ys) is ∙ (ap (catalog_of (facts_rolled_over f name now)) put ∙ (rolled_same ∙ ap (λ d. rolled_over d name now) view))
