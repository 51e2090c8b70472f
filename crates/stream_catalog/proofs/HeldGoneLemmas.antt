-- What is left of a catalogue in memory where indices go or come.
use Rattle.std.specs.Prelude.{◌≡◌, ℕ, ℤ, not, List, [], filter, map, Option, Some, None, bytes_eq}
use Rattle.std.proofs.Common.{refl, ap, ◌∙◌, sym, subst}
use Rattle.time_text.specs.Instant.{IsInstant}
use Rattle.row_cells.specs.declared.rows.Row.{Row}
use Rattle.ts_mapping.specs.declared.templates.Template.{Template}
use Rattle.tsds_index.specs.Spread.{rows_of}
use Rattle.stream_catalog.specs.declared.facts.HeldIndex.{HeldIndex}
use Rattle.stream_catalog.specs.declared.held_rows.HeldRows.{HeldRows}
use Rattle.stream_catalog.specs.Beside.{AreBeside, AreRowsBy, IsHeldCatalog, catalog_of, joined, rows_name}
use Rattle.stream_catalog.specs.Calls.{IsOfTemplate}
use Rattle.stream_catalog.specs.FactChanges.{facts_created, facts_without_index, facts_without_stream, first_index}
use Rattle.stream_catalog.specs.Indices.{delete_refusal, index_deleted, task_index, without_member}
use Rattle.stream_catalog.specs.Lists.{facts_name, facts_named, found_by, index_name, inserted, stream_name, stream_named, with_found, without}
use Rattle.stream_catalog.specs.Names.{template_for}
use Rattle.stream_catalog.specs.Plain.{PlainCatalog, PlainFacts, PlainIndex, PlainStream, facts_of}
use Rattle.stream_catalog.specs.Sound.{IsSeenCatalog}
use Rattle.stream_catalog.specs.Streams.{create_refusal, created, first_name, has_member, new_stream, stream_deleted}
use Rattle.stream_catalog.proofs.BesideLemmas.{AreFound, facts_back, filtered_beside, found_beside, inserted_beside, joined_filtered, joined_inserted}
use Rattle.stream_catalog.proofs.CatalogLemmas.{changes_go_through}
use Rattle.stream_catalog.proofs.GoneLemmas.{deletions_keep_sound, stream_deletions_keep_sound}
use Rattle.stream_catalog.proofs.HeldChangeLemmas.{seen_after}
use Rattle.stream_catalog.proofs.NewLemmas.{creations_keep_sound, may_create}
use Rattle.stream_catalog.proofs.PlaceLemmas.{without_inserted}
use Rattle.stream_catalog.proofs.TakenLemmas.{free_index}

-- ---- an index goes

deleted_same : (f : PlainFacts) (xs : List HeldRows) (n : List ℕ) → IsHeldCatalog f xs → catalog_of (facts_without_index f n) (without rows_name n xs) ≡ index_deleted (catalog_of f xs) n
deleted_same f xs n held =
    ap (λ is. record (catalog_of f xs) { streams = map (without_member n) f.streams; indices = is; tasks = without task_index n f.tasks })
    (joined_filtered (λ m. not (bytes_eq m n)) f.indices xs held.beside)

deleted_held : (f : PlainFacts) (xs : List HeldRows) (n : List ℕ) → IsHeldCatalog f xs → delete_refusal f n ≡ None → IsHeldCatalog (facts_without_index f n) (without rows_name n xs)
deleted_held f xs n held none =
    let c = catalog_of f xs in
    let free : delete_refusal (facts_of c) n ≡ None = subst (λ h. delete_refusal h n ≡ None) (sym (facts_back f xs held.beside)) none in
    record {
      seen = subst IsSeenCatalog (sym (deleted_same f xs n held)) (seen_after (λ d. index_deleted d n) c held.seen (changes_go_through.index_deleted n c) (deletions_keep_sound c n held.seen.sound free));
      beside = filtered_beside (λ m. not (bytes_eq m n)) f.indices xs held.beside;
    }

pub held_deleted : (f g : PlainFacts) (xs ys : List HeldRows) (m n : List ℕ) → IsHeldCatalog f xs → delete_refusal f n ≡ None → g ≡ facts_without_index f n → m ≡ n → ys ≡ without rows_name m xs → IsHeldCatalog g ys
held_deleted f g xs ys m n held none is same left =
    subst (λ h. IsHeldCatalog h ys) (sym is) (subst (λ zs. IsHeldCatalog (facts_without_index f n) zs) (sym (left ∙ ap (λ k. without rows_name k xs) same)) (deleted_held f xs n held none))

pub told_deleted : (f g : PlainFacts) (xs ys : List HeldRows) (c : PlainCatalog) (m n : List ℕ) → IsHeldCatalog f xs → catalog_of f xs ≡ c → g ≡ facts_without_index f n → m ≡ n → ys ≡ without rows_name m xs →
    catalog_of g ys ≡ index_deleted c n
told_deleted f g xs ys c m n held view is same left =
    ap (λ h. catalog_of h ys) is ∙ (ap (catalog_of (facts_without_index f n)) (left ∙ ap (λ k. without rows_name k xs) same) ∙ (deleted_same f xs n held ∙ ap (λ d. index_deleted d n) view))

-- ---- a stream comes

-- a name that no index has
none_beside : (i : Option HeldIndex) (x : Option HeldRows) (p : Option PlainIndex) → i ≡ None → AreFound i x p → x ≡ None
none_beside None None None is found = refl
none_beside (Some i) (Some x) (Some p) is found = cc
none_beside None None (Some p) is found = absurd found
none_beside None (Some x) None is found = absurd found
none_beside None (Some x) (Some p) is found = absurd found
none_beside (Some i) None None is found = absurd found
none_beside (Some i) None (Some p) is found = absurd found
none_beside (Some i) (Some x) None is found = absurd found

pub no_rows_under : (f : PlainFacts) (xs : List HeldRows) (n m : List ℕ) → IsHeldCatalog f xs → m ≡ n → facts_named n f.indices ≡ None → found_by rows_name m xs ≡ None
no_rows_under f xs n m held same none =
    ap (λ k. found_by rows_name k xs) same
    ∙ none_beside (found_by facts_name n f.indices) (found_by rows_name n xs) (found_by index_name n (joined f.indices xs)) none (found_beside n f.indices xs held.beside)

pub first_free : (f : PlainFacts) (xs : List HeldRows) (name m : List ℕ) (now : ℤ) → IsHeldCatalog f xs → create_refusal f name now ≡ None → m ≡ first_name name now → found_by rows_name m xs ≡ None
first_free f xs name m now held none same = no_rows_under f xs (first_name name now) m held same (free_index (first_name name now) f (may_create f name now none).index_free)

module _ (f : PlainFacts) (xs : List HeldRows) (x : HeldRows) (name : List ℕ) (now : ℤ) (held : IsHeldCatalog f xs) (named : x.name ≡ first_name name now) (empty : rows_of x.index ≡ []) where
  abbrev facts_new : Template → PlainFacts
  facts_new t = record f { streams = inserted stream_name (new_stream name t now) f.streams; indices = inserted facts_name (first_index name t now).facts f.indices }

  abbrev catalog_new : Template → PlainCatalog
  catalog_new t = record (catalog_of f xs) { streams = inserted stream_name (new_stream name t now) f.streams; indices = inserted index_name (first_index name t now) (joined f.indices xs) }

  one_of : (t : Template) → x.index.schema ≡ t.schema → AreRowsBy (first_index name t now).facts x
  one_of t schema = record { name = named; schema = schema }

  created_by : (o : Option Template) → IsOfTemplate x.index.schema o → catalog_of (with_found o f facts_new) (inserted rows_name x xs) ≡ with_found o (catalog_of f xs) catalog_new
  created_by None of = absurd of
  created_by (Some t) of =
      let build : List PlainIndex → PlainCatalog = λ is. record (catalog_of f xs) { streams = inserted stream_name (new_stream name t now) f.streams; indices = is } in
      let index : List Row → PlainIndex = λ rows. record { facts = (first_index name t now).facts; rows = rows } in
      ap build (joined_inserted (first_index name t now).facts x f.indices xs (one_of t of) held.beside)
      ∙ ap (λ rows. build (inserted index_name (index rows) (joined f.indices xs))) empty

  beside_by : (o : Option Template) → IsOfTemplate x.index.schema o → AreBeside (with_found o f facts_new).indices (inserted rows_name x xs)
  beside_by None of = absurd of
  beside_by (Some t) of = inserted_beside (first_index name t now).facts x f.indices xs (one_of t of) held.beside

  module _ (of : IsOfTemplate x.index.schema (template_for name f.templates)) where
    created_same : catalog_of (facts_created f name now) (inserted rows_name x xs) ≡ created (catalog_of f xs) name now
    created_same = created_by (template_for name f.templates) of

    pub created_held : IsInstant now → create_refusal f name now ≡ None → IsHeldCatalog (facts_created f name now) (inserted rows_name x xs)
    created_held instant none =
        let c = catalog_of f xs in
        let free : create_refusal (facts_of c) name now ≡ None = subst (λ h. create_refusal h name now ≡ None) (sym (facts_back f xs held.beside)) none in
        record {
          seen = subst IsSeenCatalog (sym created_same) (seen_after (λ d. created d name now) c held.seen (changes_go_through.created name now c) (creations_keep_sound c name now instant held.seen.sound free));
          beside = beside_by (template_for name f.templates) of;
        }

    pub created_told : (g : PlainFacts) (ys : List HeldRows) (c : PlainCatalog) → catalog_of f xs ≡ c → g ≡ facts_created f name now → ys ≡ inserted rows_name x xs → catalog_of g ys ≡ created c name now
    created_told g ys c view is put = ap (λ h. catalog_of h ys) is ∙ (ap (catalog_of (facts_created f name now)) put ∙ (created_same ∙ ap (λ d. created d name now) view))

-- rows that were put in and taken out again
pub rows_undone : (x : HeldRows) (xs put left : List HeldRows) (m : List ℕ) → found_by rows_name x.name xs ≡ None → m ≡ x.name → put ≡ inserted rows_name x xs → left ≡ without rows_name m put → left ≡ xs
rows_undone x xs put left m none same put_is left_is =
    left_is ∙ (ap (λ k. without rows_name k put) same ∙ (ap (without rows_name x.name) put_is ∙ without_inserted rows_name x xs none))

-- ---- a stream goes

module _ (f : PlainFacts) (xs : List HeldRows) (name : List ℕ) (held : IsHeldCatalog f xs) where
  abbrev facts_gone : PlainStream → PlainFacts
  facts_gone s = record f { streams = without stream_name name f.streams; indices = filter (λ i. not (has_member s i.name)) f.indices; tasks = filter (λ t. not (has_member s t.index)) f.tasks }

  abbrev catalog_gone : PlainStream → PlainCatalog
  catalog_gone s = record (catalog_of f xs) { streams = without stream_name name f.streams; indices = filter (λ i. not (has_member s i.facts.name)) (joined f.indices xs); tasks = filter (λ t. not (has_member s t.index)) f.tasks }

  gone_by : (s : PlainStream) → catalog_of (facts_gone s) (filter (λ x. not (has_member s (rows_name x))) xs) ≡ catalog_gone s
  gone_by s = ap (λ is. record (catalog_gone s) { indices = is }) (joined_filtered (λ m. not (has_member s m)) f.indices xs held.beside)

  gone_same : (s : PlainStream) → stream_named name f.streams ≡ Some s → catalog_of (facts_without_stream f name) (filter (λ x. not (has_member s (rows_name x))) xs) ≡ stream_deleted (catalog_of f xs) name
  gone_same s found =
      ap (λ o. catalog_of (with_found o f facts_gone) (filter (λ x. not (has_member s (rows_name x))) xs)) found ∙ (gone_by s ∙ sym (ap (λ o. with_found o (catalog_of f xs) catalog_gone) found))

  gone_held : (s : PlainStream) → stream_named name f.streams ≡ Some s → IsHeldCatalog (facts_without_stream f name) (filter (λ x. not (has_member s (rows_name x))) xs)
  gone_held s found = let c = catalog_of f xs in record {
    seen = subst IsSeenCatalog (sym (gone_same s found)) (seen_after (λ d. stream_deleted d name) c held.seen (changes_go_through.stream_deleted name c) (stream_deletions_keep_sound c name held.seen.sound));
    beside = subst (λ o. AreBeside (with_found o f facts_gone).indices (filter (λ x. not (has_member s (rows_name x))) xs)) (sym found) (filtered_beside (λ m. not (has_member s m)) f.indices xs held.beside);
  }

  pub held_gone : (g : PlainFacts) (ys : List HeldRows) (s : PlainStream) → stream_named name f.streams ≡ Some s → g ≡ facts_without_stream f name → ys ≡ filter (λ x. not (has_member s (rows_name x))) xs → IsHeldCatalog g ys
  held_gone g ys s found is left = subst (λ h. IsHeldCatalog h ys) (sym is) (subst (λ zs. IsHeldCatalog (facts_without_stream f name) zs) (sym left) (gone_held s found))

  pub told_gone : (g : PlainFacts) (ys : List HeldRows) (c : PlainCatalog) (s : PlainStream) → catalog_of f xs ≡ c → stream_named name f.streams ≡ Some s → g ≡ facts_without_stream f name →
      ys ≡ filter (λ x. not (has_member s (rows_name x))) xs → catalog_of g ys ≡ stream_deleted c name
  told_gone g ys c s view found is left = ap (λ h. catalog_of h ys) is ∙ (ap (catalog_of (facts_without_stream f name)) left ∙ (gone_same s found ∙ ap (λ d. stream_deleted d name) view))
