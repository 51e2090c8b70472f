-- What an index answers, by the shard of a series.
use Rattle.std.specs.Prelude.{◌≡◌, ℕ, ℤ, ◌<◌, ◌≤◌, ◌^◌, Bool, Option, List, length}
use Rattle.std.proofs.Common.{refl, ap, sym, subst, ◌∙◌, arith, get_or}
use Rattle.std.proofs.lemmas.List.{length-map}
use Rattle.row_cells.specs.declared.rows.Row.{Row}
use Rattle.row_cells.specs.declared.schemas.Schema.{Schema}
use Rattle.row_cells.specs.Limits.{most_documents}
use Rattle.row_cells.specs.PlaceLaws.{has_place-in_row_order, length-in_row_order}
use Rattle.row_cells.specs.OrderLaws.{documents-in_row_order}
use Rattle.row_cells.specs.RowLists.{AreDistinct, documents, has_place, in_row_order}
use Rattle.fold_law.specs.declared.measures.Gauge.{Gauge}
use Rattle.fold_law.specs.Gauges.{reach_of_gauge}
use Rattle.fold_law.specs.Laws.{reach_of_items}
use Rattle.row_cells.specs.Each.{Each}
use Rattle.row_cells.specs.KeyedRows.{AreRowsOf}
use Rattle.index_segment.specs.SeriesLaws.{range_of_rows}
use Rattle.index_segment.specs.Looks.{IsGaugeAt, gauge_at, gauge_of, is_within, rows_within}
use Rattle.shard_route.specs.Routing.{shard_of_key}
use Rattle.tsds_index.specs.declared.shard.Shard.{Shard}
use Rattle.tsds_index.specs.Answers.{row_at}
use Rattle.tsds_index.specs.Kept.{AreShards, spread_of}
use Rattle.tsds_index.specs.Shards.{IsShard, part_of, parts_of}
use Rattle.tsds_index.specs.Sound.{IsSpread, shard_for}
use Rattle.tsds_index.specs.Spread.{Spread, all_rows, part_at, rows_in, rows_of}
use Rattle.tsds_index.proofs.Alike.{Alike}
use Rattle.tsds_index.proofs.Answered.{are_rows, distinct-filter, place_in_part, range_in_part, row_in_part}
use Rattle.tsds_index.proofs.Counted.{length_documents}
use Rattle.tsds_index.proofs.Exchanged.{part_there, shard_is}
use Rattle.tsds_index.proofs.Gauged.{gauge_fields, rows_have_room, sorted_gauge}
use Rattle.tsds_index.proofs.Joined.{part_each}

-- ---- the view of an index

pub rows_told : (schema : Schema) (shards : List Shard) (h : Spread) → spread_of schema shards ≡ h → rows_of h ≡ in_row_order (all_rows (parts_of shards))
unfolding rows_of
rows_told schema shards h view = ap rows_of (sym view)

pub rows_same : (schema : Schema) (shards new : List Shard) (h : Spread) → spread_of schema shards ≡ h → Alike (all_rows (parts_of new)) (all_rows (parts_of shards)) → rows_of (spread_of schema new) ≡ rows_of h
rows_same schema shards new h view alike = rows_told schema new (spread_of schema new) refl ∙ (alike ∙ sym (rows_told schema shards h view))

pub places_told : (key : List ℕ) (time : ℤ) (schema : Schema) (shards : List Shard) (h : Spread) (b : Bool) → spread_of schema shards ≡ h → has_place key time (rows_of h) ≡ b → has_place key time (all_rows (parts_of shards)) ≡ b
places_told key time schema shards h b view is =
    sym (has_place-in_row_order key time (all_rows (parts_of shards))) ∙ (ap (has_place key time) (sym (rows_told schema shards h view)) ∙ is)

pub documents_told : (schema : Schema) (shards : List Shard) (h : Spread) → spread_of schema shards ≡ h → documents (rows_of h) ≡ documents (all_rows (parts_of shards))
documents_told schema shards h view = ap documents (rows_told schema shards h view) ∙ documents-in_row_order (all_rows (parts_of shards))

pub inside : (schema : Schema) (shards : List Shard) (h : Spread) (i : ℕ) → spread_of schema shards ≡ h → i < length h.parts → i < length shards
inside schema shards h i view within =
    let same : length h.parts ≡ length shards = ap (λ (s : Spread). length s.parts) (sym view) ∙ length-map shards part_of in
    omega (arith, same, within)

pub number_told : (schema : Schema) (shards : List Shard) (key : List ℕ) (n r : ℕ) (h : Spread) → r ≡ shard_of_key schema key n → n ≡ length shards → spread_of schema shards ≡ h → r ≡ shard_for h.schema (length h.parts) key
unfolding shard_for
number_told schema shards key n r h is n_is view =
    is ∙ (ap (λ m. shard_of_key schema key m) (n_is ∙ sym (length-map shards part_of)) ∙ ap (λ (s : Spread). shard_of_key s.schema key (length s.parts)) view)

-- ---- the shard of a series

module _ (schema : Schema) (shards : List Shard) (are : AreShards schema shards) (h : Spread) (view : spread_of schema shards ≡ h) (key : List ℕ) (i : ℕ) (i_is : i ≡ shard_for h.schema (length h.parts) key) (within : i < length h.parts) (old : Shard) (old_is : old ≡ get_or shards i old) where
  sound : IsSpread h
  sound = subst IsSpread view are.spread

  here : rows_in (part_at h i) ≡ rows_in (part_of old)
  here = ap (λ (s : Spread). rows_in (part_at s i)) (sym view) ∙ ap rows_in (part_there shards i old (inside schema shards h i view within) old_is)

  pub row_told : (time t : ℤ) (o : Option Row) → t ≡ time → o ≡ row_at key t (rows_in (part_of old)) → o ≡ row_at key time (rows_of h)
  row_told time t o time_is is =
      is ∙ (ap (λ s. row_at key s (rows_in (part_of old))) time_is ∙ (ap (row_at key time) (sym here) ∙ sym (row_in_part h sound key i i_is within time)))

  pub place_told : (time t : ℤ) (b : Bool) → t ≡ time → b ≡ has_place key t (rows_in (part_of old)) → b ≡ has_place key time (rows_of h)
  place_told time t b time_is is =
      is ∙ (ap (λ s. has_place key s (rows_in (part_of old))) time_is ∙ (ap (has_place key time) (sym here) ∙ sym (place_in_part h sound key i i_is within time)))

  pub range_distinct : (from to : ℤ) (rows : List Row) → rows ≡ rows_within key from to (rows_in (part_of old)) → AreDistinct rows
  range_distinct from to rows is =
      subst AreDistinct (sym is) (distinct-filter (is_within key from to) (rows_in (part_of old)) (shard_is schema shards are i (inside schema shards h i view within) old old_is).part.distinct)

  pub range_told : (from to f t : ℤ) (rows sorted : List Row) → f ≡ from → t ≡ to → rows ≡ rows_within key f t (rows_in (part_of old)) → sorted ≡ in_row_order rows → sorted ≡ rows_within key from to (rows_of h)
  range_told from to f t rows sorted from_is to_is is sorted_is =
      sorted_is ∙ (ap in_row_order is
      ∙ (ap (λ a. in_row_order (rows_within key a t (rows_in (part_of old)))) from_is
      ∙ (ap (λ b. in_row_order (rows_within key from b (rows_in (part_of old)))) to_is
      ∙ (ap (λ rs. in_row_order (rows_within key from to rs)) (sym here) ∙ sym (range_in_part h sound key i i_is within from to)))))

  -- they are rows of an index again
  pub range_known : (from to f t : ℤ) (rows sorted : List Row) → f ≡ from → t ≡ to → rows ≡ rows_within key f t (rows_in (part_of old)) → sorted ≡ in_row_order rows → AreRowsOf h.schema sorted
  range_known from to f t rows sorted from_is to_is is sorted_is =
      subst (AreRowsOf h.schema) (sym (range_told from to f t rows sorted from_is to_is is sorted_is)) (range_of_rows h.schema key from to (rows_of h) (are_rows h sound))

  here_is : IsShard schema old
  here_is = shard_is schema shards are i (inside schema shards h i view within) old old_is

  -- how many they are
  pub count_told : (from to f t : ℤ) (n : ℕ) → f ≡ from → t ≡ to → n ≡ length (rows_within key f t (rows_in (part_of old))) → n ≡ length (rows_within key from to (rows_of h))
  count_told from to f t n from_is to_is is =
      is ∙ (ap (λ a. length (rows_within key a t (rows_in (part_of old)))) from_is
      ∙ (ap (λ b. length (rows_within key from b (rows_in (part_of old)))) to_is
      ∙ (ap (λ rs. length (rows_within key from to rs)) (sym here)
      ∙ (sym (length-in_row_order (rows_within key from to (rows_in (part_at h i)))) ∙ ap length (sym (range_in_part h sound key i i_is within from to))))))

  pub count_few : length (rows_in (part_of old)) ≤ most_documents
  count_few = omega (arith, here_is.few, length_documents schema (rows_in (part_of old)) (part_each schema (part_of old) here_is.part))

  module _ (field : ℕ) (field_is : IsGaugeAt h.schema.fields field) where
    there : IsGaugeAt schema.fields field
    there = subst (λ (s : Spread). IsGaugeAt s.schema.fields field) (sym view) field_is

    pub fields_told : Each (λ segment. IsGaugeAt segment.schema.fields field) old.sealed.items
    fields_told = gauge_fields schema field old.sealed.items there here_is.schemas

    pub room_told : reach_of_items reach_of_gauge (gauge_at field) (rows_in (part_of old)) ≤ 2 ^ 120
    room_told = rows_have_room schema field (rows_in (part_of old)) there (part_each schema (part_of old) here_is.part) here_is.few

    pub gauge_told : (from to f t : ℤ) (g : Gauge) → f ≡ from → t ≡ to → g ≡ gauge_of field (rows_within key f t (rows_in (part_of old))) → g ≡ gauge_of field (rows_within key from to (rows_of h))
    gauge_told from to f t g from_is to_is is =
        is ∙ (ap (λ a. gauge_of field (rows_within key a t (rows_in (part_of old)))) from_is
        ∙ (ap (λ b. gauge_of field (rows_within key from b (rows_in (part_of old)))) to_is
        ∙ (sym (sorted_gauge field (rows_within key from to (rows_in (part_of old))))
        ∙ ap (gauge_of field) (ap (λ rs. in_row_order (rows_within key from to rs)) (sym here) ∙ sym (range_in_part h sound key i i_is within from to)))))
