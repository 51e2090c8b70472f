-- An index with one shard exchanged for another.
use Rattle.std.specs.Prelude.{◌≡◌, ℕ, zero, suc, ◌+◌, ◌<◌, ◌≤◌, false, List, [], ◌∷◌, length, take, slice_index_or, slice_set}
use Rattle.std.proofs.Common.{refl, ap, sym, subst, ◌∙◌, arith, get_or}
use Rattle.std.proofs.lemmas.List.{length-map, length-set, map-set}
use Rattle.row_cells.specs.declared.rows.Row.{Row}
use Rattle.row_cells.specs.declared.schemas.Schema.{Schema}
use Rattle.row_cells.specs.Each.{Each}
use Rattle.row_cells.specs.EachLaws.{Each-weaker}
use Rattle.row_cells.specs.Limits.{most_documents}
use Rattle.row_cells.specs.PlaceLaws.{documents-append}
use Rattle.row_cells.specs.RowLists.{documents, has_place}
use Rattle.tsds_index.specs.declared.shard.Shard.{Shard}
use Rattle.index_segment.specs.Held.{Held}
use Rattle.tsds_index.specs.Kept.{AreSealed, AreShards}
use Rattle.tsds_index.specs.Segments.{AreOfSchema}
use Rattle.tsds_index.specs.Sealing.{put_at, with_row}
use Rattle.tsds_index.specs.Shards.{IsShard, part_of, parts_of}
use Rattle.tsds_index.specs.Sound.{AreOfShard, ArePartsFrom, IsPart, shard_for}
use Rattle.tsds_index.specs.Spread.{Part, all_rows, no_part, rows_in}
use Rattle.tsds_index.proofs.Alike.{Alike, alike_documents, alike_each}
use Rattle.tsds_index.proofs.Joined.{free_parts}
use Rattle.tsds_index.proofs.Routed.{all_distinct, part_is, set_alike, set_more, set_parts}

pub part_there : (shards : List Shard) (i : ℕ) (old : Shard) → i < length shards → old ≡ get_or shards i old → slice_index_or (parts_of shards) i no_part ≡ part_of old
part_there [] i old within is = absurd (omega (arith, within))
part_there (s ∷ shards) zero old within is = ap part_of (sym is)
part_there (s ∷ shards) (suc i) old within is = part_there shards i old (omega (arith, within)) is

schema_there : (schema : Schema) (shards : List Shard) (i : ℕ) (old : Shard) → i < length shards → old ≡ get_or shards i old → Each (λ shard. AreOfSchema schema shard.sealed.items) shards → AreOfSchema schema old.sealed.items
schema_there schema [] i old within is each = absurd (omega (arith, within))
schema_there schema (s ∷ shards) zero old within is each = subst (λ (shard : Shard). AreOfSchema schema shard.sealed.items) (sym is) each.0
schema_there schema (s ∷ shards) (suc i) old within is each = schema_there schema shards i old (omega (arith, within)) is each.1

schemas_set : (schema : Schema) (shards : List Shard) (i : ℕ) (new : Shard) → Each (λ shard. AreOfSchema schema shard.sealed.items) shards → AreOfSchema schema new.sealed.items → Each (λ shard. AreOfSchema schema shard.sealed.items) (slice_set shards i new)
schemas_set schema [] i new each here = tt
schemas_set schema (s ∷ shards) zero new each here = (here, each.1)
schemas_set schema (s ∷ shards) (suc i) new each here = (each.0, schemas_set schema shards i new each.1 here)

pub few_there : (ps : List Part) (i : ℕ) → i < length ps → documents (rows_in (slice_index_or ps i no_part)) ≤ documents (all_rows ps)
few_there [] i within = absurd (omega (arith, within))
few_there (p ∷ ps) zero within = omega (arith, documents-append (rows_in p) (all_rows ps))
few_there (p ∷ ps) (suc i) within = omega (arith, documents-append (rows_in p) (all_rows ps), few_there ps i (omega (arith, within)))

-- what is free among all rows is so in each shard
free_there : (row : Row) (ps : List Part) (i : ℕ) → i < length ps → has_place row.key row.time (all_rows ps) ≡ false → has_place row.key row.time (rows_in (slice_index_or ps i no_part)) ≡ false
free_there row [] i within free = absurd (omega (arith, within))
free_there row (p ∷ ps) zero within free = (free_parts row (rows_in p) (all_rows ps) free).0
free_there row (p ∷ ps) (suc i) within free = free_there row ps i (omega (arith, within)) (free_parts row (rows_in p) (all_rows ps) free).1

module _ (schema : Schema) (shards : List Shard) (are : AreShards schema shards) (i : ℕ) (within : i < length shards) (old : Shard) (old_is : old ≡ get_or shards i old) where
  inside : i < length (parts_of shards)
  inside = omega (arith, within, length-map shards part_of)

  pub shard_is : IsShard schema old
  shard_is = record {
    schemas = schema_there schema shards i old within old_is are.schemas;
    part = subst (IsPart schema) (part_there shards i old within old_is) (part_is schema (length (parts_of shards)) 0 i (parts_of shards) inside are.spread.parts).0;
    few = subst (λ p. documents (rows_in p) ≤ most_documents) (part_there shards i old within old_is) (omega (arith, few_there (parts_of shards) i inside, are.spread.few));
  }

  pub row_free : (row : Row) → has_place row.key row.time (all_rows (parts_of shards)) ≡ false → has_place row.key row.time (rows_in (part_of old)) ≡ false
  row_free row free = subst (λ p. has_place row.key row.time (rows_in p) ≡ false) (part_there shards i old within old_is) (free_there row (parts_of shards) i inside free)

  pub row_few : (row : Row) → documents (all_rows (parts_of shards)) + row.count ≤ most_documents → documents (rows_in (part_of old)) + row.count ≤ most_documents
  row_few row few =
      let here : documents (rows_in (part_of old)) ≤ documents (all_rows (parts_of shards)) = subst (λ p. documents (rows_in p) ≤ documents (all_rows (parts_of shards))) (part_there shards i old within old_is) (few_there (parts_of shards) i inside) in
      omega (arith, here, few)

  of_shard : AreOfShard schema (length (parts_of shards)) i (rows_in (part_of old))
  of_shard =
      Each-weaker (λ row. shard_for schema (length (parts_of shards)) row.key ≡ 0 + i) (λ row. shard_for schema (length (parts_of shards)) row.key ≡ i) (λ row there. omega (arith, there)) (rows_in (part_of old))
      (subst (λ p. AreOfShard schema (length (parts_of shards)) (0 + i) (rows_in p)) (part_there shards i old within old_is) (part_is schema (length (parts_of shards)) 0 i (parts_of shards) inside are.spread.parts).1)

  module _ (new : Shard) (new_is : IsShard schema new) where
    set_is : parts_of (slice_set shards i new) ≡ slice_set (parts_of shards) i (part_of new)
    set_is = map-set part_of shards i new

    pub as_many : length (parts_of (slice_set shards i new)) ≡ length (parts_of shards)
    as_many = ap length set_is ∙ length-set (parts_of shards) i (part_of new)

    exchanged : (rows : List Row) → Alike (rows_in (part_of new)) rows → AreOfShard schema (length (parts_of shards)) i rows → documents (all_rows (parts_of (slice_set shards i new))) ≤ most_documents → AreShards schema (slice_set shards i new)
    exchanged rows alike of few =
        let there : AreOfShard schema (length (parts_of shards)) (0 + i) (rows_in (part_of new)) =
        Each-weaker (λ row. shard_for schema (length (parts_of shards)) row.key ≡ i) (λ row. shard_for schema (length (parts_of shards)) row.key ≡ 0 + i) (λ row here. omega (arith, here)) (rows_in (part_of new)) (alike_each (λ row. shard_for schema (length (parts_of shards)) row.key ≡ i) (rows_in (part_of new)) rows alike of) in
        let parts : ArePartsFrom schema (length (parts_of shards)) 0 (slice_set (parts_of shards) i (part_of new)) = set_parts schema (length (parts_of shards)) 0 i (parts_of shards) (part_of new) inside are.spread.parts new_is.part there in
        record {
          spread = record {
            schema = are.spread.schema;
            some = omega (arith, are.spread.some, as_many);
            few_shards = omega (arith, are.spread.few_shards, as_many);
            parts = subst (λ n. ArePartsFrom schema n 0 (parts_of (slice_set shards i new))) (sym as_many) (subst (ArePartsFrom schema (length (parts_of shards)) 0) (sym set_is) parts);
            few = few;
          };
          schemas = schemas_set schema shards i new are.schemas new_is.schemas;
        }

    pub put_by_rule : (row : Row) → part_of new ≡ with_row row (part_of old) → parts_of (slice_set shards i new) ≡ put_at i row (parts_of shards)
    put_by_rule row is = set_is ∙ ap (slice_set (parts_of shards) i) (is ∙ ap (with_row row) (sym (part_there shards i old within old_is)))

    pub same_rows : Alike (rows_in (part_of new)) (rows_in (part_of old)) → Alike (all_rows (parts_of (slice_set shards i new))) (all_rows (parts_of shards))
    same_rows alike =
        subst (λ ps. Alike (all_rows ps) (all_rows (parts_of shards))) (sym set_is)
        (set_alike i (parts_of shards) (part_of new) inside (subst (λ p. Alike (rows_in (part_of new)) (rows_in p)) (sym (part_there shards i old within old_is)) alike))

    pub same_shards : Alike (rows_in (part_of new)) (rows_in (part_of old)) → AreShards schema (slice_set shards i new)
    same_shards alike = exchanged (rows_in (part_of old)) alike of_shard (omega (arith, alike_documents (all_rows (parts_of (slice_set shards i new))) (all_rows (parts_of shards)) (same_rows alike), are.spread.few))

    pub more_rows : (row : Row) → Alike (rows_in (part_of new)) (row ∷ rows_in (part_of old)) → has_place row.key row.time (all_rows (parts_of shards)) ≡ false → Alike (all_rows (parts_of (slice_set shards i new))) (row ∷ all_rows (parts_of shards))
    more_rows row alike free =
        subst (λ ps. Alike (all_rows ps) (row ∷ all_rows (parts_of shards))) (sym set_is)
        (set_more row i (parts_of shards) (part_of new) inside (subst (λ p. Alike (rows_in (part_of new)) (row ∷ rows_in p)) (sym (part_there shards i old within old_is)) alike) (all_distinct schema (length (parts_of shards)) 0 (parts_of shards) are.spread.parts) free)

    pub more_shards : (row : Row) → Alike (rows_in (part_of new)) (row ∷ rows_in (part_of old)) → has_place row.key row.time (all_rows (parts_of shards)) ≡ false → shard_for schema (length (parts_of shards)) row.key ≡ i → documents (all_rows (parts_of shards)) + row.count ≤ most_documents → AreShards schema (slice_set shards i new)
    more_shards row alike free of few =
        exchanged (row ∷ rows_in (part_of old)) alike (of, of_shard) (omega (arith, alike_documents (all_rows (parts_of (slice_set shards i new))) (row ∷ all_rows (parts_of shards)) (more_rows row alike free), few))

-- ---- one shard more sealed

pub sealed_more : (shards : List Shard) (i n : ℕ) (new : Shard) → n ≡ suc i → i < length shards → AreSealed (take i shards) → length new.sealed.items ≡ 1 → new.buffer ≡ [] → AreSealed (take n (slice_set shards i new))
sealed_more shards i n new n_is within are one empty = subst (λ m. AreSealed (take m (slice_set shards i new))) (sym n_is) (go shards i within are)
  where
    go : (ss : List Shard) (k : ℕ) → k < length ss → AreSealed (take k ss) → AreSealed (take (suc k) (slice_set ss k new))
    go [] k inside all = absurd (omega (arith, inside))
    go (s ∷ ss) zero inside all = ((one, empty), tt)
    go (s ∷ ss) (suc k) inside all = (all.0, go ss k (omega (arith, inside)) all.1)

pub all_sealed : (shards : List Shard) (n : ℕ) → n ≡ length shards → AreSealed (take n shards) → AreSealed shards
all_sealed shards n n_is are = subst AreSealed (take-all shards n n_is) are
  where
    take-all : (ss : List Shard) (k : ℕ) → k ≡ length ss → take k ss ≡ ss
    take-all [] zero is = refl
    take-all [] (suc k) is = absurd (omega (arith, is))
    take-all (s ∷ ss) zero is = absurd (omega (arith, is))
    take-all (s ∷ ss) (suc k) is = ap (λ rest. s ∷ rest) (take-all ss k (omega (arith, is)))

pub parts_sealed : (shards : List Shard) → AreSealed shards → Each (λ p. (length p.sealed ≡ 1) × (p.buffer ≡ [])) (parts_of shards)
parts_sealed [] are = tt
parts_sealed (s ∷ shards) are = ((length-map s.sealed.items (λ (h : Held). h.rows) ∙ are.0.0, are.0.1), parts_sealed shards are.1)
