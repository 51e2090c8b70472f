-- An index without rows.
use Rattle.std.specs.Prelude.{◌≡◌, ℕ, zero, suc, ◌+◌, ◌≤◌, List, [], ◌∷◌, ◌++◌, length, map, replicate}
use Rattle.std.proofs.Common.{refl, ap, sym, subst, ◌∙◌, arith}
use Rattle.std.proofs.lemmas.List.{length-replicate, map-append, replicate-append-replicate}
use Rattle.row_cells.specs.declared.schemas.Schema.{Schema}
use Rattle.row_cells.specs.Each.{Each}
use Rattle.row_cells.specs.Limits.{most_documents}
use Rattle.row_cells.specs.RowLists.{documents, in_row_order}
use Rattle.index_segment.specs.Held.{Held}
use Rattle.tsds_index.specs.declared.shard.Shard.{Shard}
use Rattle.tsds_index.specs.Kept.{IsKept}
use Rattle.tsds_index.specs.Limits.{most_shards}
use Rattle.tsds_index.specs.Segments.{AreOfSchema}
use Rattle.tsds_index.specs.Shards.{part_of, parts_of}
use Rattle.tsds_index.specs.Sound.{ArePartsFrom, IsRouted}
use Rattle.tsds_index.specs.Spread.{all_rows, no_part, rows_of}
use Rattle.tsds_index.proofs.Joined.{each_more}

pub no_rows : (n : ℕ) → all_rows (replicate n no_part) ≡ []
no_rows zero = refl
no_rows (suc n) = no_rows n

pub no_rows_of : (schema : Schema) (n : ℕ) → rows_of (record { schema = schema; parts = replicate n no_part }) ≡ []
unfolding rows_of
no_rows_of schema n = ap in_row_order (no_rows n)

empty_parts : (schema : Schema) (shards at n : ℕ) → ArePartsFrom schema shards at (replicate n no_part)
empty_parts schema shards at zero = tt
empty_parts schema shards at (suc n) = (
  record {
    sealed = tt;
    buffer = record { each = tt; in_order = tt; few = omega arith };
    distinct = tt;
    few = omega arith;
  },
  tt,
  empty_parts schema shards (suc at) n,
)

empty_schemas : (schema : Schema) (shards : List Shard) → Each (λ shard. shard.sealed.items ≡ []) shards → Each (λ shard. AreOfSchema schema shard.sealed.items) shards
empty_schemas schema [] each = tt
empty_schemas schema (s ∷ shards) each = (subst (AreOfSchema schema) (sym each.0) tt, empty_schemas schema shards each.1)

pub empty_kept : (schema : Schema) (shards : List Shard) (n : ℕ) → IsRouted schema → 1 ≤ n → n ≤ most_shards → parts_of shards ≡ replicate n no_part → Each (λ shard. shard.sealed.items ≡ []) shards → IsKept schema shards 0
empty_kept schema shards n routed some few are each =
    let long : length (parts_of shards) ≡ n = ap length are ∙ length-replicate n no_part in
    let none : all_rows (parts_of shards) ≡ [] = ap all_rows are ∙ no_rows n in
    record {
      are = record {
        spread = record {
          schema = routed;
          some = omega (arith, long, some);
          few_shards = omega (arith, long, few);
          parts = subst (λ ps. ArePartsFrom schema (length (parts_of shards)) 0 ps) (sym are) (empty_parts schema (length (parts_of shards)) 0 n);
          few = subst (λ rows. documents rows ≤ most_documents) (sym none) (omega arith);
        };
        schemas = empty_schemas schema shards each;
      };
      counted = sym (ap length none);
    }

-- one shard more without rows
pub one_empty : (shards : List Shard) (s : Shard) (n : ℕ) → parts_of shards ≡ replicate n no_part → s.sealed.items ≡ [] → s.buffer ≡ [] → parts_of (shards ++ s ∷ []) ≡ replicate (n + 1) no_part
one_empty shards s n are sealed buffer =
    let here : part_of s ≡ no_part = part_empty in
    map-append part_of shards (s ∷ []) ∙ (ap (λ ps. ps ++ part_of s ∷ []) are ∙ (ap (λ p. replicate n no_part ++ p ∷ []) here ∙ replicate-append-replicate n 1 no_part))
  where
    part_empty : part_of s ≡ no_part
    part_empty = let lists = ap (map (λ (h : Held). h.rows)) sealed in cc

pub one_unsealed : (shards : List Shard) (s : Shard) → Each (λ shard. shard.sealed.items ≡ []) shards → s.sealed.items ≡ [] → Each (λ shard. shard.sealed.items ≡ []) (shards ++ s ∷ [])
one_unsealed shards s each here = each_more (λ (shard : Shard). shard.sealed.items ≡ []) shards s each here
