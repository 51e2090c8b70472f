-- An index of segments, one for each shard.
use Rattle.std.specs.Prelude.{◌≡◌, ℕ, suc, ◌+◌, ◌≤◌, true, false, List, [], ◌∷◌, length, map}
use Rattle.std.proofs.Common.{refl, ap, sym, subst, ◌∙◌, arith}
use Rattle.std.proofs.lemmas.List.{length-append, length-map}
use Rattle.row_cells.specs.declared.rows.Row.{Row}
use Rattle.row_cells.specs.declared.schemas.Schema.{Schema}
use Rattle.row_cells.specs.Each.{Each}
use Rattle.row_cells.specs.KeyedRows.{AreRowsOf, IsRowOf}
use Rattle.row_cells.specs.Limits.{most_documents}
use Rattle.row_cells.specs.PlaceLaws.{documents-append, each_append, in_order-distinct}
use Rattle.row_cells.specs.RowLists.{documents}
use Rattle.index_segment.specs.Held.{Held}
use Rattle.shard_route.specs.Routing.{shard_of_key}
use Rattle.tsds_index.specs.declared.shard.Shard.{Shard}
use Rattle.tsds_index.specs.Answers.{AreRoutedFrom, restored}
use Rattle.tsds_index.specs.Kept.{IsKept}
use Rattle.tsds_index.specs.Limits.{most_shards}
use Rattle.tsds_index.specs.Segments.{AreOfSchema, lists_in}
use Rattle.tsds_index.specs.Shards.{parts_of}
use Rattle.tsds_index.specs.Sound.{ArePartsFrom, IsRouted, shard_for}
use Rattle.tsds_index.specs.Spread.{all_rows}
use Rattle.tsds_index.proofs.Counted.{length_documents}

-- each shard has the segment of its number and no rows in its buffer
pub record AreRestored (made : List Shard) (segments : List Held) : Type 0 where
  pub sealed : map (λ (shard : Shard). shard.sealed.items) made ≡ map (λ (segment : Held). segment ∷ []) segments
  pub buffers : Each (λ shard. shard.buffer ≡ []) made

restored_by : (made : List Shard) (segments : List Held) → map (λ (shard : Shard). shard.sealed.items) made ≡ map (λ (segment : Held). segment ∷ []) segments → Each (λ shard. shard.buffer ≡ []) made → parts_of made ≡ restored (lists_in segments)
restored_by [] [] sealed buffers = refl
restored_by [] (g ∷ segments) sealed buffers = cc
restored_by (s ∷ made) [] sealed buffers = cc
restored_by (s ∷ made) (g ∷ segments) sealed buffers =
    let here : s.sealed.items ≡ g ∷ [] = cc in
    let later : map (λ (shard : Shard). shard.sealed.items) made ≡ map (λ (segment : Held). segment ∷ []) segments = cc in
    let rest = restored_by made segments later buffers.1 in
    let lists = ap lists_in here in
    let empty = buffers.0 in
    cc

schemas_by : (schema : Schema) (made : List Shard) (segments : List Held) → map (λ (shard : Shard). shard.sealed.items) made ≡ map (λ (segment : Held). segment ∷ []) segments → AreOfSchema schema segments → Each (λ shard. AreOfSchema schema shard.sealed.items) made
schemas_by schema [] segments sealed are = tt
schemas_by schema (s ∷ made) [] sealed are = cc
schemas_by schema (s ∷ made) (g ∷ segments) sealed are =
    let here : s.sealed.items ≡ g ∷ [] = cc in
    let later : map (λ (shard : Shard). shard.sealed.items) made ≡ map (λ (segment : Held). segment ∷ []) segments = cc in
    (subst (AreOfSchema schema) (sym here) (are.0, tt), schemas_by schema made segments later are.1)

-- rows of segments of the schema
pub known_of : (schema : Schema) (segments : List Held) → AreOfSchema schema segments → Each (λ segment. AreRowsOf segment.schema segment.rows) segments → Each (AreRowsOf schema) (lists_in segments)
known_of schema [] are known = tt
known_of schema (g ∷ segments) are known = (subst (λ s. AreRowsOf s g.rows) are.0 known.0, known_of schema segments are.1 known.1)

each_row : (schema : Schema) (lists : List (List Row)) → Each (AreRowsOf schema) lists → Each (IsRowOf schema) (all_rows (restored lists))
each_row schema [] are = tt
each_row schema (rows ∷ lists) are = each_append (IsRowOf schema) rows (all_rows (restored lists)) are.0.each (each_row schema lists are.1)

pub few_rows : (schema : Schema) (segments : List Held) → AreOfSchema schema segments → Each (λ segment. AreRowsOf segment.schema segment.rows) segments → documents (all_rows (restored (lists_in segments))) ≤ most_documents → length (all_rows (restored (lists_in segments))) ≤ most_documents
few_rows schema segments are known few = omega (arith, few, length_documents schema (all_rows (restored (lists_in segments))) (each_row schema (lists_in segments) (known_of schema segments are known)))

parts_by : (schema : Schema) (shards at : ℕ) (lists : List (List Row)) → Each (AreRowsOf schema) lists → AreRoutedFrom schema shards at lists → ArePartsFrom schema shards at (restored lists)
parts_by schema shards at [] are routed = tt
parts_by schema shards at (rows ∷ lists) are routed = (
  record {
    sealed = (are.0, tt);
    buffer = record { each = tt; in_order = tt; few = omega arith };
    distinct = in_order-distinct rows are.0.in_order;
    few = omega arith;
  },
  routed.0,
  parts_by schema shards (suc at) lists are.1 routed.1,
)

pub restored_parts : (made : List Shard) (segments : List Held) → AreRestored made segments → parts_of made ≡ restored (lists_in segments)
restored_parts made segments are = restored_by made segments are.sealed are.buffers

pub restored_kept : (schema : Schema) (made : List Shard) (segments : List Held) (rows : ℕ) → AreRestored made segments → IsRouted schema → 1 ≤ length segments → length segments ≤ most_shards → AreOfSchema schema segments → Each (λ segment. AreRowsOf segment.schema segment.rows) segments → AreRoutedFrom schema (length segments) 0 (lists_in segments) → documents (all_rows (restored (lists_in segments))) ≤ most_documents → rows ≡ length (all_rows (restored (lists_in segments))) → IsKept schema made rows
restored_kept schema made segments rows are routed some few_shards of known routes few counted =
    let parts : parts_of made ≡ restored (lists_in segments) = restored_parts made segments are in
    let long : length (restored (lists_in segments)) ≡ length segments = length-map (lists_in segments) (λ rs. record { sealed = rs ∷ []; buffer = [] }) ∙ length-map segments (λ (g : Held). g.rows) in
    let as_many : length (parts_of made) ≡ length segments = ap length parts ∙ long in
    record {
      are = record {
        spread = record {
          schema = routed;
          some = omega (arith, as_many, some);
          few_shards = omega (arith, as_many, few_shards);
          parts = subst (λ n. ArePartsFrom schema n 0 (parts_of made)) (sym as_many) (subst (ArePartsFrom schema (length segments) 0) (sym parts) (parts_by schema (length segments) 0 (lists_in segments) (known_of schema segments of known) routes));
          few = subst (λ ps. documents (all_rows ps) ≤ most_documents) (sym parts) few;
        };
        schemas = schemas_by schema made segments are.sealed of;
      };
      counted = counted ∙ ap (λ ps. length (all_rows ps)) (sym parts);
    }

-- ---- rows counted

pub count_more : (g : Held) (rest left : List Held) (total n all : ℕ) → left ≡ g ∷ rest → n ≡ length g.rows → total + length (all_rows (restored (lists_in left))) ≡ all → (total + n) + length (all_rows (restored (lists_in rest))) ≡ all
count_more g rest left total n all left_is n_is before =
    let here : length (all_rows (restored (lists_in left))) ≡ length g.rows + length (all_rows (restored (lists_in rest))) = ap (λ gs. length (all_rows (restored (lists_in gs)))) left_is ∙ length-append g.rows (all_rows (restored (lists_in rest))) in
    omega (arith, here, n_is, before)

-- ---- whether segments are restorable

pub never : {P : Type 0} → false ≡ true → P
never is = cc

pub total_more : (g : Held) (rest left : List Held) (total n all : ℕ) → left ≡ g ∷ rest → n ≡ documents g.rows → total + documents (all_rows (restored (lists_in left))) ≡ all → (total + n) + documents (all_rows (restored (lists_in rest))) ≡ all
total_more g rest left total n all left_is n_is before =
    let here : documents (all_rows (restored (lists_in left))) ≡ documents g.rows + documents (all_rows (restored (lists_in rest))) = ap (λ gs. documents (all_rows (restored (lists_in gs)))) left_is ∙ documents-append g.rows (all_rows (restored (lists_in rest))) in
    omega (arith, here, n_is, before)

pub shard_told : (schema : Schema) (shards : ℕ) (key k : List ℕ) (r : ℕ) → r ≡ shard_of_key schema key shards → key ≡ k → r ≡ shard_for schema shards k
unfolding shard_for
shard_told schema shards key k r is key_is = is ∙ ap (λ j. shard_of_key schema j shards) key_is
