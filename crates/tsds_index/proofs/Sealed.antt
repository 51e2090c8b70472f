-- A shard that is sealed from a place on, and one with a row put into its buffer.
use Rattle.std.specs.Prelude.{◌≡◌, ℕ, ◌+◌, ◌-◌, ◌^◌, ◌<◌, ◌≤◌, nat_le, true, false, if◌then◌else◌, List, [], ◌∷◌, ◌++◌, length, reverse, take, drop}
use Rattle.std.proofs.Common.{ap, get_or, sym, subst, ◌∙◌, arith}
use Rattle.std.proofs.lemmas.List.{drop-map, length-append, map-append, take-map}
use Rattle.row_cells.specs.declared.rows.Row.{Row}
use Rattle.row_cells.specs.declared.schemas.Schema.{Schema}
use Rattle.row_cells.specs.Each.{Each}
use Rattle.row_cells.specs.KeyedRows.{AreRowsOf, IsRowOf}
use Rattle.row_cells.specs.Limits.{most_documents}
use Rattle.row_cells.specs.PlaceLaws.{distinct_append, documents-append, in_order_stays}
use Rattle.row_cells.specs.RangeLaws.{each_take}
use Rattle.row_cells.specs.RowLists.{AreDistinct, documents, has_place, in_row_order, insert_row}
use Rattle.index_segment.specs.Held.{Held}
use Rattle.index_segment.specs.Spelling.{IsSegmentOf}
use Rattle.tsds_index.specs.declared.shard.Shard.{Shard}
use Rattle.tsds_index.specs.Limits.{longest_buffer}
use Rattle.tsds_index.specs.Sealing.{joined_count, sealed_at, with_room, with_row}
use Rattle.tsds_index.specs.Segments.{AreOfSchema, lists_in}
use Rattle.tsds_index.specs.Shards.{IsShard, part_of}
use Rattle.tsds_index.specs.Sound.{IsPart}
use Rattle.tsds_index.specs.Spread.{Part, newest_first, rows_in}
use Rattle.tsds_index.proofs.Alike.{Alike, alike_documents, alike_place}
use Rattle.tsds_index.proofs.Counted.{length_documents}
use Rattle.tsds_index.proofs.Joined.{each_more, free_parts, part_each, parted, put_alike, put_part, seal_alike, seal_part, sealed_from}

-- ---- what is joined

pub newer_is : (n : ℕ) (rows buffer : List Row) (newer slice items : List Held) → rows ≡ buffer → newer ≡ drop n slice → slice ≡ items → rows ++ newest_first (lists_in newer) ≡ buffer ++ newest_first (drop n (lists_in items))
newer_is n rows buffer newer slice items rows_are newer_are slice_is =
    ap (λ rs. rs ++ newest_first (lists_in newer)) rows_are
    ∙ (ap (λ hs. buffer ++ newest_first (lists_in hs)) (newer_are ∙ ap (drop n) slice_is)
    ∙ ap (λ lists. buffer ++ newest_first lists) (sym (drop-map (λ (h : Held). h.rows) n items)))

pub newer_distinct : (n : ℕ) (rows : List Row) (p : Part) → rows ≡ p.buffer ++ newest_first (drop n p.sealed) → AreDistinct (rows_in p) → AreDistinct rows
newer_distinct n rows p is distinct = subst AreDistinct (sym is) ((distinct_append (p.buffer ++ newest_first (drop n p.sealed)) (newest_first (take n p.sealed))).0 (subst AreDistinct (parted n p) distinct)).0

pub newer_few : (n : ℕ) (rows : List Row) (p : Part) → rows ≡ p.buffer ++ newest_first (drop n p.sealed) → documents (rows_in p) ≤ most_documents → documents rows ≤ most_documents
newer_few n rows p is few =
    let all = ap documents (parted n p) ∙ documents-append (p.buffer ++ newest_first (drop n p.sealed)) (newest_first (take n p.sealed)) in
    let front = ap documents is in
    omega (arith, all, front, few)

-- ---- a shard sealed from a place on

module _ (schema : Schema) (old new : Shard) (n : ℕ) (segment : Held) (rows : List Row) (is : IsShard schema old) (rows_are : rows ≡ old.buffer ++ newest_first (drop n (lists_in old.sealed.items))) (segment_is : segment ≡ record { schema = schema; rows = in_row_order rows }) (segments_are : new.sealed.items ≡ take n old.sealed.items ++ segment ∷ []) (buffer_is : new.buffer ≡ []) where
  lists_are : lists_in new.sealed.items ≡ take n (lists_in old.sealed.items) ++ segment.rows ∷ []
  lists_are =
      ap lists_in segments_are
      ∙ (map-append (λ (h : Held). h.rows) (take n old.sealed.items) (segment ∷ [])
      ∙ ap (λ lists. lists ++ segment.rows ∷ []) (sym (take-map (λ (h : Held). h.rows) n old.sealed.items)))

  part_is : part_of new ≡ sealed_from n segment.rows (part_of old)
  part_is = let lists = lists_are in cc

  sorted_is : segment.rows ≡ in_row_order (old.buffer ++ newest_first (drop n (lists_in old.sealed.items)))
  sorted_is = ap (λ (h : Held). h.rows) segment_is ∙ ap in_row_order rows_are

  pub sealed_rows : Alike (rows_in (part_of new)) (rows_in (part_of old))
  sealed_rows = ap (λ p. in_row_order (rows_in p)) part_is ∙ seal_alike n segment.rows (part_of old) sorted_is

  pub sealed_is : part_of new ≡ sealed_at n (part_of old)
  sealed_is = part_is ∙ ap (λ rs. sealed_from n rs (part_of old)) sorted_is

  pub sealed_shard : IsShard schema new
  sealed_shard = record {
    schemas = subst (AreOfSchema schema) (sym segments_are) (each_more (λ (h : Held). h.schema ≡ schema) (take n old.sealed.items) segment (each_take (λ (h : Held). h.schema ≡ schema) n old.sealed.items is.schemas) (ap (λ (h : Held). h.schema) segment_is));
    part = subst (IsPart schema) (sym part_is) (seal_part schema n segment.rows (part_of old) is.part is.few sorted_is);
    few = omega (arith, alike_documents (rows_in (part_of new)) (rows_in (part_of old)) sealed_rows, is.few);
  }

-- ---- a row put into the buffer of a shard with room

module _ (schema : Schema) (row : Row) (old mid new : Shard) (is : IsShard schema mid) (alike : Alike (rows_in (part_of mid)) (rows_in (part_of old))) (row_is : IsRowOf schema row) (free : has_place row.key row.time (rows_in (part_of old)) ≡ false) where
  pub free_there : has_place row.key row.time (rows_in (part_of mid)) ≡ false
  free_there = alike_place row.key row.time (rows_in (part_of mid)) (rows_in (part_of old)) alike ∙ free

  pub free_in_buffer : has_place row.key row.time mid.buffer ≡ false
  free_in_buffer = (free_parts row mid.buffer (newest_first (lists_in mid.sealed.items)) free_there).0

  module _ (few : documents (rows_in (part_of old)) + row.count ≤ most_documents) (room : length mid.buffer < longest_buffer) (sealed_is : new.sealed ≡ mid.sealed) (buffer_is : new.buffer ≡ insert_row row mid.buffer) where
    put_is : part_of new ≡ record { sealed = lists_in mid.sealed.items; buffer = insert_row row mid.buffer }
    put_is = let same = ap (λ v. lists_in v.items) sealed_is in cc

    pub put_rows : Alike (rows_in (part_of new)) (row ∷ rows_in (part_of old))
    put_rows = ap (λ p. in_row_order (rows_in p)) put_is ∙ (put_alike row (part_of mid) is.part.buffer.in_order ∙ ap (insert_row row) alike)

    pub put_shard : IsShard schema new
    put_shard = record {
      schemas = subst (λ v. AreOfSchema schema v.items) (sym sealed_is) is.schemas;
      part = subst (IsPart schema) (sym put_is) (put_part schema row (part_of mid) is.part row_is free_there (omega (arith, few, alike_documents (rows_in (part_of mid)) (rows_in (part_of old)) alike)) room);
      few = omega (arith, few, alike_documents (rows_in (part_of new)) (row ∷ rows_in (part_of old)) put_rows);
    }

-- ---- by the rule of sealing

pub room_kept : (p : Part) → nat_le longest_buffer (length p.buffer) ≡ false → p ≡ with_room p
room_kept p is = ap (λ b. if b then sealed_at (length p.sealed - joined_count longest_buffer (reverse p.sealed)) p else p) (sym is)

pub room_made : (p q : Part) (first : ℕ) → nat_le longest_buffer (length p.buffer) ≡ true → first ≡ length p.sealed - joined_count longest_buffer (reverse p.sealed) → q ≡ sealed_at first p → q ≡ with_room p
room_made p q first is first_is q_is =
    q_is ∙ (ap (λ n. sealed_at n p) first_is ∙ ap (λ b. if b then sealed_at (length p.sealed - joined_count longest_buffer (reverse p.sealed)) p else p) (sym is))

pub put_is_by_rule : (row : Row) (old mid new : Shard) → part_of mid ≡ with_room (part_of old) → new.sealed ≡ mid.sealed → new.buffer ≡ insert_row row mid.buffer → part_of new ≡ with_row row (part_of old)
put_is_by_rule row old mid new mid_is sealed_same buffer_is =
    let same = ap (λ v. lists_in v.items) sealed_same in
    let lists = ap (λ (p : Part). p.sealed) mid_is in
    let waiting = ap (λ (p : Part). insert_row row p.buffer) mid_is in
    cc

-- there are few enough rows for their number to be told
pub few_lists : (schema : Schema) (shard : Shard) (segments : List Held) → IsShard schema shard → segments ≡ shard.sealed.items → longest_buffer + length (newest_first (lists_in segments)) ≤ 2 ^ 32
few_lists schema shard segments is same =
    omega (arith, is.few, length_documents schema (rows_in (part_of shard)) (part_each schema (part_of shard) is.part), length-append shard.buffer (newest_first (lists_in shard.sealed.items)), ap (λ gs. length (newest_first (lists_in gs))) same)

-- ---- a shard that is one segment

only_one : (segments : List Held) (s : Held) → length segments ≡ 1 → s ≡ get_or segments 0 s → segments ≡ s ∷ []
only_one [] s one is = absurd (omega (arith, one))
only_one (x ∷ []) s one is = ap (λ (h : Held). h ∷ []) (sym is)
only_one (x ∷ y ∷ ys) s one is = absurd (omega (arith, one))

pub one_segment : (schema : Schema) (shard : Shard) (s : Held) (bytes : List ℕ) → IsShard schema shard → length shard.sealed.items ≡ 1 → shard.buffer ≡ [] → s ≡ get_or shard.sealed.items 0 s → IsSegmentOf s.schema s.rows bytes → IsSegmentOf schema (in_row_order (rows_in (part_of shard))) bytes
one_segment schema shard s bytes is one empty s_is spelled =
    let items : shard.sealed.items ≡ s ∷ [] = only_one shard.sealed.items s one s_is in
    let rows : rows_in (part_of shard) ≡ s.rows = ap (λ rs. rs ++ newest_first (lists_in shard.sealed.items)) empty ∙ ap (λ (gs : List Held). newest_first (lists_in gs)) items in
    let are : Each (AreRowsOf schema) (s.rows ∷ []) = subst (λ (gs : List Held). Each (AreRowsOf schema) (lists_in gs)) items is.part.sealed in
    let of : s.schema ≡ schema = (subst (AreOfSchema schema) items is.schemas).0 in
    let sorted : in_row_order (rows_in (part_of shard)) ≡ s.rows = ap in_row_order rows ∙ in_order_stays s.rows are.0.in_order in
    subst (λ rs. IsSegmentOf schema rs bytes) (sym sorted) (subst (λ sc. IsSegmentOf sc s.rows bytes) of spelled)
