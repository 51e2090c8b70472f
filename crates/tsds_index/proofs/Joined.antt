-- The lists of a shard with a row more, and joined from one of them on.
use Rattle.std.specs.Prelude.{◌≡◌, ℕ, suc, ◌+◌, ◌<◌, ◌≤◌, ◌&&◌, false, List, [], ◌∷◌, ◌++◌, length, take, drop}
use Rattle.std.specs.Ordering.{int_eq}
use Rattle.std.specs.Str.{bytes_eq}
use Rattle.std.proofs.Common.{ap, sym, subst, ◌∙◌, arith, append_assoc, append-nil}
use Rattle.std.proofs.lemmas.Bool.{or_parts}
use Rattle.std.proofs.Math.ListN.{take-append-drop}
use Rattle.row_cells.specs.declared.rows.Row.{Row}
use Rattle.row_cells.specs.declared.schemas.Schema.{Schema}
use Rattle.row_cells.specs.Each.{Each}
use Rattle.row_cells.specs.KeyedRows.{AreRowsOf, IsRowOf}
use Rattle.row_cells.specs.Limits.{most_documents}
use Rattle.row_cells.specs.OrderLaws.{documents-in_row_order, in_row_order-each, insert_each}
use Rattle.row_cells.specs.PlaceLaws.{any-append, between_distinct, distinct_append, documents-append, each_append, each_parts, in_row_order-append_left}
use Rattle.row_cells.specs.RangeLaws.{each_take}
use Rattle.row_cells.specs.RowLists.{AreDistinct, AreInRowOrder, documents, has_place, in_row_order, insert_row}
use Rattle.row_cells.specs.SetLaws.{sorted_distinct}
use Rattle.tsds_index.specs.Limits.{longest_buffer}
use Rattle.tsds_index.specs.Sound.{IsPart}
use Rattle.tsds_index.specs.Spread.{Part, newest_first, rows_in}
use Rattle.tsds_index.proofs.Alike.{Alike, alike_distinct, alike_documents, alike_front, alike_length}
use Rattle.tsds_index.proofs.Ordered.{put_in_order, put_into_buffer}

pub newest_append : (xs ys : List (List Row)) → newest_first (xs ++ ys) ≡ newest_first ys ++ newest_first xs
newest_append [] ys = sym (append-nil (newest_first ys))
newest_append (x ∷ xs) ys = ap (λ zs. zs ++ x) (newest_append xs ys) ∙ append_assoc (newest_first ys) (newest_first xs) x

-- ---- the rows of a shard

newest_each : (schema : Schema) (lists : List (List Row)) → Each (AreRowsOf schema) lists → Each (IsRowOf schema) (newest_first lists)
newest_each schema [] are = tt
newest_each schema (rows ∷ lists) are = each_append (IsRowOf schema) (newest_first lists) rows (newest_each schema lists are.1) are.0.each

pub part_each : (schema : Schema) (p : Part) → IsPart schema p → Each (IsRowOf schema) (rows_in p)
part_each schema p is = each_append (IsRowOf schema) p.buffer (newest_first p.sealed) is.buffer.each (newest_each schema p.sealed is.sealed)

pub free_parts : (row : Row) (xs ys : List Row) → has_place row.key row.time (xs ++ ys) ≡ false → (has_place row.key row.time xs ≡ false) × (has_place row.key row.time ys ≡ false)
free_parts row xs ys free = or_parts (has_place row.key row.time xs) (has_place row.key row.time ys) (sym (any-append (λ r. bytes_eq r.key row.key && int_eq r.time row.time) xs ys) ∙ free)

-- ---- a row put into the buffer

pub put_alike : (row : Row) (p : Part) → AreInRowOrder p.buffer → Alike (insert_row row p.buffer ++ newest_first p.sealed) (row ∷ rows_in p)
put_alike row p order = alike_front (insert_row row p.buffer) (row ∷ p.buffer) (newest_first p.sealed) (put_into_buffer row p.buffer order)

pub put_part : (schema : Schema) (row : Row) (p : Part) → IsPart schema p → IsRowOf schema row → has_place row.key row.time (rows_in p) ≡ false → documents (rows_in p) + row.count ≤ most_documents → length p.buffer < longest_buffer → IsPart schema (record p { buffer = insert_row row p.buffer })
put_part schema row p is row_is free few room =
    let alike : Alike (insert_row row p.buffer) (row ∷ p.buffer) = put_into_buffer row p.buffer is.buffer.in_order in
    let counted : documents (insert_row row p.buffer) ≡ row.count + documents p.buffer = alike_documents (insert_row row p.buffer) (row ∷ p.buffer) alike in
    let long : length (insert_row row p.buffer) ≡ suc (length p.buffer) = alike_length (insert_row row p.buffer) (row ∷ p.buffer) alike in
    record {
      sealed = is.sealed;
      buffer = record {
        each = insert_each (IsRowOf schema) row p.buffer row_is is.buffer.each;
        in_order = put_in_order row p.buffer is.buffer.in_order (free_parts row p.buffer (newest_first p.sealed) free).0;
        few = omega (arith, counted, few, documents-append p.buffer (newest_first p.sealed));
      };
      distinct = alike_distinct (insert_row row p.buffer ++ newest_first p.sealed) (row ∷ rows_in p) (put_alike row p is.buffer.in_order) (between_distinct [] (rows_in p) row is.distinct free);
      few = omega (arith, long, room);
    }

-- ---- lists joined to one

pub parted : (n : ℕ) (p : Part) → rows_in p ≡ (p.buffer ++ newest_first (drop n p.sealed)) ++ newest_first (take n p.sealed)
parted n p =
    ap (λ lists. p.buffer ++ newest_first lists) (sym (take-append-drop n p.sealed))
    ∙ (ap (λ rows. p.buffer ++ rows) (newest_append (take n p.sealed) (drop n p.sealed))
    ∙ sym (append_assoc p.buffer (newest_first (drop n p.sealed)) (newest_first (take n p.sealed))))

-- one list in the place of those from a number on
abbrev pub sealed_from : ℕ → List Row → Part → Part
sealed_from n rows p = record { sealed = take n p.sealed ++ rows ∷ []; buffer = [] }

pub seal_alike : (n : ℕ) (rows : List Row) (p : Part) → rows ≡ in_row_order (p.buffer ++ newest_first (drop n p.sealed)) → Alike (rows_in (sealed_from n rows p)) (rows_in p)
seal_alike n rows p is =
    ap in_row_order (newest_append (take n p.sealed) (rows ∷ []))
    ∙ (ap (λ rs. in_row_order (rs ++ newest_first (take n p.sealed))) is
    ∙ (in_row_order-append_left (p.buffer ++ newest_first (drop n p.sealed)) (newest_first (take n p.sealed))
    ∙ sym (ap in_row_order (parted n p))))

pub each_more : {A : Type 0} (P : A → Type 0) (xs : List A) (y : A) → Each P xs → P y → Each P (xs ++ y ∷ [])
each_more P [] y each here = (here, tt)
each_more P (x ∷ xs) y each here = (each.0, each_more P xs y each.1 here)

pub seal_part : (schema : Schema) (n : ℕ) (rows : List Row) (p : Part) → IsPart schema p → documents (rows_in p) ≤ most_documents → rows ≡ in_row_order (p.buffer ++ newest_first (drop n p.sealed)) → IsPart schema (sealed_from n rows p)
seal_part schema n rows p is few rows_are =
    let front : List Row = p.buffer ++ newest_first (drop n p.sealed) in
    let back : List Row = newest_first (take n p.sealed) in
    let each : Each (IsRowOf schema) (front ++ back) = subst (Each (IsRowOf schema)) (parted n p) (part_each schema p is) in
    let distinct : AreDistinct (front ++ back) = subst AreDistinct (parted n p) is.distinct in
    let count : documents (rows_in p) ≡ documents front + documents back = ap documents (parted n p) ∙ documents-append front back in
    let one : AreRowsOf schema (in_row_order front) = record {
      each = in_row_order-each (IsRowOf schema) front (each_parts (IsRowOf schema) front back each).0;
      in_order = sorted_distinct front ((distinct_append front back).0 distinct).0;
      few = omega (arith, count, few, documents-in_row_order front);
    } in
    record {
      sealed = each_more (AreRowsOf schema) (take n p.sealed) rows (each_take (AreRowsOf schema) n p.sealed is.sealed) (subst (AreRowsOf schema) (sym rows_are) one);
      buffer = record { each = tt; in_order = tt; few = omega arith };
      distinct = alike_distinct (rows_in (sealed_from n rows p)) (rows_in p) (seal_alike n rows p rows_are) is.distinct;
      few = omega arith;
    }
