-- Segments joined one after the other to rows, the newest first.
use Rattle.std.specs.Prelude.{◌≡◌, ◌+◌, ◌≤◌, List, [], ◌∷◌, ◌++◌}
use Rattle.std.proofs.Common.{refl, ap, sym, subst, ◌∙◌, arith, append_assoc}
use Rattle.row_cells.specs.declared.rows.Row.{Row}
use Rattle.row_cells.specs.declared.schemas.Schema.{Schema}
use Rattle.row_cells.specs.KeyedRows.{AreRowsOf}
use Rattle.row_cells.specs.Limits.{most_documents}
use Rattle.row_cells.specs.OrderLaws.{in_row_order-ascends, in_row_order-same}
use Rattle.row_cells.specs.PlaceLaws.{distinct_append, documents-append, in_order_stays, in_row_order-append_left}
use Rattle.row_cells.specs.RowLists.{AreApart, AreDistinct, documents, in_row_order}
use Rattle.index_segment.specs.Held.{Held}
use Rattle.tsds_index.specs.Segments.{AreOfSchema, lists_in}
use Rattle.tsds_index.specs.Spread.{newest_first}
use Rattle.tsds_index.proofs.Alike.{Alike, alike_distinct, alike_documents}
use Rattle.tsds_index.proofs.Looked.{newest_is}

-- rows and segments are joined to one, and older segments are left
pub record AreJoined (schema : Schema) (all : List Row) (one : Held) (left : List Held) : Type 0 where
  pub schema_is : one.schema ≡ schema
  pub schemas : AreOfSchema schema left
  pub sorted : in_row_order one.rows ≡ one.rows
  pub whole : Alike (one.rows ++ newest_first (lists_in left)) all

pub begun : (schema : Schema) (rows : List Row) (one : Held) (left : List Held) → AreRowsOf schema rows → AreOfSchema schema left → one ≡ record { schema = schema; rows = rows } → AreJoined schema (rows ++ newest_first (lists_in left)) one left
begun schema rows one left are schemas is = subst (λ (h : Held). AreJoined schema (rows ++ newest_first (lists_in left)) h left) (sym is) (record {
  schema_is = refl;
  schemas = schemas;
  sorted = in_order_stays rows are.in_order;
  whole = refl;
})

each_last : (schema : Schema) (older : List Held) (s : Held) → AreOfSchema schema (older ++ s ∷ []) → AreOfSchema schema older × (s.schema ≡ schema)
each_last schema [] s each = (tt, each.0)
each_last schema (x ∷ xs) s each = let later = each_last schema xs s each.1 in ((each.0, later.0), later.1)

-- the next segment fits beside what is joined
pub record FitsBeside (one older : Held) : Type 0 where
  pub schema : older.schema ≡ one.schema
  pub apart : AreApart one.rows older.rows
  pub few : documents one.rows + documents older.rows ≤ most_documents

module _ (schema : Schema) (all : List Row) (one s : Held) (left older : List Held) (left_is : left ≡ older ++ s ∷ []) (are : AreJoined schema all one left) where
  parts : AreOfSchema schema older × (s.schema ≡ schema)
  parts = each_last schema older s (subst (AreOfSchema schema) left_is are.schemas)

  next : Alike (one.rows ++ (s.rows ++ newest_first (lists_in older))) all
  next = subst (λ rows. Alike (one.rows ++ rows) all) (newest_is left older s left_is) are.whole

  pub fits_beside : AreDistinct all → documents all ≤ most_documents → FitsBeside one s
  fits_beside distinct few =
      let all_distinct : AreDistinct (one.rows ++ (s.rows ++ newest_first (lists_in older))) = alike_distinct (one.rows ++ (s.rows ++ newest_first (lists_in older))) all next distinct in
      let two : AreDistinct ((one.rows ++ s.rows) ++ newest_first (lists_in older)) = subst AreDistinct (sym (append_assoc one.rows s.rows (newest_first (lists_in older)))) all_distinct in
      record {
        schema = parts.1 ∙ sym are.schema_is;
        apart = ((distinct_append one.rows s.rows).0 ((distinct_append (one.rows ++ s.rows) (newest_first (lists_in older))).0 two).0).2;
        few = omega (arith, few, alike_documents (one.rows ++ (s.rows ++ newest_first (lists_in older))) all next, documents-append one.rows (s.rows ++ newest_first (lists_in older)), documents-append s.rows (newest_first (lists_in older)));
      }

  pub one_more : (more : Held) → more ≡ record { schema = one.schema; rows = in_row_order (one.rows ++ s.rows) } → AreJoined schema all more older
  one_more more is = subst (λ (h : Held). AreJoined schema all h older) (sym is) (record {
    schema_is = are.schema_is;
    schemas = parts.0;
    sorted = in_row_order-same (in_row_order (one.rows ++ s.rows)) (in_row_order-ascends (one.rows ++ s.rows));
    whole = in_row_order-append_left (one.rows ++ s.rows) (newest_first (lists_in older)) ∙ (ap in_row_order (append_assoc one.rows s.rows (newest_first (lists_in older))) ∙ next);
  })
