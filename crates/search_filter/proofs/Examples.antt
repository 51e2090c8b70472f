-- Small bodies and what they are read as.
use Rattle.std.specs.Prelude.{◌≡◌, ℕ, pos, true, false, List, [], ◌∷◌, codes, Some, None}
use Rattle.std.specs.Char.{encode_utf8}
use Rattle.std.specs.Str.{is_utf8, chars}
use Rattle.std.specs.declared.result.Result.TheVariants.{Ok, Err}
use Rattle.std.proofs.Common.{refl}
use Rattle.serde_json.specs.Data.{Data, null, string, array, object, no_items, item, no_members, member}
use Rattle.time_text.specs.Bucket.{bucket_start}
use Rattle.row_cells.specs.declared.scalars.Scalar.TheVariants.{Whole, Word}
use Rattle.row_cells.specs.declared.schemas.FieldType.TheVariants.{Date, Keyword, Long, Boolean}
use Rattle.row_cells.specs.declared.schemas.Role.TheVariants.{Time, Dimension, Gauge as GaugeRole}
use Rattle.row_cells.specs.declared.schemas.Field.{Field}
use Rattle.row_cells.specs.declared.schemas.Schema.{Schema}
use Rattle.row_cells.specs.declared.rows.Cell.TheVariants.{Absent, One, Gauge}
use Rattle.row_cells.specs.declared.rows.Row.{Row}
use Rattle.search_filter.specs.Aligned.{align_step}
use Rattle.search_filter.specs.Matching.{match_step}
use Rattle.search_filter.specs.Reading.{query_of}
use Rattle.search_filter.specs.Values.{values_at}
use Rattle.search_filter.specs.declared.query.Query.{Query-F, All, Nothing, Has, OneOf, Between, Bool as BoolQuery}
use Rattle.search_filter.specs.declared.reading.QueryError.TheVariants.{Shape, WrongValue}

-- @timestamp, a gauge `cpu`, and the dimensions `host` and `host.up`
abbrev fields : List Field
fields =
    record { path = codes "@timestamp"; kind = Date; role = Time }
    ∷ (record { path = codes "cpu"; kind = Long; role = GaugeRole }
    ∷ (record { path = codes "host"; kind = Keyword; role = Dimension }
    ∷ (record { path = codes "host.up"; kind = Boolean; role = Dimension } ∷ [])))

abbrev schema : Schema
schema = record { fields = fields; routing = 2 ∷ []; folded = true; rises = true }

abbrev one : List ℕ → Data → Data
one name d = object (member name d no_members)

-- a value of an unmapped path isn't read
unmapped_is_nothing : query_of (pos 0) schema (one (codes "term") (one (codes "load") null)) ≡ Ok Nothing
unmapped_is_nothing = refl

-- at a field or below it
exists_has_places : query_of (pos 0) schema (one (codes "exists") (one (codes "field") (string (codes "host")))) ≡ Ok (Has (2 ∷ 3 ∷ []))
exists_has_places = refl

term_names_a_value : query_of (pos 0) schema (one (codes "term") (one (codes "host") (one (codes "value") (string (codes "a"))))) ≡ Ok (OneOf 2 (Word (codes "a") ∷ []))
unfolding is_utf8 chars encode_utf8
term_names_a_value = refl

gt_is_open : query_of (pos 0) schema (one (codes "range") (one (codes "host") (one (codes "gt") (string (codes "a"))))) ≡
    Ok (Between 2 (Some (record { value = Word (codes "a"); inclusive = false })) None)
unfolding is_utf8 chars encode_utf8
gt_is_open = refl

-- a wrong shape is told before a wrong value, wherever it stands
shape_comes_first : query_of (pos 0) schema (one (codes "bool") (one (codes "must") (array (item (one (codes "term") (one (codes "cpu") null)) (item null no_items))))) ≡ Err Shape
shape_comes_first = refl

-- of two wrong values the one of the lesser path
least_path_is_told : query_of (pos 0) schema (one (codes "bool") (one (codes "must")
    (array (item (one (codes "term") (one (codes "host") null)) (item (one (codes "term") (one (codes "cpu") null)) no_items))))) ≡ Err (WrongValue (codes "cpu"))
least_path_is_told = refl

-- `should` has to match where nothing else is asked for, and need not beside `must`
should_alone_matches : query_of (pos 0) schema (one (codes "bool") (one (codes "should") (one (codes "match_all") (object no_members)))) ≡ Ok (BoolQuery [] (All ∷ []) [] 1)
should_alone_matches = refl

should_beside_must : query_of (pos 0) schema (one (codes "bool")
    (object (member (codes "must") (one (codes "match_all") (object no_members)) (member (codes "should") (array no_items) no_members)))) ≡ Ok (BoolQuery (All ∷ []) [] [] 0)
should_beside_must = refl

abbrev folded_row : Row
folded_row = record {
  key = [];
  time = pos 60000;
  count = 2;
  cells = Absent ∷ (Gauge (record { min = pos 10; max = pos 30; sum = pos 40; count = pos 2 }) ∷ (One (Word (codes "a")) ∷ (Absent ∷ [])));
}

-- a gauge is compared by its greatest value
a_gauge_has_its_maximum : values_at fields 1 folded_row ≡ Whole (pos 30) ∷ []
a_gauge_has_its_maximum = refl

the_time_is_a_value : values_at fields 0 folded_row ≡ Whole (pos 60000) ∷ []
the_time_is_a_value = refl

above_its_minimum : match_step fields folded_row (Query-F.Between 1 (Some (record { value = Whole (pos 30); inclusive = true })) None) ≡ true
above_its_minimum = refl

an_absent_value : match_step fields folded_row (Query-F.Has (3 ∷ [])) ≡ false
an_absent_value = refl

-- ranges of whole minutes are aligned by `gte` and `lt` at their starts
whole_minutes : align_step 60_000 fields (Query-F.Between 0 (Some (record { value = Whole (pos 60_000); inclusive = true })) (Some (record { value = Whole (pos 120_000); inclusive = false }))) ≡ true
unfolding bucket_start
whole_minutes = refl

a_second_past : align_step 60_000 fields (Query-F.Between 0 (Some (record { value = Whole (pos 61_000); inclusive = true })) None) ≡ false
unfolding bucket_start
a_second_past = refl

up_to_and_with : align_step 60_000 fields (Query-F.Between 0 None (Some (record { value = Whole (pos 60_000); inclusive = true }))) ≡ false
up_to_and_with = refl

-- a dimension may be asked for in any way, a gauge in none, and that there is a time in none either
a_dimension : align_step 60_000 fields (Query-F.OneOf 2 (Word (codes "a") ∷ [])) ≡ true
a_dimension = refl

a_gauge : align_step 60_000 fields (Query-F.Has (1 ∷ [])) ≡ false
a_gauge = refl

the_time : align_step 60_000 fields (Query-F.Has (0 ∷ [])) ≡ false
the_time = refl

-- `should` and `must_not` may ask for whole buckets too
in_all_lists : align_step 60_000 fields (Query-F.Bool [] (true ∷ true ∷ []) (true ∷ []) 1) ≡ true
in_all_lists = refl
