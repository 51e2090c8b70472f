-- What is asked of rows that answer.
use Rattle.std.specs.Prelude.{ℕ, ℤ, true, false, List, [], ◌∷◌, map, codes, bytes_eq, Option, Some, None}
use Rattle.std.specs.List.{find, flat_map}
use Rattle.reply_json.specs.Trees.{member}
use Rattle.reply_json.specs.declared.out.Out.{Flag, Word, Object}
use Rattle.row_cells.specs.Joining.{join_fields}
use Rattle.row_cells.specs.Widening.{widen_of_row}
use Rattle.row_cells.specs.declared.rows.Row.{Row}
use Rattle.row_cells.specs.declared.schemas.Field.{Field}
use Rattle.row_cells.specs.declared.schemas.Schema.{Schema}
use Rattle.serde_json.specs.Data.{Data}
use Rattle.series_id.specs.Ids.{id_of}
use Rattle.stream_catalog.specs.Lists.{with_found, stream_named, index_named, members_of}
use Rattle.stream_catalog.specs.Plain.{PlainIndex, PlainCatalog}
use Rattle.stream_catalog.specs.Ways.{Way}
use Rattle.stream_catalog.specs.declared.facts.HeldIndex.{HeldIndex}
use Rattle.synthetic_source.specs.Normal.{norm}
use Rattle.synthetic_source.specs.Replies.{out_of}
use Rattle.tsds_service.specs.declared.reply.Reply.{Reply}

-- ---- the rows of a target

-- a row that answers: its index, where that one's window begins, the row itself, and the row with all fields of the target
pub record Offered : Type 0 where
  pub index : List ℕ
  pub start : ℤ
  pub row : Row
  pub wide : Row

-- the fields of some indices together
abbrev pub joined_fields : List HeldIndex → List Field
joined_fields [] = []
joined_fields (i ∷ is) = join_fields i.mapping.schema.fields (joined_fields is)

-- an index's schema with other fields
abbrev pub with_fields : List Field → Schema → Schema
with_fields fields schema = record schema { fields = fields; routing = [] }

abbrev pub offered_row : List Field → PlainIndex → Row → Offered
offered_row fields i row = record {
  index = i.facts.name;
  start = i.facts.start;
  row = row;
  wide = widen_of_row row i.facts.mapping.schema (with_fields fields i.facts.mapping.schema);
}

-- the rows of an index that answer, with more fields
abbrev pub offered_of : Way → List Field → PlainIndex → List Offered
offered_of way fields i = map (offered_row fields i) (way.shown i.facts i.rows)

abbrev pub facts_in : List PlainIndex → List HeldIndex
facts_in is = map (λ i. i.facts) is

-- the rows of some indices that answer, one index after another
abbrev pub samples_of : Way → List PlainIndex → List Offered
samples_of way is = flat_map (offered_of way (joined_fields (facts_in is))) is

-- ---- targets

-- what a name stands for: all members of a stream, or one index
abbrev pub target_of : PlainCatalog → List ℕ → Option (List PlainIndex)
target_of c name = with_found (stream_named name c.streams) (with_found (index_named name c.indices) None (λ i. Some (i ∷ []))) (λ s. Some (members_of c s))

-- ---- questions

-- How searches and counts are answered: of the present moment, the facts of the indices asked, their rows that answer, and the
-- body of the request if it has one. What the laws say of replies they say for any way of answering.
pub record Searching : Type 0 where
  pub search : ℤ → List HeldIndex → List Offered → Option Data → Reply
  pub count : ℤ → List HeldIndex → List Offered → Option Data → Reply

-- the document of an id among rows
abbrev pub document_at : List ℕ → List Row → Option Row
document_at id rows = find (λ row. bytes_eq (id_of row.key row.time) id) rows

abbrev pub no_document : List ℕ → List ℕ → Reply
no_document index id = record {
  status = 404;
  body = Object (member (codes "_index") (Word index) ∷ member (codes "_id") (Word id) ∷ member (codes "found") (Flag false) ∷ []);
}

abbrev pub document_reply : HeldIndex → List ℕ → Row → Reply
document_reply facts id row = record {
  status = 200;
  body = Object (
      member (codes "_index") (Word facts.name)
      ∷ member (codes "_id") (Word id)
      ∷ member (codes "found") (Flag true)
      ∷ member (codes "_source") (out_of (norm facts.mapping.schema row)) ∷ []);
}

abbrev pub get_reply : Way → PlainIndex → List ℕ → Reply
get_reply way i id = with_found (document_at id (way.shown i.facts i.rows)) (no_document i.facts.name id) (document_reply i.facts id)
