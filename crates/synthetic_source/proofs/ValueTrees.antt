-- The value of a document's reply tree is the document.
use Rattle.std.proofs.Common.{◌≡◌, ◌^◌, ℕ, pos, negsuc, nat_lt, List, map, Bool, false, cond, String, Global, string_bytes, string_cmp, refl, sym, ap, ap₂, ◌∙◌, subst, rules}
use Rattle.std.proofs.lemmas.Bool.{lt-ltb}
use Rattle.std.specs.BTreeMap.{insert_entry}
use Rattle.row_cells.specs.declared.schemas.Schema.{Schema}
use Rattle.row_cells.specs.declared.rows.Row.{Row}
use Rattle.row_cells.specs.Fitting.{CellsFit, Fits}
use Rattle.serde_json.specs.Data.{Num, unsigned, negative, float, Data, null, boolean, number, string, array, object, Items, no_items, item, Members, no_members, member, put}
use Rattle.serde_json.specs.View.{items_of, view, members_view}
use Rattle.serde_json.specs.declared.value.Value.{Value}
use Rattle.serde_json.proofs.Views.{Entry, members_view-insert_entry}
use Rattle.reply_json.specs.Reading.{members_onto}
use Rattle.reply_json.specs.Trees as tree
use Rattle.reply_json.specs.declared.out.Member.{Member}
use Rattle.reply_json.specs.declared.out.Out.{Out, List as list, Object, the_lemmas}
use Rattle.ts_mapping.specs.Schemas.{IsTemplateSchema}
use Rattle.synthetic_source.specs.Normal.{norm}
use Rattle.synthetic_source.specs.Places.{Rise}
use Rattle.synthetic_source.specs.Replies.{out_of, out_items, out_members, data_of, member_data}
use Rattle.synthetic_source.proofs.Printable.{IsPrintableNumber, names, IsPrintable, ArePrintable, MembersPrintable}
use Rattle.synthetic_source.proofs.PrintedTrees.{AreAbove, next_above, none_above, put_last, tail_rises, then_members, then_more, then_none}
use Rattle.synthetic_source.proofs.PrintedRows.{all_small_raw, norm_printable}

pub put_shown : (es fs : List Entry) (k : String Global) (name : List ℕ) (v : Value) → fs ≡ insert_entry string_cmp es k v → string_bytes k ≡ name → members_view fs ≡ put name (view v) (members_view es)
put_shown es fs k name v is named = ap members_view is ∙ (members_view-insert_entry es k v ∙ ap (λ s. put s (view v) (members_view es)) named)

data_list : (os : List Out) → data_of (list os) ≡ array (items_of (map data_of os))
data_list os = search (rules, the_lemmas)

data_object : (ms : List Member) → data_of (Object ms) ≡ object (members_onto (map member_data ms) no_members)
data_object ms = search (rules, the_lemmas)

data_member : (k : List ℕ) (o : Out) → member_data (tree.member k o) ≡ (k, data_of o)
data_member k o = search (rules, the_lemmas)

number_same : (n : Num) → IsPrintableNumber n → data_of (out_of (number n)) ≡ number n
number_same (unsigned n) h = natural n ∙ ap (λ b. cond b (number (unsigned n)) null) (lt-ltb n (2 ^ 64) h)
  where
    natural : (n : ℕ) → data_of (out_of (number (unsigned n))) ≡ cond (nat_lt n (2 ^ 64)) (number (unsigned n)) null
    natural n = search (rules, the_lemmas)
number_same (negative (pos n)) h = absurd h
number_same (negative (negsuc n)) h = below n ∙ ap (λ b. cond b (number (negative (negsuc n))) null) (lt-ltb n (2 ^ 63) h)
  where
    below : (n : ℕ) → data_of (out_of (number (negative (negsuc n)))) ≡ cond (nat_lt n (2 ^ 63)) (number (negative (negsuc n))) null
    below n = search (rules, the_lemmas)
number_same (float x) h = absurd h

mutual
  data_same : (d : Data) → IsPrintable d → data_of (out_of d) ≡ d
  data_same null h = search (rules, the_lemmas)
  data_same (boolean b) h = search (rules, the_lemmas)
  data_same (number n) h = number_same n h
  data_same (string s) h = search (rules, the_lemmas)
  data_same (array ds) h = data_list (out_items ds) ∙ ap array (items_same ds h)
  data_same (object ms) h = data_object (out_members ms) ∙ ap object (members_same ms no_members h.0 h.1 (none_above ms))

  items_same : (ds : Items) → ArePrintable ds → items_of (map data_of (out_items ds)) ≡ ds
  items_same no_items h = refl
  items_same (item d ds) h = ap₂ item (data_same d h.0) (items_same ds h.1)

  members_same : (ms found : Members) → Rise (names ms) → MembersPrintable ms → AreAbove ms found → members_onto (map member_data (out_members ms)) found ≡ then_members found ms
  members_same no_members found rise h above = sym (then_none no_members found refl)
  members_same (member k d ms) found rise h above =
      ap (λ e. members_onto (map member_data (out_members ms)) (put e.0 e.1 found)) (data_member k (out_of d) ∙ ap (λ x. (k, x)) (data_same d h.1))
      ∙ (ap (members_onto (map member_data (out_members ms))) (put_last k d found above)
      ∙ (members_same ms (then_members found (member k d no_members)) (tail_rises k ms rise) h.2 (next_above ms k d found rise above)
      ∙ then_more found k d ms))

-- the value of a raw row's reply tree is its normal form
pub row_value : (schema : Schema) (row : Row) (out : Out) (d : Data) → IsTemplateSchema schema → schema.folded ≡ false → Fits schema row → out ≡ out_of (norm schema row) → d ≡ data_of out → d ≡ norm schema row
row_value schema row out d template raw fits rebuilt is =
    let cells = subst (λ (b : Bool). CellsFit b schema.rises row.count schema.fields row.cells) raw fits.cells_fit in
    is ∙ (ap data_of rebuilt ∙ data_same (norm schema row) (norm_printable schema row template fits (all_small_raw schema.rises row.count schema.fields row.cells cells)))
