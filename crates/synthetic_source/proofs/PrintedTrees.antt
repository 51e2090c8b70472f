-- The text of a document reads back as the document.
use Rattle.std.proofs.Common.{◌≡◌, ◌≤◌, ℕ, suc, max, pos, negsuc, List, [], Option, Some, option_map, option_and_then, refl, sym, ap, ap₂, ◌∙◌, arith, append-nil}
use Rattle.std.specs.Ordering.{match_ordering}
use Rattle.json.specs.Token.{Token}
use Rattle.json.specs.Lex.{tokens}
use Rattle.json.specs.Print.{IsNumber}
use Rattle.json.specs.Json as json
use Rattle.json.specs.Tree as tree
use Rattle.json.proofs.Printed.Decimals.{IsNumber-decimal, IsNumber-signed_decimal}
use Rattle.json.proofs.Printed.Tokens.{tokens-print}
use Rattle.json.proofs.Printed.Trees.{value-json_tokens, ArePrintable-json_tokens}
use Rattle.serde_json.specs.Data.{Num, unsigned, negative, float, Data, null, boolean, number, string, array, object, Items, no_items, item, Members, no_members, member, put, depth, items_depth, members_depth}
use Rattle.serde_json.specs.Read.{number_of, of_json, of_items, of_members, read}
use Rattle.serde_json.specs.Written.{number_text, outline, items_outline, members_outline, compact_text}
use Rattle.serde_json.proofs.Numbers.{number_of-decimal, number_of-negative}
use Rattle.serde_json.proofs.Texts.{print-outline}
use Rattle.json_walk.specs.Tree.{tree_of}
use Rattle.json_walk.specs.TreeLaws.{tree_at_utf8}
use Rattle.reply_json.specs.Reply.{text}
use Rattle.row_cells.specs.Dimensions.{IsBefore}
use Rattle.row_cells.specs.JoinLaws.{before_chain, after_is}
use Rattle.synthetic_source.specs.Places.{RiseAfter, Rise}
use Rattle.synthetic_source.specs.Replies.{out_of}
use Rattle.synthetic_source.proofs.Printable.{IsPrintableNumber, names, IsPrintable, ArePrintable, MembersPrintable}
use Rattle.synthetic_source.proofs.PrintedTexts.{text_same, text_utf8}

-- ---- the outline of a document

number_is : (n : Num) → IsPrintableNumber n → IsNumber (number_text n)
number_is (unsigned n) h = IsNumber-decimal n h
number_is (negative (pos n)) h = absurd h
number_is (negative (negsuc n)) h = IsNumber-signed_decimal (negsuc n) h
number_is (float x) h = absurd h

number_read : (n : Num) → IsPrintableNumber n → number_of (number_text n) ≡ Some n
number_read (unsigned n) h = number_of-decimal n h
number_read (negative (pos n)) h = absurd h
number_read (negative (negsuc n)) h = number_of-negative n h
number_read (float x) h = absurd h

mutual
  has_numbers : (d : Data) → IsPrintable d → tree.HasNumbers (outline d)
  has_numbers null h = tt
  has_numbers (boolean b) h = tt
  has_numbers (number n) h = number_is n h
  has_numbers (string s) h = tt
  has_numbers (array ds) h = items_have_numbers ds h
  has_numbers (object ms) h = members_have_numbers ms h.1

  items_have_numbers : (ds : Items) → ArePrintable ds → tree.ItemsHaveNumbers (items_outline ds)
  items_have_numbers no_items h = tt
  items_have_numbers (item d ds) h = (has_numbers d h.0, items_have_numbers ds h.1)

  members_have_numbers : (ms : Members) → MembersPrintable ms → tree.MembersHaveNumbers (members_outline ms)
  members_have_numbers no_members h = tt
  members_have_numbers (member k d ms) h = (has_numbers d h.1, members_have_numbers ms h.2)

mutual
  outline_depth : (d : Data) → tree.depth (outline d) ≡ depth d
  outline_depth null = refl
  outline_depth (boolean b) = refl
  outline_depth (number n) = refl
  outline_depth (string s) = refl
  outline_depth (array ds) = ap suc (items_outline_depth ds)
  outline_depth (object ms) = ap suc (members_outline_depth ms)

  items_outline_depth : (ds : Items) → tree.items_depth (items_outline ds) ≡ items_depth ds
  items_outline_depth no_items = refl
  items_outline_depth (item d ds) = ap₂ max (outline_depth d) (items_outline_depth ds)

  members_outline_depth : (ms : Members) → tree.members_depth (members_outline ms) ≡ members_depth ms
  members_outline_depth no_members = refl
  members_outline_depth (member k d ms) = ap₂ max (outline_depth d) (members_outline_depth ms)

-- ---- members that ascend go in one after another

abbrev pub then_members : Members → Members → Members
then_members no_members ms = ms
then_members (member k d rest) ms = member k d (then_members rest ms)

-- the name is after all of these
abbrev pub IsAbove : List ℕ → Members → Type 0
IsAbove k no_members = Unit {0}
IsAbove k (member l d ms) = IsBefore l k × IsAbove k ms

pub put_last : (k : List ℕ) (d : Data) (found : Members) → IsAbove k found → put k d found ≡ then_members found (member k d no_members)
put_last k d no_members above = refl
put_last k d (member l e ms) above =
    ap (λ o. match_ordering o (member k d (member l e ms)) (member l d ms) (member l e (put k d ms))) (after_is l k above.0) ∙ ap (member l e) (put_last k d ms above.1)

pub then_more : (found : Members) (k : List ℕ) (d : Data) (ms : Members) → then_members (then_members found (member k d no_members)) ms ≡ then_members found (member k d ms)
then_more no_members k d ms = refl
then_more (member l e rest) k d ms = ap (member l e) (then_more rest k d ms)

above_more : (found : Members) (k l : List ℕ) (d : Data) → IsAbove k found → IsBefore k l → IsAbove l (then_members found (member k d no_members))
above_more no_members k l d above before = (before, tt)
above_more (member m e rest) k l d above before = (before_chain m k l above.0 before, above_more rest k l d above.1 before)

-- the first of these names is after all that were found
abbrev pub AreAbove : Members → Members → Type 0
AreAbove no_members found = Unit {0}
AreAbove (member k d ms) found = IsAbove k found

pub next_above : (ms : Members) (k : List ℕ) (d : Data) (found : Members) → RiseAfter k (names ms) → IsAbove k found → AreAbove ms (then_members found (member k d no_members))
next_above no_members k d found rise above = tt
next_above (member l e ms) k d found rise above = above_more found k l d above rise.0

pub tail_rises : (k : List ℕ) (ms : Members) → RiseAfter k (names ms) → Rise (names ms)
tail_rises k no_members rise = tt
tail_rises k (member l e ms) rise = rise.1

pub then_none : (ms : Members) (found : Members) → ms ≡ no_members → then_members found ms ≡ found
then_none ms no_members none = none
then_none ms (member k d rest) none = ap (member k d) (then_none ms rest none)

pub none_above : (ms : Members) → AreAbove ms no_members
none_above no_members = tt
none_above (member k d ms) = tt

mutual
  outline_read : (d : Data) → IsPrintable d → of_json (outline d) ≡ Some d
  outline_read null h = refl
  outline_read (boolean b) h = refl
  outline_read (number n) h = ap (option_map number) (number_read n h)
  outline_read (string s) h = refl
  outline_read (array ds) h = ap (option_map array) (items_read ds h)
  outline_read (object ms) h = ap (option_map object) (members_read ms no_members h.0 h.1 (none_above ms))

  items_read : (ds : Items) → ArePrintable ds → of_items (items_outline ds) ≡ Some ds
  items_read no_items h = refl
  items_read (item d ds) h = ap (option_and_then (λ e. option_map (item e) (of_items (items_outline ds)))) (outline_read d h.0) ∙ ap (option_map (item d)) (items_read ds h.1)

  members_read : (ms found : Members) → Rise (names ms) → MembersPrintable ms → AreAbove ms found → of_members (members_outline ms) found ≡ Some (then_members found ms)
  members_read no_members found rise h above = ap Some (sym (then_none no_members found refl))
  members_read (member k d ms) found rise h above =
      ap (option_and_then (λ e. of_members (members_outline ms) (put k e found))) (outline_read d h.1)
      ∙ (ap (of_members (members_outline ms)) (put_last k d found above)
      ∙ (members_read ms (then_members found (member k d no_members)) (tail_rises k ms rise) h.2 (next_above ms k d found rise above)
      ∙ ap Some (then_more found k d ms)))

-- ---- the text

abbrev whole : Option (json.Json × List Token) → Option Data
whole o = option_and_then of_json (option_and_then (λ p. json.if_last p.0 p.1) o)

text_read : (d : Data) → IsPrintable d → depth d ≤ 127 → read (compact_text d) ≡ Some d
text_read d h shallow =
    let j = outline d in
    let lexed : tokens (compact_text d) ≡ tree.json_tokens j = ap tokens (sym (print-outline d)) ∙ tokens-print (tree.json_tokens j) (ArePrintable-json_tokens j (has_numbers d h)) in
    ap whole (ap (json.value 127) (lexed ∙ sym (append-nil (tree.json_tokens j))) ∙ value-json_tokens j 127 [] (omega (arith, outline_depth d))) ∙ outline_read d h

-- what is printed of a document is read as that document
pub printed_read : (d : Data) → IsPrintable d → depth d ≤ 127 → tree_of (text (out_of d)) ≡ Some d
printed_read d h shallow = ap tree_of (text_same d h) ∙ (tree_at_utf8 (compact_text d) (text_utf8 d h) ∙ text_read d h shallow)
