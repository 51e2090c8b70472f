-- The text of a reply is the text of its document, which is UTF-8.
use Rattle.std.proofs.Common.{◌≡◌, ℕ, pos, negsuc, List, [], ◌∷◌, ◌++◌, map, flat_map, Bool, true, false, refl, ap, ◌∙◌, append_assoc, rules}
use Rattle.std.specs.Str.{IsUtf8}
use Rattle.std.proofs.lemmas.Str.{IsUtf8-append, IsUtf8-from_ascii}
use Rattle.std.proofs.lemmas.Fmt.{IsAscii-decimal, IsAscii-signed}
use Rattle.json.specs.Print.{quoted}
use Rattle.json.proofs.Printed.Utf8.{IsUtf8-quoted, IsUtf8-are_ascii, IsUtf8-boolean}
use Rattle.reply_json.specs.Reply.{joined, text, member_text}
use Rattle.reply_json.specs.Trees as tree
use Rattle.reply_json.specs.declared.out.Member.{Member}
use Rattle.reply_json.specs.declared.out.Out.{Out, List as list, Object, the_lemmas}
use Rattle.serde_json.specs.Data.{Num, unsigned, negative, float, Data, null, boolean, number, string, array, object, Items, no_items, item, Members, no_members, member}
use Rattle.serde_json.specs.Written.{number_text, comma_if, compact_text, items_text, members_text}
use Rattle.synthetic_source.specs.Replies.{out_of, out_items, out_members}
use Rattle.synthetic_source.proofs.Printable.{IsPrintableNumber, IsPrintable, ArePrintable, MembersPrintable}

text_list : (os : List Out) → text (list os) ≡ 91 ∷ (joined (map text os) ++ 93 ∷ [])
text_list os = search (rules, the_lemmas)

text_object : (ms : List Member) → text (Object ms) ≡ 123 ∷ (joined (map member_text ms) ++ 125 ∷ [])
text_object ms = search (rules, the_lemmas)

text_member : (k : List ℕ) (o : Out) → member_text (tree.member k o) ≡ quoted k ++ 58 ∷ text o
text_member k o = search (rules, the_lemmas)

abbrev later_texts : List (List ℕ) → List ℕ
later_texts ts = flat_map (λ u. 44 ∷ u) ts

first_and_later : (a b b' c : List ℕ) → b ++ c ≡ b' → (a ++ b) ++ c ≡ a ++ b'
first_and_later a b b' c same = append_assoc a b c ∙ ap (λ s. a ++ s) same

one_member : (k : List ℕ) (d : Data) (rest : List ℕ) → text (out_of d) ≡ compact_text d → member_text (tree.member k (out_of d)) ++ rest ≡ quoted k ++ 58 ∷ (compact_text d ++ rest)
one_member k d rest same = ap (λ s. s ++ rest) (text_member k (out_of d)) ∙ (append_assoc (quoted k) (58 ∷ text (out_of d)) rest ∙ ap (λ s. quoted k ++ 58 ∷ (s ++ rest)) same)

mutual
  -- the text of a reply is that of its document
  pub text_same : (d : Data) → IsPrintable d → text (out_of d) ≡ compact_text d
  text_same null h = search (rules, the_lemmas)
  text_same (boolean true) h = search (rules, the_lemmas)
  text_same (boolean false) h = search (rules, the_lemmas)
  text_same (number (unsigned n)) h = search (rules, the_lemmas)
  text_same (number (negative z)) h = search (rules, the_lemmas)
  text_same (number (float x)) h = absurd h
  text_same (string s) h = search (rules, the_lemmas)
  text_same (array ds) h = text_list (out_items ds) ∙ ap (λ s. 91 ∷ s) (items_same ds h)
  text_same (object ms) h = text_object (out_members ms) ∙ ap (λ s. 123 ∷ s) (members_same ms h.1)

  items_same : (ds : Items) → ArePrintable ds → joined (map text (out_items ds)) ++ 93 ∷ [] ≡ items_text false ds
  items_same no_items h = refl
  items_same (item d ds) h = first_and_later (text (out_of d)) _ _ (93 ∷ []) (later_items ds h.1) ∙ ap (λ s. s ++ items_text true ds) (text_same d h.0)

  later_items : (ds : Items) → ArePrintable ds → later_texts (map text (out_items ds)) ++ 93 ∷ [] ≡ items_text true ds
  later_items no_items h = refl
  later_items (item d ds) h = ap (λ s. 44 ∷ s) (first_and_later (text (out_of d)) _ _ (93 ∷ []) (later_items ds h.1) ∙ ap (λ s. s ++ items_text true ds) (text_same d h.0))

  members_same : (ms : Members) → MembersPrintable ms → joined (map member_text (out_members ms)) ++ 125 ∷ [] ≡ members_text false ms
  members_same no_members h = refl
  members_same (member k d ms) h = first_and_later (member_text (tree.member k (out_of d))) _ _ (125 ∷ []) (later_members ms h.2) ∙ one_member k d (members_text true ms) (text_same d h.1)

  later_members : (ms : Members) → MembersPrintable ms → later_texts (map member_text (out_members ms)) ++ 125 ∷ [] ≡ members_text true ms
  later_members no_members h = refl
  later_members (member k d ms) h = ap (λ s. 44 ∷ s) (first_and_later (member_text (tree.member k (out_of d))) _ _ (125 ∷ []) (later_members ms h.2) ∙ one_member k d (members_text true ms) (text_same d h.1))

number_utf8 : (n : Num) → IsPrintableNumber n → IsUtf8 (number_text n)
number_utf8 (unsigned n) h = IsUtf8-from_ascii _ (IsAscii-decimal n h)
number_utf8 (negative (pos n)) h = absurd h
number_utf8 (negative (negsuc n)) h = IsUtf8-from_ascii _ (IsAscii-signed (negsuc n) h)
number_utf8 (float x) h = absurd h

-- a byte of ASCII in front
byte_then : (x : ℕ) (s : List ℕ) → IsUtf8 (x ∷ []) → IsUtf8 s → IsUtf8 (x ∷ s)
byte_then x s byte rest = IsUtf8-append (x ∷ []) s byte rest

comma_then : (later : Bool) (s : List ℕ) → IsUtf8 s → IsUtf8 (comma_if later ++ s)
comma_then true s h = byte_then 44 s (IsUtf8-are_ascii _ refl) h
comma_then false s h = h

mutual
  pub text_utf8 : (d : Data) → IsPrintable d → IsUtf8 (compact_text d)
  text_utf8 null h = IsUtf8-are_ascii _ refl
  text_utf8 (boolean b) h = IsUtf8-boolean b
  text_utf8 (number n) h = number_utf8 n h
  text_utf8 (string s) h = IsUtf8-quoted s h
  text_utf8 (array ds) h = byte_then 91 _ (IsUtf8-are_ascii _ refl) (items_utf8 false ds h)
  text_utf8 (object ms) h = byte_then 123 _ (IsUtf8-are_ascii _ refl) (members_utf8 false ms h.1)

  items_utf8 : (later : Bool) (ds : Items) → ArePrintable ds → IsUtf8 (items_text later ds)
  items_utf8 later no_items h = IsUtf8-are_ascii _ refl
  items_utf8 later (item d ds) h = comma_then later _ (IsUtf8-append _ _ (text_utf8 d h.0) (items_utf8 true ds h.1))

  members_utf8 : (later : Bool) (ms : Members) → MembersPrintable ms → IsUtf8 (members_text later ms)
  members_utf8 later no_members h = IsUtf8-are_ascii _ refl
  members_utf8 later (member k d ms) h = comma_then later _ (IsUtf8-append _ _ (IsUtf8-quoted k h.0) (byte_then 58 _ (IsUtf8-are_ascii _ refl) (IsUtf8-append _ _ (text_utf8 d h.1) (members_utf8 true ms h.2))))
