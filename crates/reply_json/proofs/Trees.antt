-- JSON values as texts: what is printed of one, and that it is read again.
use Rattle.std.proofs.Common.{◌≡◌, ◌≤◌, ℕ, max, ℤ, pos, negsuc, Bool, true, false, List, [], ◌∷◌, ◌++◌, Some, refl, sym, ap, subst, ◌∙◌, arith, append_assoc, append-nil}
use Rattle.std.specs.Fmt.{signed_decimal}
use Rattle.std.specs.Prelude.{◌<◌, ◌^◌}
use Rattle.std.specs.Str.{IsUtf8}
use Rattle.std.proofs.lemmas.Bool.Decides.{nat_tests}
use Rattle.std.proofs.lemmas.Fmt.{IsAscii-decimal, IsAscii-signed}
use Rattle.std.proofs.lemmas.Str.{IsUtf8-append, IsUtf8-from_ascii}
use Rattle.json.specs.Json.{Json, null, boolean, number, string, array, object, Items, no_items, item, Members, no_members, member, value}
use Rattle.json.specs.Lex.{tokens}
use Rattle.json.specs.Print.{quoted, print, print_from, token_text, IsNumber}
use Rattle.json.specs.Token.{Token}
use Rattle.json.specs.Token as token
use Rattle.json.specs.Tree.{json_tokens, items_tokens, members_tokens, depth, HasNumbers, ItemsHaveNumbers, MembersHaveNumbers}
use Rattle.json.proofs.Printed.Decimals.{IsNumber-decimal, IsNumber-signed_decimal}
use Rattle.json.proofs.Printed.Tokens.{tokens-print}
use Rattle.json.proofs.Printed.Trees.{value-json_tokens, ArePrintable-json_tokens}
use Rattle.json.proofs.Printed.Utf8.{IsUtf8-quoted, IsUtf8-are_ascii, IsUtf8-boolean}
use Rattle.reply_json.specs.Reading.{is_small}

abbrev pub comma_if : Bool → List ℕ
comma_if true = 44 ∷ []
comma_if false = []

-- the text of a value, without a space
abbrev mutual
  pub compact : Json → List ℕ
  compact null = token_text token.null
  compact (boolean b) = token_text (token.boolean b)
  compact (number s) = s
  compact (string s) = quoted s
  compact (array js) = 91 ∷ items_text false js
  compact (object ms) = 123 ∷ members_text false ms

  pub items_text : Bool → Items → List ℕ
  items_text later no_items = 93 ∷ []
  items_text later (item j js) = comma_if later ++ (compact j ++ items_text true js)

  pub members_text : Bool → Members → List ℕ
  members_text later no_members = 125 ∷ []
  members_text later (member k j ms) = comma_if later ++ (quoted k ++ (58 ∷ (compact j ++ members_text true ms)))

-- ---- the text of its tokens

regroup : (a b c d : List ℕ) → a ++ (b ++ (c ++ d)) ≡ (a ++ (b ++ c)) ++ d
regroup a b c d = sym (append_assoc a (b ++ c) d ∙ ap (λ s. a ++ s) (append_assoc b c d))

regroup_member : (k b c d : List ℕ) → (k ++ 58 ∷ []) ++ (b ++ (c ++ d)) ≡ (k ++ (58 ∷ (b ++ c))) ++ d
regroup_member k b c d = append_assoc k (58 ∷ []) (b ++ (c ++ d)) ∙ sym (append_assoc k (58 ∷ (b ++ c)) d ∙ ap (λ s. k ++ 58 ∷ s) (append_assoc b c d))

member_after : (k : List ℕ) (j : Json) (ms : Members) (ts : List Token) → print_from false (json_tokens j ++ (members_tokens ms ++ ts)) ≡ compact j ++ print_from true (members_tokens ms ++ ts)
    → print_from true (members_tokens ms ++ ts) ≡ members_text true ms ++ print_from true ts
    → (quoted k ++ 58 ∷ []) ++ print_from false ((json_tokens j ++ members_tokens ms) ++ ts) ≡ (quoted k ++ (58 ∷ (compact j ++ members_text true ms))) ++ print_from true ts
member_after k j ms ts one more =
    ap (λ us. (quoted k ++ 58 ∷ []) ++ print_from false us) (append_assoc (json_tokens j) (members_tokens ms) ts)
    ∙ (ap (λ s. (quoted k ++ 58 ∷ []) ++ s) (one ∙ ap (λ s. compact j ++ s) more) ∙ regroup_member (quoted k) (compact j) (members_text true ms) (print_from true ts))

mutual
  unfolding print_from

  print_value : (later : Bool) (j : Json) (ts : List Token) → print_from later (json_tokens j ++ ts) ≡ comma_if later ++ (compact j ++ print_from true ts)
  print_value true null ts = refl
  print_value false null ts = refl
  print_value true (boolean b) ts = refl
  print_value false (boolean b) ts = refl
  print_value true (number s) ts = refl
  print_value false (number s) ts = refl
  print_value true (string s) ts = refl
  print_value false (string s) ts = refl
  print_value true (array js) ts = ap (λ s. 44 ∷ 91 ∷ s) (print_items false js ts)
  print_value false (array js) ts = ap (λ s. 91 ∷ s) (print_items false js ts)
  print_value true (object ms) ts = ap (λ s. 44 ∷ 123 ∷ s) (print_members false ms ts)
  print_value false (object ms) ts = ap (λ s. 123 ∷ s) (print_members false ms ts)

  print_items : (later : Bool) (js : Items) (ts : List Token) → print_from later (items_tokens js ++ ts) ≡ items_text later js ++ print_from true ts
  print_items true no_items ts = refl
  print_items false no_items ts = refl
  print_items later (item j js) ts =
      ap (print_from later) (append_assoc (json_tokens j) (items_tokens js) ts) ∙ print_value later j (items_tokens js ++ ts)
      ∙ ap (λ s. comma_if later ++ (compact j ++ s)) (print_items true js ts) ∙ regroup (comma_if later) (compact j) (items_text true js) (print_from true ts)

  print_members : (later : Bool) (ms : Members) (ts : List Token) → print_from later (members_tokens ms ++ ts) ≡ members_text later ms ++ print_from true ts
  print_members true no_members ts = refl
  print_members false no_members ts = refl
  print_members true (member k j ms) ts = ap (λ s. 44 ∷ s) (member_after k j ms ts (print_value false j (members_tokens ms ++ ts)) (print_members true ms ts))
  print_members false (member k j ms) ts = member_after k j ms ts (print_value false j (members_tokens ms ++ ts)) (print_members true ms ts)

pub print_compact : (j : Json) → print (json_tokens j) ≡ compact j
unfolding print_from
print_compact j = ap print (sym (append-nil (json_tokens j))) ∙ print_value false j [] ∙ append-nil (compact j)

-- ---- values with whole numbers of 64 bits and texts of UTF-8

abbrev pub IsWhole : List ℕ → Type 0
IsWhole s = (z : ℤ) × (is_small z ≡ true) × (s ≡ signed_decimal z)

abbrev mutual
  pub IsFine : Json → Type 0
  IsFine null = Unit {0}
  IsFine (boolean b) = Unit {0}
  IsFine (number s) = IsWhole s
  IsFine (string s) = IsUtf8 s
  IsFine (array js) = AreFine js
  IsFine (object ms) = MembersFine ms

  pub AreFine : Items → Type 0
  AreFine no_items = Unit {0}
  AreFine (item j js) = IsFine j × AreFine js

  pub MembersFine : Members → Type 0
  MembersFine no_members = Unit {0}
  MembersFine (member k j ms) = IsUtf8 k × IsFine j × MembersFine ms

pub small_natural : (n : ℕ) → is_small (pos n) ≡ true → n < 2 ^ 64
small_natural n is = grind (arith, nat_tests)

pub small_negative : (n : ℕ) → is_small (negsuc n) ≡ true → n < 2 ^ 63
small_negative n is = grind (arith, nat_tests)

negative_number : (n : ℕ) → n < 2 ^ 63 → IsNumber (signed_decimal (negsuc n))
negative_number n h = IsNumber-signed_decimal (negsuc n) h

whole_number : (z : ℤ) → is_small z ≡ true → IsNumber (signed_decimal z)
whole_number (pos n) is = IsNumber-decimal n (small_natural n is)
whole_number (negsuc n) is = negative_number n (small_negative n is)

whole_utf8 : (z : ℤ) → is_small z ≡ true → IsUtf8 (signed_decimal z)
whole_utf8 (pos n) is = IsUtf8-from_ascii _ (IsAscii-decimal n (small_natural n is))
whole_utf8 (negsuc n) is = IsUtf8-from_ascii _ (IsAscii-signed (negsuc n) (small_negative n is))

mutual
  has_numbers : (j : Json) → IsFine j → HasNumbers j
  has_numbers null h = tt
  has_numbers (boolean b) h = tt
  has_numbers (number s) h = subst IsNumber (sym h.2) (whole_number h.0 h.1)
  has_numbers (string s) h = tt
  has_numbers (array js) h = items_numbers js h
  has_numbers (object ms) h = members_numbers ms h

  items_numbers : (js : Items) → AreFine js → ItemsHaveNumbers js
  items_numbers no_items h = tt
  items_numbers (item j js) h = (has_numbers j h.0, items_numbers js h.1)

  members_numbers : (ms : Members) → MembersFine ms → MembersHaveNumbers ms
  members_numbers no_members h = tt
  members_numbers (member k j ms) h = (has_numbers j h.1, members_numbers ms h.2)

byte_then : (x : ℕ) (s : List ℕ) → IsUtf8 (x ∷ []) → IsUtf8 s → IsUtf8 (x ∷ s)
byte_then x s byte rest = IsUtf8-append (x ∷ []) s byte rest

comma_then : (later : Bool) (s : List ℕ) → IsUtf8 s → IsUtf8 (comma_if later ++ s)
comma_then true s h = byte_then 44 s (IsUtf8-are_ascii _ refl) h
comma_then false s h = h

mutual
  pub compact_utf8 : (j : Json) → IsFine j → IsUtf8 (compact j)
  compact_utf8 null h = IsUtf8-are_ascii _ refl
  compact_utf8 (boolean b) h = IsUtf8-boolean b
  compact_utf8 (number s) h = subst IsUtf8 (sym h.2) (whole_utf8 h.0 h.1)
  compact_utf8 (string s) h = IsUtf8-quoted s h
  compact_utf8 (array js) h = byte_then 91 _ (IsUtf8-are_ascii _ refl) (items_utf8 false js h)
  compact_utf8 (object ms) h = byte_then 123 _ (IsUtf8-are_ascii _ refl) (members_utf8 false ms h)

  items_utf8 : (later : Bool) (js : Items) → AreFine js → IsUtf8 (items_text later js)
  items_utf8 later no_items h = IsUtf8-are_ascii _ refl
  items_utf8 later (item j js) h = comma_then later _ (IsUtf8-append _ _ (compact_utf8 j h.0) (items_utf8 true js h.1))

  members_utf8 : (later : Bool) (ms : Members) → MembersFine ms → IsUtf8 (members_text later ms)
  members_utf8 later no_members h = IsUtf8-are_ascii _ refl
  members_utf8 later (member k j ms) h =
      comma_then later _ (IsUtf8-append _ _ (IsUtf8-quoted k h.0) (byte_then 58 _ (IsUtf8-are_ascii _ refl) (IsUtf8-append _ _ (compact_utf8 j h.1) (members_utf8 true ms h.2))))

-- ---- and back

pub tokens_read : (j : Json) → IsFine j → tokens (compact j) ≡ json_tokens j
tokens_read j h = ap tokens (sym (print_compact j)) ∙ tokens-print (json_tokens j) (ArePrintable-json_tokens j (has_numbers j h))

pub value_read : (d : ℕ) (j : Json) → IsFine j → depth j ≤ d → value d (tokens (compact j)) ≡ Some (j, [])
value_read d j h shallow = ap (value d) (tokens_read j h ∙ sym (append-nil (json_tokens j))) ∙ value-json_tokens j d [] shallow

-- a text is that of one value
pub one_value : (i j : Json) → IsFine i → IsFine j → compact i ≡ compact j → i ≡ j
one_value i j h k same =
    let d = max (depth i) (depth j) in
    let first : value d (tokens (compact i)) ≡ Some (i, []) = value_read d i h (omega arith) in
    let second : value d (tokens (compact j)) ≡ Some (j, []) = value_read d j k (omega arith) in
    let both : value d (tokens (compact i)) ≡ value d (tokens (compact j)) = ap (λ s. value d (tokens s)) same in
    let pairs : (i, []) ≡ (j, []) = some_is (sym first ∙ both ∙ second) in
    ap (λ p. p.0) pairs
  where
    some_is : {p q : Json × List Token} → Some p ≡ Some q → p ≡ q
    some_is e = cc
