-- An object without members, told by its bytes.
use Rattle.std.proofs.Common.{◌≡◌, ◌==◌, ◌&&◌, ◌||◌, ℕ, suc, Bool, true, false, cond, List, [], ◌∷◌, length, Option, Some, None, refl, sym, ap, ap₂, ◌∙◌, subst}
use Rattle.std.specs.Prelude.{nat_lt, option_and_then, option_map}
use Rattle.std.specs.Ordering.{nat_cmp, match_ordering}
use Rattle.std.specs.Cmp.Lexicographic.{slice_cmp}
use Rattle.std.specs.declared.cmp.Ordering.{Ordering}
use Rattle.std.specs.declared.cmp.Ordering.TheVariants.{Less, Equal, Greater}
use Rattle.std.specs.Str.{is_utf8}
use Rattle.std.specs.Cmp.Derive.{both_true}
use Rattle.std.proofs.lemmas.Bool.{and_parts, both_ways, eqb-true}
use Rattle.std.proofs.lemmas.Str.{is_utf8-from_IsUtf8}
use Rattle.json.proofs.Printed.Utf8.{IsUtf8-are_ascii, are_ascii}
use Rattle.json.specs.Ascii as ascii
use Rattle.json.specs.Json as json
use Rattle.json.specs.Lex.{Lexeme, token, comma, colon, Class, quote, backslash, operator, space, other, between, in_string, in_word, class, lex, lex_byte, operator_lexeme, punctuate, fresh, after_value, after_comma, Place, after_key, begins_colon, if_allowed, may_begin, may_close, place_token, string_token, tokens}
use Rattle.json.specs.Text.{content, plain}
use Rattle.json.specs.Token.{Token}
use Rattle.json.specs.Word.{after_number, ends_word, head, literal, number_before, word}
use Rattle.json.specs.Word as words
use Rattle.serde_json.specs.Data.{Data, number, array, object, Items, Members, no_members, member, put, Num}
use Rattle.serde_json.specs.Read.{number_of, of_items, of_json, of_members, read}
use Rattle.json_walk.specs.Shapes.{is_object}
use Rattle.json_walk.specs.Tree.{tree_of}
use Rattle.bulk_json.specs.Lines.{is_blank, is_space}
use Rattle.rest_request.specs.Body.{has_no_members, is_nothing, object_of, tree_if_object}
use Rattle.rest_request.specs.Bytes.{behind_spaces, is_close, is_none_or_braces}

-- ---- tokens

abbrev are_none : List Token → Bool
are_none [] = true
are_none (t ∷ ts) = false

-- a closing brace, and nothing behind it
abbrev closes : List Token → Bool
closes (Token.end_object ∷ ts) = are_none ts
closes ts = false

-- the two braces alone
abbrev are_braces : List Token → Bool
are_braces (Token.begin_object ∷ ts) = closes ts
are_braces ts = false

-- ---- what tokens are read as

abbrev empties : Option Data → Bool
empties o = has_no_members (option_and_then tree_if_object o)

abbrev lasts : Option (json.Json × List Token) → Option Data
lasts o = option_and_then of_json (option_and_then (λ p. json.if_last p.0 p.1) o)

no_object : (d : Data) → is_object d ≡ false → empties (Some d) ≡ false
no_object d is = ap (λ b. has_no_members (cond b (Some d) None)) is

number_empties : (s : List ℕ) → empties (of_json (json.number s)) ≡ false
number_empties s = go (number_of s)
  where
    go : (o : Option Num) → empties (option_map number o) ≡ false
    go None = refl
    go (Some n) = refl

array_empties : (js : json.Items) → empties (of_json (json.array js)) ≡ false
array_empties js = go (of_items js)
  where
    go : (o : Option Items) → empties (option_map array o) ≡ false
    go None = refl
    go (Some ds) = refl

single : (j : json.Json) (ts : List Token) → empties (of_json j) ≡ false → empties (lasts (Some (j, ts))) ≡ false
single j [] is = is
single j (t ∷ ts) is = refl

arrays : (o : Option (json.Items × List Token)) → empties (lasts (json.parse_map json.array o)) ≡ false
arrays None = refl
arrays (Some p) = single (json.array p.0) p.1 (array_empties p.0)

-- members that are read behind others aren't none
abbrev has_some : Members → Bool
has_some no_members = false
has_some (member k d ms) = true

put_some : (k : List ℕ) (d : Data) (ms : Members) → has_some (put k d ms) ≡ true
put_some k d no_members = refl
put_some k d (member l e ms) = go (slice_cmp nat_cmp k l)
  where
    go : (o : Ordering) → has_some (match_ordering o (member k d (member l e ms)) (member l d ms) (member l e (put k d ms))) ≡ true
    go Less = refl
    go Equal = refl
    go Greater = refl

some_empties : (ms : Members) → has_some ms ≡ true → empties (Some (object ms)) ≡ false
some_empties no_members is = cc
some_empties (member k d ms) is = refl

more_empties : (js : json.Members) (found : Members) → has_some found ≡ true → empties (option_map object (of_members js found)) ≡ false
more_empties json.no_members found is = some_empties found is
more_empties (json.member k j js) found is = go (of_json j) (λ d. more_empties js (put k d found) (put_some k d found))
  where
    go : (o : Option Data) → ((d : Data) → empties (option_map object (of_members js (put k d found))) ≡ false) → empties (option_map object (option_and_then (λ d. of_members js (put k d found)) o)) ≡ false
    go None later = refl
    go (Some d) later = later d

member_empties : (k : List ℕ) (j : json.Json) (js : json.Members) → empties (of_json (json.object (json.member k j js))) ≡ false
member_empties k j js = go (of_json j)
  where
    go : (o : Option Data) → empties (option_map object (option_and_then (λ d. of_members js (put k d no_members)) o)) ≡ false
    go None = refl
    go (Some d) = more_empties js (put k d no_members) (put_some k d no_members)

-- a first member, and what more there is
members_left : (k : List ℕ) (j : json.Json) (o : Option (json.Members × List Token)) → empties (lasts (json.parse_map json.object (json.parse_map (json.member k j) o))) ≡ false
members_left k j None = refl
members_left k j (Some p) = single (json.object (json.member k j p.0)) p.1 (member_empties k j p.0)

first_member : (k : List ℕ) (more : List Token → Option (json.Members × List Token)) (o : Option (json.Json × List Token)) → empties (lasts (json.parse_map json.object (option_and_then (λ p. json.parse_map (json.member k p.0) (more p.1)) o))) ≡ false
first_member k more None = refl
first_member k more (Some p) = members_left k p.0 (more p.1)

closed_empties : (ts : List Token) → empties (lasts (Some (json.object json.no_members, ts))) ≡ are_none ts
closed_empties [] = refl
closed_empties (t ∷ ts) = refl

members_empties : (value : json.Parse json.Json) (ts : List Token) → empties (lasts (json.parse_map json.object (json.members value (length ts) ts))) ≡ closes ts
unfolding json.members
members_empties value [] = refl
members_empties value (Token.begin_object ∷ ts) = refl
members_empties value (Token.end_object ∷ ts) = closed_empties ts
members_empties value (Token.begin_array ∷ ts) = refl
members_empties value (Token.end_array ∷ ts) = refl
members_empties value (Token.key k ∷ ts) = first_member k (json.members value (length ts)) (value ts)
members_empties value (Token.string s ∷ ts) = refl
members_empties value (Token.number s ∷ ts) = refl
members_empties value (Token.boolean b ∷ ts) = refl
members_empties value (Token.null ∷ ts) = refl
members_empties value (Token.bad ∷ ts) = refl

tokens_empties : (depth : ℕ) (ts : List Token) → empties (lasts (json.value (suc depth) ts)) ≡ are_braces ts
unfolding json.value
tokens_empties depth [] = refl
tokens_empties depth (Token.begin_object ∷ ts) = members_empties (json.value depth) ts
tokens_empties depth (Token.end_object ∷ ts) = refl
tokens_empties depth (Token.begin_array ∷ ts) = arrays (json.items (json.value depth) (length ts) ts)
tokens_empties depth (Token.end_array ∷ ts) = refl
tokens_empties depth (Token.key s ∷ ts) = refl
tokens_empties depth (Token.string s ∷ ts) = single (json.string s) ts refl
tokens_empties depth (Token.number s ∷ ts) = single (json.number s) ts (number_empties s)
tokens_empties depth (Token.boolean b ∷ ts) = single (json.boolean b) ts refl
tokens_empties depth (Token.null ∷ ts) = single json.null ts refl
tokens_empties depth (Token.bad ∷ ts) = refl

read_empties : (text : List ℕ) → empties (read text) ≡ are_braces (tokens text)
read_empties text = tokens_empties 126 (tokens text)

-- ---- white space

by_space : (P : ℕ → Type 0) → P 32 → P 9 → P 10 → P 13 → (b : ℕ) → is_space b ≡ true → P b
by_space P blank tab line carriage b is = go (b == 32) refl (b == 9) refl (b == 10) refl is
  where
    at : (c : ℕ) → (b == c) ≡ true → P c → P b
    at c same of = subst P (sym (eqb-true b c same)) of

    go : (v : Bool) → (b == 32) ≡ v → (w : Bool) → (b == 9) ≡ w → (x : Bool) → (b == 10) ≡ x → (v || w || x || (b == 13)) ≡ true → P b
    go true e w f x g is = at 32 e blank
    go false e true f x g is = at 9 f tab
    go false e false f true g is = at 10 g line
    go false e false f false g is = at 13 is carriage

space_class : (b : ℕ) → is_space b ≡ true → class b ≡ space
space_class = by_space (λ b. class b ≡ space) refl refl refl refl

after_space : (b : ℕ) (s : List ℕ) → is_space b ≡ true → lex between (b ∷ s) ≡ lex between s
unfolding lex
after_space b s is = ap (λ c. lex_byte between c b s (λ next. lex next s)) (space_class b is)

lex_behind : (s : List ℕ) → lex between s ≡ lex between (behind_spaces s)
lex_behind [] = refl
lex_behind (b ∷ s) = go (is_space b) refl (lex_behind s)
  where
    go : (v : Bool) → is_space b ≡ v → lex between s ≡ lex between (behind_spaces s) → lex between (b ∷ s) ≡ lex between (cond v (behind_spaces s) (b ∷ s))
    go true is later = after_space b s is ∙ later
    go false is later = refl

-- ---- the first lexeme

abbrev is_no_lexeme : List Lexeme → Bool
is_no_lexeme [] = true
is_no_lexeme (l ∷ ls) = false

-- another byte than white space begins a lexeme
abbrev IsSpaceClass : ℕ → Class → Type 0
IsSpaceClass b quote = Unit {0}
IsSpaceClass b backslash = Unit {0}
IsSpaceClass b operator = Unit {0}
IsSpaceClass b space = is_space b ≡ true
IsSpaceClass b other = Unit {0}

json_space : (b : ℕ) → words.is_space b ≡ true → is_space b ≡ true
json_space b is = is

of_class : (b : ℕ) → IsSpaceClass b (class b)
of_class b = go (b == 34) (b == 92) (words.is_operator b) (words.is_space b) refl
  where
    go : (p q r v : Bool) → words.is_space b ≡ v → IsSpaceClass b (cond p quote (cond q backslash (cond r operator (cond v space other))))
    go true q r v is = tt
    go false true r v is = tt
    go false false true v is = tt
    go false false false true is = json_space b is
    go false false false false is = tt

begins_one : (b : ℕ) (s : List ℕ) → is_space b ≡ false → is_no_lexeme (lex between (b ∷ s)) ≡ false
unfolding lex
begins_one b s none = go (class b) refl (of_class b)
  where
    at : (c : Class) → class b ≡ c → is_no_lexeme (lex between (b ∷ s)) ≡ is_no_lexeme (lex_byte between c b s (λ next. lex next s))
    at c is = ap (λ c. is_no_lexeme (lex_byte between c b s (λ next. lex next s))) is

    go : (c : Class) → class b ≡ c → IsSpaceClass b c → is_no_lexeme (lex between (b ∷ s)) ≡ false
    go quote is known = at quote is
    go backslash is known = at backslash is
    go operator is known = at operator is
    go space is known = absurd (both_ways (is_space b) none known)
    go other is known = at other is

lex_none : (s : List ℕ) → is_no_lexeme (lex between s) ≡ is_blank s
unfolding lex
lex_none [] = refl
lex_none (b ∷ s) = go (is_space b) refl (lex_none s)
  where
    go : (v : Bool) → is_space b ≡ v → is_no_lexeme (lex between s) ≡ is_blank s → is_no_lexeme (lex between (b ∷ s)) ≡ (v && is_blank s)
    go true is later = ap is_no_lexeme (after_space b s is) ∙ later
    go false is later = begins_one b s is

-- ---- the two braces

allowed : (v : Bool) (t : Token) (k : Place → List Token) (next : Place) → are_none (if_allowed v t k next) ≡ false
allowed true t k next = refl
allowed false t k next = refl

placed : (p : Place) (t : Token) (c : Bool) (k : Place → List Token) → are_none (place_token p t c k) ≡ false
placed p Token.begin_object c k = allowed (may_begin p) Token.begin_object k fresh
placed p Token.end_object c k = allowed (may_close p) Token.end_object k after_value
placed p Token.begin_array c k = allowed (may_begin p) Token.begin_array k fresh
placed p Token.end_array c k = allowed (may_close p) Token.end_array k after_value
placed p (Token.key s) c k = refl
placed p (Token.string s) true k = allowed (may_begin p) (Token.key s) k after_key
placed p (Token.string s) false k = allowed (may_begin p) (Token.string s) k after_value
placed p (Token.number s) c k = allowed (may_begin p) (Token.number s) k after_value
placed p (Token.boolean b) c k = allowed (may_begin p) (Token.boolean b) k after_value
placed p Token.null c k = allowed (may_begin p) Token.null k after_value
placed p Token.bad c k = refl

-- tokens behind a value are none where there are no lexemes
none_behind : (ls : List Lexeme) → are_none (punctuate after_value ls) ≡ is_no_lexeme ls
unfolding punctuate
none_behind [] = refl
none_behind (token t ∷ ls) = placed after_value t (begins_colon ls) (λ next. punctuate next ls)
none_behind (comma ∷ []) = refl
none_behind (comma ∷ token t ∷ ls) = placed after_comma t (begins_colon ls) (λ next. punctuate next ls)
none_behind (comma ∷ comma ∷ ls) = refl
none_behind (comma ∷ colon ∷ ls) = refl
none_behind (colon ∷ ls) = refl

closing_brace : (ls : List Lexeme) → closes (punctuate fresh (token Token.end_object ∷ ls)) ≡ is_no_lexeme ls
unfolding punctuate
closing_brace ls = none_behind ls

-- a lexeme that is no brace
abbrev IsNoBrace : Lexeme → Type 0
IsNoBrace l = (ls : List Lexeme) → (closes (punctuate fresh (l ∷ ls)) ≡ false) × (are_braces (punctuate fresh (l ∷ ls)) ≡ false)

plain_no_brace : IsNoBrace (token Token.begin_array) × IsNoBrace (token Token.end_array) × IsNoBrace (token Token.bad) × IsNoBrace (token Token.null) × IsNoBrace comma × IsNoBrace colon
unfolding punctuate
plain_no_brace = (λ ls. (refl, refl), λ ls. (refl, refl), λ ls. (refl, refl), λ ls. (refl, refl), λ ls. (refl, refl), λ ls. (refl, refl))

bad_no_brace : IsNoBrace (token Token.bad)
bad_no_brace = plain_no_brace.2

boolean_no_brace : (b : Bool) → IsNoBrace (token (Token.boolean b))
unfolding punctuate
boolean_no_brace b = λ ls. (refl, refl)

string_no_brace : (o : Option (List ℕ)) → IsNoBrace (token (string_token o))
unfolding punctuate
string_no_brace None = λ ls. (refl, refl)
string_no_brace (Some s) = λ ls. go (begins_colon ls) ls
  where
    go : (c : Bool) (ls : List Lexeme) → (closes (place_token fresh (Token.string s) c (λ next. punctuate next ls)) ≡ false) × (are_braces (place_token fresh (Token.string s) c (λ next. punctuate next ls)) ≡ false)
    go true ls = (refl, refl)
    go false ls = (refl, refl)

literal_no_brace : (v : Bool) (t : Token) → IsNoBrace (token t) → IsNoBrace (token (cond v t Token.bad))
literal_no_brace true t is = is
literal_no_brace false t is = bad_no_brace

number_no_brace : (t : List ℕ) (o : Option (List ℕ)) → IsNoBrace (token (number_before t o))
unfolding punctuate
number_no_brace t None = bad_no_brace
number_no_brace t (Some rest) = literal_no_brace (ends_word rest) (Token.number _) (λ ls. (refl, refl))

word_no_brace : (t : List ℕ) → IsNoBrace (token (word t))
unfolding word
word_no_brace t = go (head t == 116) (head t == 102) (head t == 110)
  where
    go : (p q r : Bool) → IsNoBrace (token (cond p (literal ascii.true_text (Token.boolean true) t) (cond q (literal ascii.false_text (Token.boolean false) t) (cond r (literal ascii.null_text Token.null t) (number_before t (after_number t))))))
    go true q r = literal_no_brace _ (Token.boolean true) (boolean_no_brace true)
    go false true r = literal_no_brace _ (Token.boolean false) (boolean_no_brace false)
    go false false true = literal_no_brace _ Token.null plain_no_brace.3
    go false false false = number_no_brace t (after_number t)

-- a byte that is neither brace begins no brace
other_byte : (b : ℕ) (s : List ℕ) → is_space b ≡ false → (b == 123) ≡ false → (b == 125) ≡ false → (closes (punctuate fresh (lex between (b ∷ s))) ≡ false) × (are_braces (punctuate fresh (lex between (b ∷ s))) ≡ false)
unfolding lex
other_byte b s none left right = go (class b) refl (of_class b)
  where
    by : (l : Lexeme) (ls : List Lexeme) → lex between (b ∷ s) ≡ l ∷ ls → IsNoBrace l → (closes (punctuate fresh (lex between (b ∷ s))) ≡ false) × (are_braces (punctuate fresh (lex between (b ∷ s))) ≡ false)
    by l ls is no_brace = subst (λ all. (closes (punctuate fresh all) ≡ false) × (are_braces (punctuate fresh all) ≡ false)) (sym is) (no_brace ls)

    other_operator : (p q r : Bool) → IsNoBrace (cond p (token Token.begin_array) (cond q (token Token.end_array) (cond r comma colon)))
    other_operator true q r = plain_no_brace.0
    other_operator false true r = plain_no_brace.1
    other_operator false false true = plain_no_brace.4
    other_operator false false false = plain_no_brace.5

    operators : IsNoBrace (operator_lexeme b)
    operators = subst IsNoBrace (sym (rw (left, right) refl)) (other_operator (b == 91) (b == 93) (b == 44))

    at : (c : Class) → class b ≡ c → lex between (b ∷ s) ≡ lex_byte between c b s (λ next. lex next s)
    at c is = ap (λ c. lex_byte between c b s (λ next. lex next s)) is

    go : (c : Class) → class b ≡ c → IsSpaceClass b c → (closes (punctuate fresh (lex between (b ∷ s))) ≡ false) × (are_braces (punctuate fresh (lex between (b ∷ s))) ≡ false)
    go quote is known = by (token (string_token (content plain s))) (lex in_string s) (at quote is) (string_no_brace (content plain s))
    go backslash is known = by (token Token.bad) (lex in_word s) (at backslash is) bad_no_brace
    go operator is known = by (operator_lexeme b) (lex between s) (at operator is) operators
    go space is known = absurd (both_ways (is_space b) none known)
    go other is known = by (token (word (b ∷ s))) (lex in_word s) (at other is) (word_no_brace (b ∷ s))

-- ---- texts

-- what stands behind white space doesn't begin with it
abbrev Starts : List ℕ → Type 0
Starts [] = Unit {0}
Starts (b ∷ s) = is_space b ≡ false

behind_starts : (s : List ℕ) → Starts (behind_spaces s)
behind_starts [] = tt
behind_starts (b ∷ s) = go (is_space b) refl (behind_starts s)
  where
    go : (v : Bool) → is_space b ≡ v → Starts (behind_spaces s) → Starts (cond v (behind_spaces s) (b ∷ s))
    go true is later = later
    go false is later = is

closing : (s : List ℕ) → closes (punctuate fresh (lex between (125 ∷ s))) ≡ is_blank s
unfolding lex
closing s = closing_brace (lex between s) ∙ lex_none s

close_starts : (s : List ℕ) → Starts s → closes (punctuate fresh (lex between s)) ≡ is_close s
unfolding lex punctuate
close_starts [] starts = refl
close_starts (b ∷ s) starts = go (b == 125) refl (b == 123) refl
  where
    go : (v : Bool) → (b == 125) ≡ v → (w : Bool) → (b == 123) ≡ w → closes (punctuate fresh (lex between (b ∷ s))) ≡ (v && is_blank s)
    go true is w brace = subst (λ c. closes (punctuate fresh (lex between (c ∷ s))) ≡ is_blank s) (sym (eqb-true b 125 is)) (closing s)
    go false is true brace = subst (λ c. closes (punctuate fresh (lex between (c ∷ s))) ≡ false) (sym (eqb-true b 123 brace)) refl
    go false is false brace = (other_byte b s starts brace is).0

close_is : (s : List ℕ) → closes (punctuate fresh (lex between s)) ≡ is_close (behind_spaces s)
close_is s = ap (λ ls. closes (punctuate fresh ls)) (lex_behind s) ∙ close_starts (behind_spaces s) (behind_starts s)

opening : (s : List ℕ) → are_braces (punctuate fresh (lex between (123 ∷ s))) ≡ is_close (behind_spaces s)
unfolding lex punctuate
opening s = close_is s

-- two braces with white space around them
abbrev are_two : List ℕ → Bool
are_two [] = false
are_two (b ∷ s) = (b == 123) && is_close (behind_spaces s)

two_starts : (s : List ℕ) → Starts s → are_braces (punctuate fresh (lex between s)) ≡ are_two s
unfolding lex punctuate
two_starts [] starts = refl
two_starts (b ∷ s) starts = go (b == 123) refl (b == 125) refl
  where
    go : (v : Bool) → (b == 123) ≡ v → (w : Bool) → (b == 125) ≡ w → are_braces (punctuate fresh (lex between (b ∷ s))) ≡ (v && is_close (behind_spaces s))
    go true is w brace = subst (λ c. are_braces (punctuate fresh (lex between (c ∷ s))) ≡ is_close (behind_spaces s)) (sym (eqb-true b 123 is)) (opening s)
    go false is true brace = subst (λ c. are_braces (punctuate fresh (lex between (c ∷ s))) ≡ false) (sym (eqb-true b 125 brace)) refl
    go false is false brace = (other_byte b s starts is brace).1

two_is : (s : List ℕ) → are_braces (tokens s) ≡ are_two (behind_spaces s)
two_is s = ap (λ ls. are_braces (punctuate fresh ls)) (lex_behind s) ∙ two_starts (behind_spaces s) (behind_starts s)

-- ---- such texts are UTF-8

space_ascii : (b : ℕ) → is_space b ≡ true → nat_lt b 128 ≡ true
space_ascii = by_space (λ b. nat_lt b 128 ≡ true) refl refl refl refl

blank_ascii : (s : List ℕ) → is_blank s ≡ true → are_ascii s ≡ true
blank_ascii [] is = refl
blank_ascii (b ∷ s) is = let parts = and_parts (is_space b) (is_blank s) is in both_true (space_ascii b parts.0) (blank_ascii s parts.1)

behind_ascii : (s : List ℕ) → are_ascii (behind_spaces s) ≡ true → are_ascii s ≡ true
behind_ascii [] is = refl
behind_ascii (b ∷ s) is = go (is_space b) refl is (behind_ascii s)
  where
    go : (v : Bool) → is_space b ≡ v → are_ascii (cond v (behind_spaces s) (b ∷ s)) ≡ true → (are_ascii (behind_spaces s) ≡ true → are_ascii s ≡ true) → are_ascii (b ∷ s) ≡ true
    go true e is later = both_true (space_ascii b e) (later is)
    go false e is later = is

byte_ascii : (b c : ℕ) (s : List ℕ) → (b == c) ≡ true → nat_lt c 128 ≡ true → are_ascii s ≡ true → are_ascii (b ∷ s) ≡ true
byte_ascii b c s same small rest = both_true (ap (λ n. nat_lt n 128) (eqb-true b c same) ∙ small) rest

close_ascii : (s : List ℕ) → is_close s ≡ true → are_ascii s ≡ true
close_ascii [] is = cc
close_ascii (b ∷ s) is = let parts = and_parts (b == 125) (is_blank s) is in byte_ascii b 125 s parts.0 refl (blank_ascii s parts.1)

two_ascii : (s : List ℕ) → are_two s ≡ true → are_ascii s ≡ true
two_ascii [] is = cc
two_ascii (b ∷ s) is = let parts = and_parts (b == 123) (is_close (behind_spaces s)) is in byte_ascii b 123 s parts.0 refl (behind_ascii s (close_ascii (behind_spaces s) parts.1))

-- ---- the whole

object_two : (body : List ℕ) → has_no_members (object_of body) ≡ are_two (behind_spaces body)
unfolding object_of tree_of
object_two body = go (is_utf8 body) refl (are_two (behind_spaces body)) refl
  where
    go : (v : Bool) → is_utf8 body ≡ v → (w : Bool) → are_two (behind_spaces body) ≡ w → has_no_members (option_and_then tree_if_object (cond v (read body) None)) ≡ w
    go true text w two = read_empties body ∙ (two_is body ∙ two)
    go false text true two = absurd (both_ways (is_utf8 body) text (is_utf8-from_IsUtf8 body (IsUtf8-are_ascii body (behind_ascii body (two_ascii (behind_spaces body) two)))))
    go false text false two = refl

-- a body is blank where nothing stands behind its white space
abbrev is_empty : List ℕ → Bool
is_empty [] = true
is_empty (b ∷ s) = false

blank_is : (s : List ℕ) → is_blank s ≡ is_empty (behind_spaces s)
blank_is [] = refl
blank_is (b ∷ s) = go (is_space b) (blank_is s)
  where
    go : (v : Bool) → is_blank s ≡ is_empty (behind_spaces s) → (v && is_blank s) ≡ is_empty (cond v (behind_spaces s) (b ∷ s))
    go true later = later
    go false later = refl

pub nothing_is : (body : List ℕ) → is_none_or_braces (behind_spaces body) ≡ is_nothing body
unfolding is_nothing
nothing_is body = go (behind_spaces body) ∙ sym (ap₂ (λ a b. a || b) (blank_is body) (object_two body))
  where
    go : (s : List ℕ) → is_none_or_braces s ≡ (is_empty s || are_two s)
    go [] = refl
    go (b ∷ s) = refl
