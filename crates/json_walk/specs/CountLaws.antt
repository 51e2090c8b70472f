-- A tree has no more leaves than the bytes that it was read from: each leaf has a token, and each token a byte.
use Rattle.std.proofs.Common.{◌≡◌, ℕ, zero, suc, ◌+◌, ◌≤◌, length, List, [], ◌∷◌, Bool, true, false, cond, Option, Some, None, option_map, option_and_then, Ordering, Less, Equal, Greater, refl, sym, subst, arith}
use Rattle.std.specs.Cmp.Lexicographic.{slice_cmp}
use Rattle.std.specs.Ordering.{nat_cmp, match_ordering}
use Rattle.std.specs.Str.{is_utf8}
use Rattle.json.specs.Token as token
use Rattle.json.specs.Token.{Token}
use Rattle.json.specs.Lex.{Lexeme, token as lexeme, comma, colon, Class, quote, backslash, operator, space, other, Mode, between, in_word, in_string, in_escape, lex, lex_byte, class, Place, fresh, after_value, after_comma, after_key, begins_colon, if_allowed, may_begin, may_close, place_token, punctuate, tokens}
use Rattle.json.specs.Json as json
use Rattle.json.specs.Json.{Parse, parse_map, after_end_array, read_key, items_step, members_step, items, members, value_with, value, if_last}
use Rattle.serde_json.specs.Data as tree
use Rattle.serde_json.specs.Data.{Data, put}
use Rattle.serde_json.specs.Read.{of_json, of_items, of_members, max_depth, number_of, read}
use Rattle.json_walk.specs.Tree.{tree_of}
use Rattle.json_walk.specs.Counted.{leaf_count, items_leaves, members_leaves}

-- ---- lexemes

one_byte : (m : Mode) (c : Class) (x : ℕ) (xs : List ℕ) (k : Mode → List Lexeme) → ((n : Mode) → length (k n) ≤ length xs) → length (lex_byte m c x xs k) ≤ suc (length xs)
one_byte between quote x xs k later = omega (arith, later in_string)
one_byte between backslash x xs k later = omega (arith, later in_word)
one_byte between operator x xs k later = omega (arith, later between)
one_byte between space x xs k later = omega (arith, later between)
one_byte between other x xs k later = omega (arith, later in_word)
one_byte in_word quote x xs k later = omega (arith, later in_word)
one_byte in_word backslash x xs k later = omega (arith, later in_word)
one_byte in_word operator x xs k later = omega (arith, later between)
one_byte in_word space x xs k later = omega (arith, later between)
one_byte in_word other x xs k later = omega (arith, later in_word)
one_byte in_string quote x xs k later = omega (arith, later between)
one_byte in_string backslash x xs k later = omega (arith, later in_escape)
one_byte in_string operator x xs k later = omega (arith, later in_string)
one_byte in_string space x xs k later = omega (arith, later in_string)
one_byte in_string other x xs k later = omega (arith, later in_string)
one_byte in_escape c x xs k later = omega (arith, later in_string)

few_lexemes : (m : Mode) (xs : List ℕ) → length (lex m xs) ≤ length xs
unfolding lex
few_lexemes m [] = omega arith
few_lexemes m (x ∷ xs) = one_byte m (class x) x xs (λ n. lex n xs) (λ n. few_lexemes n xs)

-- ---- tokens

abbrev counted : Token → ℕ → ℕ
counted token.begin_object n = n
counted token.end_object n = n
counted token.begin_array n = n
counted token.end_array n = n
counted (token.key s) n = n
counted (token.string s) n = suc n
counted (token.number s) n = suc n
counted (token.boolean b) n = suc n
counted token.null n = suc n
counted token.bad n = n

-- tokens that are leaves
abbrev pub scalars : List Token → ℕ
scalars [] = 0
scalars (t ∷ ts) = counted t (scalars ts)

allowed : (b : Bool) (t : Token) (k : Place → List Token) (next : Place) (n : ℕ) → counted t (scalars (k next)) ≤ suc (scalars (k next)) → scalars (k next) ≤ n → scalars (if_allowed b t k next) ≤ suc n
allowed true t k next n light later = omega (arith, light, later)
allowed false t k next n light later = omega arith

one_token : (p : Place) (t : Token) (c : Bool) (k : Place → List Token) (n : ℕ) → ((next : Place) → scalars (k next) ≤ n) → scalars (place_token p t c k) ≤ suc n
one_token p token.begin_object c k n later = allowed (may_begin p) token.begin_object k fresh n (omega arith) (later fresh)
one_token p token.end_object c k n later = allowed (may_close p) token.end_object k after_value n (omega arith) (later after_value)
one_token p token.begin_array c k n later = allowed (may_begin p) token.begin_array k fresh n (omega arith) (later fresh)
one_token p token.end_array c k n later = allowed (may_close p) token.end_array k after_value n (omega arith) (later after_value)
one_token p (token.key s) c k n later = omega arith
one_token p (token.string s) true k n later = allowed (may_begin p) (token.key s) k after_key n (omega arith) (later after_key)
one_token p (token.string s) false k n later = allowed (may_begin p) (token.string s) k after_value n (omega arith) (later after_value)
one_token p (token.number s) c k n later = allowed (may_begin p) (token.number s) k after_value n (omega arith) (later after_value)
one_token p (token.boolean b) c k n later = allowed (may_begin p) (token.boolean b) k after_value n (omega arith) (later after_value)
one_token p token.null c k n later = allowed (may_begin p) token.null k after_value n (omega arith) (later after_value)
one_token p token.bad c k n later = omega arith

few_scalars : (p : Place) (ls : List Lexeme) → scalars (punctuate p ls) ≤ length ls
unfolding punctuate
few_scalars fresh [] = omega arith
few_scalars after_value [] = omega arith
few_scalars after_comma [] = omega arith
few_scalars after_key [] = omega arith
few_scalars fresh (lexeme t ∷ ls) = one_token fresh t (begins_colon ls) (λ n. punctuate n ls) (length ls) (λ n. few_scalars n ls)
few_scalars after_value (lexeme t ∷ ls) = one_token after_value t (begins_colon ls) (λ n. punctuate n ls) (length ls) (λ n. few_scalars n ls)
few_scalars after_comma (lexeme t ∷ ls) = one_token after_comma t (begins_colon ls) (λ n. punctuate n ls) (length ls) (λ n. few_scalars n ls)
few_scalars after_key (lexeme t ∷ ls) = one_token after_key t (begins_colon ls) (λ n. punctuate n ls) (length ls) (λ n. few_scalars n ls)
few_scalars fresh (comma ∷ ls) = omega arith
few_scalars after_value (comma ∷ ls) = omega (arith, few_scalars after_comma ls)
few_scalars after_comma (comma ∷ ls) = omega arith
few_scalars after_key (comma ∷ ls) = omega arith
few_scalars fresh (colon ∷ ls) = omega arith
few_scalars after_value (colon ∷ ls) = omega arith
few_scalars after_comma (colon ∷ ls) = omega arith
few_scalars after_key (colon ∷ ls) = omega (arith, few_scalars fresh ls)

-- ---- values over tokens

abbrev mutual
  pub json_leaves : json.Json → ℕ
  json_leaves json.null = 1
  json_leaves (json.boolean b) = 1
  json_leaves (json.number s) = 1
  json_leaves (json.string s) = 1
  json_leaves (json.array js) = json_items js
  json_leaves (json.object ms) = json_members ms

  pub json_items : json.Items → ℕ
  json_items json.no_items = 0
  json_items (json.item j js) = json_leaves j + json_items js

  pub json_members : json.Members → ℕ
  json_members json.no_members = 0
  json_members (json.member k j ms) = json_leaves j + json_members ms

-- what was read has no more leaves than the tokens that it took
abbrev AtMost : {A : Type 0} → (A → ℕ) → ℕ → Option (A × List Token) → Type 0
AtMost leaves n None = Unit {0}
AtMost leaves n (Some p) = leaves p.0 + scalars p.1 ≤ n

abbrev Bounded : {A : Type 0} → (A → ℕ) → Parse A → Type 0
Bounded leaves read = (ts : List Token) → AtMost leaves (scalars ts) (read ts)

mapped : {A B : Type 0} (f : A → B) (a : A → ℕ) (b : B → ℕ) (n : ℕ) → ((x : A) → b (f x) ≡ a x) → (o : Option (A × List Token)) → AtMost a n o → AtMost b n (parse_map f o)
mapped f a b n same None is = tt
mapped f a b n same (Some p) is = subst (λ m. m + scalars p.1 ≤ n) (sym (same p.0)) is

-- a value, and then more behind it
both : {M : Type 0} (leaves : M → ℕ) (with_first : json.Json → M → M) (more : Parse M) (n : ℕ) → ((j : json.Json) (m : M) → leaves (with_first j m) ≡ json_leaves j + leaves m) → Bounded leaves more
    → (o : Option (json.Json × List Token)) → AtMost json_leaves n o → AtMost leaves n (option_and_then (λ p. parse_map (with_first p.0) (more p.1)) o)
both leaves with_first more n same bound None is = tt
both leaves with_first more n same bound (Some p) is = go (more p.1) (bound p.1)
  where
    go : (o : Option _) → AtMost leaves (scalars p.1) o → AtMost leaves n (parse_map (with_first p.0) o)
    go None later = tt
    go (Some q) later = omega (arith, same p.0 q.0, is, later)

abbrev IsShorter : List Token → Option (List Token) → Type 0
IsShorter ts None = Unit {0}
IsShorter ts (Some rest) = scalars rest ≤ scalars ts

array_end : (ts : List Token) → IsShorter ts (after_end_array ts)
array_end [] = tt
array_end (token.begin_object ∷ ts) = tt
array_end (token.end_object ∷ ts) = tt
array_end (token.begin_array ∷ ts) = tt
array_end (token.end_array ∷ ts) = omega arith
array_end (token.key s ∷ ts) = tt
array_end (token.string s ∷ ts) = tt
array_end (token.number s ∷ ts) = tt
array_end (token.boolean b ∷ ts) = tt
array_end (token.null ∷ ts) = tt
array_end (token.bad ∷ ts) = tt

one_item : (v : Parse json.Json) (more : Parse json.Items) (ts : List Token) (o : Option (List Token)) → Bounded json_leaves v → Bounded json_items more → IsShorter ts o → AtMost json_items (scalars ts) (items_step v more ts o)
one_item v more ts (Some rest) first later ends = omega (arith, ends)
one_item v more ts None first later ends = both json_items json.item more (scalars ts) (λ j m. refl) later (v ts) (first ts)

few_items : (v : Parse json.Json) (n : ℕ) → Bounded json_leaves v → Bounded json_items (items v n)
unfolding items
few_items v zero first ts = tt
few_items v (suc n) first ts = one_item v (items v n) ts (after_end_array ts) first (few_items v n first) (array_end ts)

one_member : (v : Parse json.Json) (more : Parse json.Members) (n : ℕ) → Bounded json_leaves v → Bounded json_members more
    → (k : Option (List ℕ)) (ts : List Token) → scalars ts ≤ n → AtMost json_members n (members_step v more k ts)
one_member v more n first later None ts fewer = omega (arith, fewer)
one_member v more n first later (Some k) ts fewer = both json_members (json.member k) more n (λ j m. refl) later (v ts) (weaker (v ts) (first ts))
  where
    weaker : (o : Option (json.Json × List Token)) → AtMost json_leaves (scalars ts) o → AtMost json_leaves n o
    weaker None is = tt
    weaker (Some p) is = omega (arith, is, fewer)

few_members : (v : Parse json.Json) (n : ℕ) → Bounded json_leaves v → Bounded json_members (members v n)
unfolding members
few_members v zero first ts = tt
few_members v (suc n) first [] = tt
few_members v (suc n) first (token.begin_object ∷ ts) = tt
few_members v (suc n) first (token.end_object ∷ ts) = one_member v (members v n) (scalars ts) first (few_members v n first) None ts (omega arith)
few_members v (suc n) first (token.begin_array ∷ ts) = tt
few_members v (suc n) first (token.end_array ∷ ts) = tt
few_members v (suc n) first (token.key s ∷ ts) = one_member v (members v n) (scalars ts) first (few_members v n first) (Some s) ts (omega arith)
few_members v (suc n) first (token.string s ∷ ts) = tt
few_members v (suc n) first (token.number s ∷ ts) = tt
few_members v (suc n) first (token.boolean b ∷ ts) = tt
few_members v (suc n) first (token.null ∷ ts) = tt
few_members v (suc n) first (token.bad ∷ ts) = tt

one_value : (a : Parse json.Items) (o : Parse json.Members) → Bounded json_items a → Bounded json_members o → Bounded json_leaves (value_with a o)
one_value a o all_items all_members [] = tt
one_value a o all_items all_members (token.begin_object ∷ ts) = mapped json.object json_members json_leaves (scalars ts) (λ x. refl) (o ts) (all_members ts)
one_value a o all_items all_members (token.end_object ∷ ts) = tt
one_value a o all_items all_members (token.begin_array ∷ ts) = mapped json.array json_items json_leaves (scalars ts) (λ x. refl) (a ts) (all_items ts)
one_value a o all_items all_members (token.end_array ∷ ts) = tt
one_value a o all_items all_members (token.key s ∷ ts) = tt
one_value a o all_items all_members (token.string s ∷ ts) = omega arith
one_value a o all_items all_members (token.number s ∷ ts) = omega arith
one_value a o all_items all_members (token.boolean b ∷ ts) = omega arith
one_value a o all_items all_members (token.null ∷ ts) = omega arith
one_value a o all_items all_members (token.bad ∷ ts) = tt

few_in_value : (depth : ℕ) → Bounded json_leaves (value depth)
unfolding value
few_in_value zero = one_value (λ ts. None) (λ ts. None) (λ ts. tt) (λ ts. tt)
few_in_value (suc depth) =
    one_value (λ ts. items (value depth) (length ts) ts) (λ ts. members (value depth) (length ts) ts)
    (λ ts. few_items (value depth) (length ts) (few_in_value depth) ts) (λ ts. few_members (value depth) (length ts) (few_in_value depth) ts)

-- ---- trees

put_more : (k : List ℕ) (d : Data) (ms : tree.Members) → members_leaves (put k d ms) ≤ leaf_count d + members_leaves ms
put_more k d tree.no_members = omega arith
put_more k d (tree.member l e ms) = go (slice_cmp nat_cmp k l) (put_more k d ms)
  where
    go : (o : Ordering) → members_leaves (put k d ms) ≤ leaf_count d + members_leaves ms
        → members_leaves (match_ordering o (tree.member k d (tree.member l e ms)) (tree.member l d ms) (tree.member l e (put k d ms))) ≤ leaf_count d + (leaf_count e + members_leaves ms)
    go Less later = omega arith
    go Equal later = omega arith
    go Greater later = omega (arith, later)

abbrev UpTo : {A : Type 0} → (A → ℕ) → ℕ → Option A → Type 0
UpTo leaves n None = Unit {0}
UpTo leaves n (Some a) = leaves a ≤ n

up_map : {A B : Type 0} (f : A → B) (a : A → ℕ) (b : B → ℕ) (n : ℕ) → ((x : A) → b (f x) ≡ a x) → (o : Option A) → UpTo a n o → UpTo b n (option_map f o)
up_map f a b n same None is = tt
up_map f a b n same (Some x) is = subst (λ m. m ≤ n) (sym (same x)) is

up_number : (o : Option tree.Num) → UpTo leaf_count 1 (option_map tree.number o)
up_number None = tt
up_number (Some n) = omega arith

up_item : (n m : ℕ) (o : Option Data) (p : Option tree.Items) → UpTo leaf_count n o → UpTo items_leaves m p → UpTo items_leaves (n + m) (option_and_then (λ d. option_map (tree.item d) p) o)
up_item n m None p one rest = tt
up_item n m (Some d) None one rest = tt
up_item n m (Some d) (Some ds) one rest = omega (arith, one, rest)

plus_zero : (n : ℕ) → n + 0 ≡ n
plus_zero n = omega arith

up_member : (k : List ℕ) (n m : ℕ) (rest : tree.Members → Option tree.Members) (found : tree.Members) → ((f : tree.Members) → UpTo members_leaves (m + members_leaves f) (rest f))
    → (o : Option Data) → UpTo leaf_count n o → UpTo members_leaves (n + m + members_leaves found) (option_and_then (λ d. rest (put k d found)) o)
up_member k n m rest found all None one = tt
up_member k n m rest found all (Some d) one = weaker (rest (put k d found)) (all (put k d found))
  where
    weaker : (o : Option tree.Members) → UpTo members_leaves (m + members_leaves (put k d found)) o → UpTo members_leaves (n + m + members_leaves found) o
    weaker None is = tt
    weaker (Some ms) is = omega (arith, is, one, put_more k d found)

mutual
  few_of_json : (j : json.Json) → UpTo leaf_count (json_leaves j) (of_json j)
  few_of_json json.null = omega arith
  few_of_json (json.boolean b) = omega arith
  few_of_json (json.number s) = up_number (number_of s)
  few_of_json (json.string s) = omega arith
  few_of_json (json.array js) = up_map tree.array items_leaves leaf_count (json_items js) (λ x. refl) (of_items js) (few_of_items js)
  few_of_json (json.object ms) = up_map tree.object members_leaves leaf_count (json_members ms) (λ x. refl) (of_members ms tree.no_members) (subst (λ n. UpTo members_leaves n (of_members ms tree.no_members)) (plus_zero (json_members ms)) (few_of_members ms tree.no_members))

  few_of_items : (js : json.Items) → UpTo items_leaves (json_items js) (of_items js)
  few_of_items json.no_items = omega arith
  few_of_items (json.item j js) = up_item (json_leaves j) (json_items js) (of_json j) (of_items js) (few_of_json j) (few_of_items js)

  few_of_members : (ms : json.Members) (found : tree.Members) → UpTo members_leaves (json_members ms + members_leaves found) (of_members ms found)
  few_of_members json.no_members found = omega arith
  few_of_members (json.member k j ms) found = up_member k (json_leaves j) (json_members ms) (of_members ms) found (few_of_members ms) (of_json j) (few_of_json j)

few_read : (bytes : List ℕ) → UpTo leaf_count (length bytes) (read bytes)
few_read bytes = go (value max_depth (tokens bytes)) (few_in_value max_depth (tokens bytes))
  where
    few : scalars (tokens bytes) ≤ length bytes
    few = omega (arith, few_scalars fresh (lex between bytes), few_lexemes between bytes)

    weaker : (n : ℕ) → n ≤ length bytes → (o : Option Data) → UpTo leaf_count n o → UpTo leaf_count (length bytes) o
    weaker n le None is = tt
    weaker n le (Some d) is = omega (arith, is, le)

    last : (j : json.Json) (ts : List Token) → json_leaves j + scalars ts ≤ scalars (tokens bytes) → UpTo leaf_count (length bytes) (option_and_then of_json (if_last j ts))
    last j [] is = weaker (json_leaves j) (omega (arith, is, few)) (of_json j) (few_of_json j)
    last j (t ∷ ts) is = tt

    go : (o : Option (json.Json × List Token)) → AtMost json_leaves (scalars (tokens bytes)) o → UpTo leaf_count (length bytes) (option_and_then of_json (option_and_then (λ p. if_last p.0 p.1) o))
    go None is = tt
    go (Some p) is = last p.0 p.1 is

abbrev pub LeavesAreFew : Type 0
LeavesAreFew = (bytes : List ℕ) (d : Data) → tree_of bytes ≡ Some d → leaf_count d ≤ length bytes

pub few_leaves : LeavesAreFew
unfolding tree_of
few_leaves bytes d is = go (is_utf8 bytes) is
  where
    told : (o : Option Data) → UpTo leaf_count (length bytes) o → o ≡ Some d → leaf_count d ≤ length bytes
    told None few is = cc
    told (Some e) few is = let same : e ≡ d = cc in subst (λ x. leaf_count x ≤ length bytes) same few

    go : (v : Bool) → cond v (read bytes) None ≡ Some d → leaf_count d ≤ length bytes
    go true is = told (read bytes) (few_read bytes) is
    go false is = cc
