-- A reply as a JSON value, whose text is the reply's.
use Rattle.std.proofs.Common.{◌≡◌, ◌≤◌, ℕ, suc, max, ℤ, pos, negsuc, Bool, true, false, ◌&&◌, List, [], ◌∷◌, ◌++◌, map, flat_map, Option, None, Some, option_map, option_and_then, refl, sym, ap, ap₂, subst, ◌∙◌, append_assoc}
use Rattle.std.specs.Fmt.{signed_decimal}
use Rattle.std.specs.Str.{is_utf8}
use Rattle.std.proofs.lemmas.Str.{IsUtf8-from_is_utf8}
use Rattle.json.specs.Json as json
use Rattle.json.specs.Print.{print, quoted}
use Rattle.json.specs.Token as token
use Rattle.json.specs.Token.{Token}
use Rattle.json.specs.Tree as jt
use Rattle.serde_json.specs.Data as tree_data
use Rattle.serde_json.specs.Data.{Num, unsigned, negative, float, Data}
use Rattle.serde_json.specs.Read.{number_of, of_json, of_items, of_members}
use Rattle.serde_json.proofs.Numbers.{number_of-decimal, number_of-negative}
use Rattle.json_walk.specs.Tree.{tree_of}
use Rattle.json_walk.specs.TreeLaws.{tree_at_utf8}
use Rattle.reply_json.specs.Reading.{is_small, all_true, readable_step, readable_member, is_readable, greatest, depth_step, depth_member, depth, number_in, items_in, members_onto, read_step, read_member, read_as, PrintedReadsBack, OneReply}
use Rattle.reply_json.specs.Reply.{joined, text_step, member_step, text}
use Rattle.reply_json.specs.Tokens.{joined_tokens, tokens_step, member_tokens_step, tokens_of}
use Rattle.reply_json.specs.Trees as tree
use Rattle.reply_json.specs.declared.out.Member.{Member, Member-F, fold-Member, roll-out-Member, fold_out-Member}
use Rattle.reply_json.specs.declared.out.Out.{Out, Out-F, fold-Out, fold-roll-Out, Null, Flag, Num as Number, Word, List as list, Object}
use Rattle.reply_json.specs.declared.out.Out.TheViews.{rolls-Null, rolls-Flag, rolls-Num, rolls-Word, rolls-List, rolls-Object}
use Rattle.reply_json.proofs.Induction.{name_of, value_of, AllOf, AllValues, by_kinds}
use Rattle.reply_json.proofs.Trees.{compact, items_text, members_text, IsFine, AreFine, MembersFine, small_natural, small_negative, compact_utf8, print_compact, value_read, one_value}

-- ---- folds at each kind

abbrev member_of : {A : Type 0} → (Out → A) → Member → Member-F A A
member_of f m = record { name = name_of m; value = f (value_of m) }

same_map : {A B : Type 0} (f g : A → B) → ((a : A) → f a ≡ g a) → (xs : List A) → map f xs ≡ map g xs
same_map f g each [] = refl
same_map f g each (x ∷ xs) = ap₂ (λ y ys. y ∷ ys) (each x) (same_map f g each xs)

fold_list : (A A' : Type 0) (s : Out-F A A' → A) (t : Member-F A A' → A') (os : List Out) → fold-Out A A' s t (list os) ≡ s (Out-F.List (map (fold-Out A A' s t) os))
fold_list A A' s t os = ap (fold-Out A A' s t) (sym (rolls-List os)) ∙ fold-roll-Out A A' s t (Out-F.List os)

fold_object : (A A' : Type 0) (s : Out-F A A' → A) (t : Member-F A A' → A') (ms : List Member)
    → fold-Out A A' s t (Object ms) ≡ s (Out-F.Object (map (λ m. t (record { name = name_of m; value = fold-Out A A' s t (value_of m) })) ms))
fold_object A A' s t ms =
    ap (fold-Out A A' s t) (sym (rolls-Object ms)) ∙ fold-roll-Out A A' s t (Out-F.Object ms)
    ∙ ap (λ ys. s (Out-F.Object ys)) (same_map (fold-Member A A' s t) (λ m. t (record { name = name_of m; value = fold-Out A A' s t (value_of m) })) (fold_out-Member A A' s t) ms)

fold_null : (A A' : Type 0) (s : Out-F A A' → A) (t : Member-F A A' → A') → fold-Out A A' s t Null ≡ s Out-F.Null
fold_null A A' s t = ap (fold-Out A A' s t) (sym rolls-Null) ∙ fold-roll-Out A A' s t Out-F.Null

fold_flag : (A A' : Type 0) (s : Out-F A A' → A) (t : Member-F A A' → A') (b : Bool) → fold-Out A A' s t (Flag b) ≡ s (Out-F.Flag b)
fold_flag A A' s t b = ap (fold-Out A A' s t) (sym (rolls-Flag b)) ∙ fold-roll-Out A A' s t (Out-F.Flag b)

fold_number : (A A' : Type 0) (s : Out-F A A' → A) (t : Member-F A A' → A') (z : ℤ) → fold-Out A A' s t (Number z) ≡ s (Out-F.Num z)
fold_number A A' s t z = ap (fold-Out A A' s t) (sym (rolls-Num z)) ∙ fold-roll-Out A A' s t (Out-F.Num z)

fold_word : (A A' : Type 0) (s : Out-F A A' → A) (t : Member-F A A' → A') (w : List ℕ) → fold-Out A A' s t (Word w) ≡ s (Out-F.Word w)
fold_word A A' s t w = ap (fold-Out A A' s t) (sym (rolls-Word w)) ∙ fold-roll-Out A A' s t (Out-F.Word w)

-- ---- a reply as a value of JSON, and back

abbrev items_of : List json.Json → json.Items
items_of [] = json.no_items
items_of (j ∷ js) = json.item j (items_of js)

abbrev members_of : List (List ℕ × json.Json) → json.Members
members_of [] = json.no_members
members_of (m ∷ ms) = json.member m.0 m.1 (members_of ms)

abbrev json_step : Out-F json.Json (List ℕ × json.Json) → json.Json
json_step Out-F.Null = json.null
json_step (Out-F.Flag b) = json.boolean b
json_step (Out-F.Num z) = json.number (signed_decimal z)
json_step (Out-F.Word w) = json.string w
json_step (Out-F.List js) = json.array (items_of js)
json_step (Out-F.Object ms) = json.object (members_of ms)

abbrev json_member : Member-F json.Json (List ℕ × json.Json) → List ℕ × json.Json
json_member m = (m.name, m.value)

abbrev json_of : Out → json.Json
json_of = fold-Out json.Json (List ℕ × json.Json) json_step json_member

abbrev number_out : Option Num → Out
number_out None = Null
number_out (Some (unsigned n)) = Number (pos n)
number_out (Some (negative z)) = Number z
number_out (Some (float x)) = Null

abbrev mutual
  out_of : json.Json → Out
  out_of json.null = Null
  out_of (json.boolean b) = Flag b
  out_of (json.number s) = number_out (number_of s)
  out_of (json.string s) = Word s
  out_of (json.array js) = list (items_out js)
  out_of (json.object ms) = Object (members_out ms)

  items_out : json.Items → List Out
  items_out json.no_items = []
  items_out (json.item j js) = out_of j ∷ items_out js

  members_out : json.Members → List Member
  members_out json.no_members = []
  members_out (json.member k j ms) = tree.member k (out_of j) ∷ members_out ms

-- what is known of the value of a reply
record IsReadAs (o : Out) : Type 0 where
  pub same_text : text o ≡ compact (json_of o)
  pub same_tokens : jt.json_tokens (json_of o) ≡ tokens_of o
  pub same_depth : jt.depth (json_of o) ≡ depth o
  pub fine : is_readable o ≡ true → IsFine (json_of o)
  pub same_tree : is_readable o ≡ true → of_json (json_of o) ≡ Some (read_as o)
  pub comes_back : is_readable o ≡ true → out_of (json_of o) ≡ o

both_parts : (a b : Bool) → (a && b) ≡ true → (a ≡ true) × (b ≡ true)
both_parts true true is = (refl, refl)
both_parts true false is = absurd cc
both_parts false b is = absurd cc

-- ---- lists

abbrev later_texts : List (List ℕ) → List ℕ
later_texts ts = flat_map (λ u. 44 ∷ u) ts

first_and_later : (a b b' c : List ℕ) → b ++ c ≡ b' → (a ++ b) ++ c ≡ a ++ b'
first_and_later a b b' c same = append_assoc a b c ∙ ap (λ s. a ++ s) same

later_items : (os : List Out) → AllOf IsReadAs os → later_texts (map text os) ++ 93 ∷ [] ≡ items_text true (items_of (map json_of os))
later_items [] all = refl
later_items (o ∷ os) all = ap (λ s. 44 ∷ s) (first_and_later (text o) _ _ (93 ∷ []) (later_items os all.1) ∙ ap (λ s. s ++ items_text true (items_of (map json_of os))) all.0.same_text)

first_items : (os : List Out) → AllOf IsReadAs os → joined (map text os) ++ 93 ∷ [] ≡ items_text false (items_of (map json_of os))
first_items [] all = refl
first_items (o ∷ os) all = first_and_later (text o) _ _ (93 ∷ []) (later_items os all.1) ∙ ap (λ s. s ++ items_text true (items_of (map json_of os))) all.0.same_text

items_tokens : (os : List Out) → AllOf IsReadAs os → jt.items_tokens (items_of (map json_of os)) ≡ joined_tokens (map tokens_of os) ++ token.end_array ∷ []
items_tokens [] all = refl
items_tokens (o ∷ os) all =
    ap₂ (λ ts us. ts ++ us) all.0.same_tokens (items_tokens os all.1) ∙ sym (append_assoc (tokens_of o) (joined_tokens (map tokens_of os)) (token.end_array ∷ []))

items_depth : (os : List Out) → AllOf IsReadAs os → jt.items_depth (items_of (map json_of os)) ≡ greatest (map depth os)
items_depth [] all = refl
items_depth (o ∷ os) all = ap₂ max all.0.same_depth (items_depth os all.1)

items_fine : (os : List Out) → AllOf IsReadAs os → all_true (map is_readable os) ≡ true → AreFine (items_of (map json_of os))
items_fine [] all is = tt
items_fine (o ∷ os) all is = let parts = both_parts (is_readable o) (all_true (map is_readable os)) is in (all.0.fine parts.0, items_fine os all.1 parts.1)

items_tree : (os : List Out) → AllOf IsReadAs os → all_true (map is_readable os) ≡ true → of_items (items_of (map json_of os)) ≡ Some (items_in (map read_as os))
items_tree [] all is = refl
items_tree (o ∷ os) all is =
    let parts = both_parts (is_readable o) (all_true (map is_readable os)) is in
    ap (option_and_then (λ d. option_map (tree_data.item d) (of_items (items_of (map json_of os))))) (all.0.same_tree parts.0)
    ∙ ap (option_map (tree_data.item (read_as o))) (items_tree os all.1 parts.1)

items_back : (os : List Out) → AllOf IsReadAs os → all_true (map is_readable os) ≡ true → items_out (items_of (map json_of os)) ≡ os
items_back [] all is = refl
items_back (o ∷ os) all is =
    let parts = both_parts (is_readable o) (all_true (map is_readable os)) is in ap₂ (λ p ps. p ∷ ps) (all.0.comes_back parts.0) (items_back os all.1 parts.1)

-- ---- members

abbrev pair_of : Member → List ℕ × json.Json
pair_of m = (name_of m, json_of (value_of m))

abbrev token_list : Member → List Token
token_list m = token.key (name_of m) ∷ tokens_of (value_of m)

abbrev text_of : Member → List ℕ
text_of m = quoted (name_of m) ++ 58 ∷ text (value_of m)

abbrev readable_of : Member → Bool
readable_of m = is_utf8 (name_of m) && is_readable (value_of m)

abbrev depth_of : Member → ℕ
depth_of m = depth (value_of m)

abbrev tree_pair : Member → List ℕ × Data
tree_pair m = (name_of m, read_as (value_of m))

one_member : (m : Member) (rest : List ℕ) → IsReadAs (value_of m) → text_of m ++ rest ≡ quoted (name_of m) ++ (58 ∷ (compact (json_of (value_of m)) ++ rest))
one_member m rest is = append_assoc (quoted (name_of m)) (58 ∷ text (value_of m)) rest ∙ ap (λ s. quoted (name_of m) ++ 58 ∷ (s ++ rest)) is.same_text

later_members : (ms : List Member) → AllValues IsReadAs ms → later_texts (map text_of ms) ++ 125 ∷ [] ≡ members_text true (members_of (map pair_of ms))
later_members [] all = refl
later_members (m ∷ ms) all = ap (λ s. 44 ∷ s) (first_and_later (text_of m) _ _ (125 ∷ []) (later_members ms all.1) ∙ one_member m (members_text true (members_of (map pair_of ms))) all.0)

first_members : (ms : List Member) → AllValues IsReadAs ms → joined (map text_of ms) ++ 125 ∷ [] ≡ members_text false (members_of (map pair_of ms))
first_members [] all = refl
first_members (m ∷ ms) all = first_and_later (text_of m) _ _ (125 ∷ []) (later_members ms all.1) ∙ one_member m (members_text true (members_of (map pair_of ms))) all.0

members_tokens : (ms : List Member) → AllValues IsReadAs ms → jt.members_tokens (members_of (map pair_of ms)) ≡ joined_tokens (map token_list ms) ++ token.end_object ∷ []
members_tokens [] all = refl
members_tokens (m ∷ ms) all =
    ap₂ (λ ts us. token.key (name_of m) ∷ (ts ++ us)) all.0.same_tokens (members_tokens ms all.1)
    ∙ sym (append_assoc (token_list m) (joined_tokens (map token_list ms)) (token.end_object ∷ []))

members_depth : (ms : List Member) → AllValues IsReadAs ms → jt.members_depth (members_of (map pair_of ms)) ≡ greatest (map depth_of ms)
members_depth [] all = refl
members_depth (m ∷ ms) all = ap₂ max all.0.same_depth (members_depth ms all.1)

members_fine : (ms : List Member) → AllValues IsReadAs ms → all_true (map readable_of ms) ≡ true → MembersFine (members_of (map pair_of ms))
members_fine [] all is = tt
members_fine (m ∷ ms) all is =
    let parts = both_parts (readable_of m) (all_true (map readable_of ms)) is in
    let here = both_parts (is_utf8 (name_of m)) (is_readable (value_of m)) parts.0 in
    (IsUtf8-from_is_utf8 (name_of m) here.0, all.0.fine here.1, members_fine ms all.1 parts.1)

members_tree : (ms : List Member) (found : tree_data.Members) → AllValues IsReadAs ms → all_true (map readable_of ms) ≡ true
    → of_members (members_of (map pair_of ms)) found ≡ Some (members_onto (map tree_pair ms) found)
members_tree [] found all is = refl
members_tree (m ∷ ms) found all is =
    let parts = both_parts (readable_of m) (all_true (map readable_of ms)) is in
    let here = both_parts (is_utf8 (name_of m)) (is_readable (value_of m)) parts.0 in
    ap (option_and_then (λ d. of_members (members_of (map pair_of ms)) (tree_data.put (name_of m) d found))) (all.0.same_tree here.1)
    ∙ members_tree ms (tree_data.put (name_of m) (read_as (value_of m)) found) all.1 parts.1

members_back : (ms : List Member) → AllValues IsReadAs ms → all_true (map readable_of ms) ≡ true → members_out (members_of (map pair_of ms)) ≡ ms
members_back [] all is = refl
members_back (m ∷ ms) all is =
    let parts = both_parts (readable_of m) (all_true (map readable_of ms)) is in
    let here = both_parts (is_utf8 (name_of m)) (is_readable (value_of m)) parts.0 in
    ap₂ (λ p ps. p ∷ ps) (ap (tree.member (name_of m)) (all.0.comes_back here.1) ∙ roll-out-Member m) (members_back ms all.1 parts.1)

-- ---- each kind

abbrev J : Type 0
J = json.Json

abbrev JM : Type 0
JM = List ℕ × json.Json

number_tree : (z : ℤ) → is_small z ≡ true → number_of (signed_decimal z) ≡ Some (number_in z)
number_tree (pos n) is = number_of-decimal n (small_natural n is)
number_tree (negsuc n) is = number_of-negative n (small_negative n is)

number_back : (z : ℤ) → number_out (Some (number_in z)) ≡ Number z
number_back (pos n) = refl
number_back (negsuc n) = refl

at_null : IsReadAs Null
at_null =
    let j : json_of Null ≡ json.null = fold_null J JM json_step json_member in
    record {
      same_text = fold_null _ _ text_step member_step ∙ sym (ap compact j);
      same_tokens = ap jt.json_tokens j ∙ sym (fold_null _ _ tokens_step member_tokens_step);
      same_depth = ap jt.depth j ∙ sym (fold_null _ _ depth_step depth_member);
      fine = λ is. subst IsFine (sym j) tt;
      same_tree = λ is. ap of_json j ∙ sym (ap (λ d. Some d) (fold_null _ _ read_step read_member));
      comes_back = λ is. ap out_of j;
    }

flag_text : (b : Bool) → text_step (Out-F.Flag b) ≡ compact (json.boolean b)
flag_text true = refl
flag_text false = refl

at_flag : (b : Bool) → IsReadAs (Flag b)
at_flag b =
    let j : json_of (Flag b) ≡ json.boolean b = fold_flag J JM json_step json_member b in
    record {
      same_text = fold_flag _ _ text_step member_step b ∙ flag_text b ∙ sym (ap compact j);
      same_tokens = ap jt.json_tokens j ∙ sym (fold_flag _ _ tokens_step member_tokens_step b);
      same_depth = ap jt.depth j ∙ sym (fold_flag _ _ depth_step depth_member b);
      fine = λ is. subst IsFine (sym j) tt;
      same_tree = λ is. ap of_json j ∙ sym (ap (λ d. Some d) (fold_flag _ _ read_step read_member b));
      comes_back = λ is. ap out_of j;
    }

at_number : (z : ℤ) → IsReadAs (Number z)
at_number z =
    let j : json_of (Number z) ≡ json.number (signed_decimal z) = fold_number J JM json_step json_member z in
    let small : is_readable (Number z) ≡ is_small z = fold_number _ _ readable_step readable_member z in
    record {
      same_text = fold_number _ _ text_step member_step z ∙ sym (ap compact j);
      same_tokens = ap jt.json_tokens j ∙ sym (fold_number _ _ tokens_step member_tokens_step z);
      same_depth = ap jt.depth j ∙ sym (fold_number _ _ depth_step depth_member z);
      fine = λ is. subst IsFine (sym j) (z, sym small ∙ is, refl);
      same_tree = λ is. ap of_json j ∙ ap (option_map tree_data.number) (number_tree z (sym small ∙ is)) ∙ sym (ap (λ d. Some d) (fold_number _ _ read_step read_member z));
      comes_back = λ is. ap out_of j ∙ ap number_out (number_tree z (sym small ∙ is)) ∙ number_back z;
    }

at_word : (w : List ℕ) → IsReadAs (Word w)
at_word w =
    let j : json_of (Word w) ≡ json.string w = fold_word J JM json_step json_member w in
    let utf8 : is_readable (Word w) ≡ is_utf8 w = fold_word _ _ readable_step readable_member w in
    record {
      same_text = fold_word _ _ text_step member_step w ∙ sym (ap compact j);
      same_tokens = ap jt.json_tokens j ∙ sym (fold_word _ _ tokens_step member_tokens_step w);
      same_depth = ap jt.depth j ∙ sym (fold_word _ _ depth_step depth_member w);
      fine = λ is. subst IsFine (sym j) (IsUtf8-from_is_utf8 w (sym utf8 ∙ is));
      same_tree = λ is. ap of_json j ∙ sym (ap (λ d. Some d) (fold_word _ _ read_step read_member w));
      comes_back = λ is. ap out_of j;
    }

at_list : (os : List Out) → AllOf IsReadAs os → IsReadAs (list os)
at_list os all =
    let j : json_of (list os) ≡ json.array (items_of (map json_of os)) = fold_list J JM json_step json_member os in
    let readable : is_readable (list os) ≡ all_true (map is_readable os) = fold_list _ _ readable_step readable_member os in
    record {
      same_text = fold_list _ _ text_step member_step os ∙ ap (λ s. 91 ∷ s) (first_items os all) ∙ sym (ap compact j);
      same_tokens = ap jt.json_tokens j ∙ ap (λ ts. token.begin_array ∷ ts) (items_tokens os all) ∙ sym (fold_list _ _ tokens_step member_tokens_step os);
      same_depth = ap jt.depth j ∙ ap suc (items_depth os all) ∙ sym (fold_list _ _ depth_step depth_member os);
      fine = λ is. subst IsFine (sym j) (items_fine os all (sym readable ∙ is));
      same_tree = λ is. ap of_json j ∙ ap (option_map tree_data.array) (items_tree os all (sym readable ∙ is)) ∙ sym (ap (λ d. Some d) (fold_list _ _ read_step read_member os));
      comes_back = λ is. ap out_of j ∙ ap list (items_back os all (sym readable ∙ is));
    }

at_object : (ms : List Member) → AllValues IsReadAs ms → IsReadAs (Object ms)
at_object ms all =
    let j : json_of (Object ms) ≡ json.object (members_of (map pair_of ms)) = fold_object J JM json_step json_member ms in
    let readable : is_readable (Object ms) ≡ all_true (map readable_of ms) = fold_object _ _ readable_step readable_member ms in
    record {
      same_text = fold_object _ _ text_step member_step ms ∙ ap (λ s. 123 ∷ s) (first_members ms all) ∙ sym (ap compact j);
      same_tokens = ap jt.json_tokens j ∙ ap (λ ts. token.begin_object ∷ ts) (members_tokens ms all) ∙ sym (fold_object _ _ tokens_step member_tokens_step ms);
      same_depth = ap jt.depth j ∙ ap suc (members_depth ms all) ∙ sym (fold_object _ _ depth_step depth_member ms);
      fine = λ is. subst IsFine (sym j) (members_fine ms all (sym readable ∙ is));
      same_tree = λ is. ap of_json j ∙ ap (option_map tree_data.object) (members_tree ms tree_data.no_members all (sym readable ∙ is)) ∙ sym (ap (λ d. Some d) (fold_object _ _ read_step read_member ms));
      comes_back = λ is. ap out_of j ∙ ap Object (members_back ms all (sym readable ∙ is));
    }

is_read_as : (o : Out) → IsReadAs o
is_read_as = by_kinds IsReadAs (record { at_null = at_null; at_flag = at_flag; at_number = at_number; at_word = at_word; at_list = at_list; at_object = at_object })

-- the text of a reply is the print of its tokens
pub text_printed : (o : Out) → text o ≡ print (tokens_of o)
text_printed o = let known = is_read_as o in known.same_text ∙ sym (print_compact (json_of o)) ∙ ap print known.same_tokens

-- ---- the laws

abbrev whole : Option (json.Json × List Token) → Option Data
whole o = option_and_then of_json (option_and_then (λ p. json.if_last p.0 p.1) o)

pub printed_read : PrintedReadsBack
printed_read o readable shallow =
    let known = is_read_as o in
    let fine = known.fine readable in
    ap tree_of known.same_text ∙ tree_at_utf8 (compact (json_of o)) (compact_utf8 (json_of o) fine)
    ∙ ap whole (value_read 127 (json_of o) fine (subst (λ d. d ≤ 127) (sym known.same_depth) shallow)) ∙ known.same_tree readable

pub one_reply : OneReply
one_reply o p first second same =
    let one = is_read_as o in
    let other = is_read_as p in
    let values = one_value (json_of o) (json_of p) (one.fine first) (other.fine second) (sym one.same_text ∙ same ∙ other.same_text) in
    sym (one.comes_back first) ∙ ap out_of values ∙ other.comes_back second
