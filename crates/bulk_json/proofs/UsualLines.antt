-- What the usual action lines are read as.
use Rattle.std.proofs.Common.{◌≡◌, ◌≢◌, ◌≤◌, ◌==◌, ℕ, List, [], ◌∷◌, ◌++◌, Bool, true, false, ◌&&◌, ◌||◌, bytes_eq, take, drop, length, Option, Some, refl, sym, ap, ap₂, ◌∙◌, arith, append_assoc, append-nil}
use Rattle.std.specs.List.{list_all}
use Rattle.std.specs.Prelude.{codes, option_and_then, IsTrue}
use Rattle.std.specs.Str.{IsUtf8}
use Rattle.std.proofs.lemmas.Bool.Decides.{nat_tests}
use Rattle.std.proofs.lemmas.Slice.Eq.{bytes_eq-Decides}
use Rattle.std.proofs.lemmas.List.{take-append-drop}
use Rattle.std.proofs.lemmas.Str.{IsUtf8-append}
use Rattle.json.proofs.Printed.Strings.{escape_byte_plain}
use Rattle.json.proofs.Printed.Tokens.{tokens-print}
use Rattle.json.proofs.Printed.Trees.{value-json_tokens, ArePrintable-json_tokens}
use Rattle.json.proofs.Printed.Utf8.{IsUtf8-are_ascii}
use Rattle.json.specs.Json.{Json, value, items, members, if_last}
use Rattle.json.specs.Lex.{tokens, lex, punctuate}
use Rattle.json.specs.Print.{escape_byte, escape}
use Rattle.json.specs.Text.{content}
use Rattle.json.specs.Token.{Token}
use Rattle.json.specs.Tree.{json_tokens}
use Rattle.serde_json.specs.Data.{Data, object, string, no_members, member}
use Rattle.serde_json.specs.Read.{of_json, read}
use Rattle.serde_json.specs.Written.{outline, compact_text}
use Rattle.serde_json.proofs.Texts.{print-outline}
use Rattle.json_walk.specs.Tree.{tree_of}
use Rattle.json_walk.specs.TreeLaws.{tree_at_utf8}
use Rattle.index_names.specs.Names.{is_letter_or_digit, is_name_byte, are_name_bytes, is_stream_name}
use Rattle.bulk_json.specs.Actions.{stream_in, asked_in, asked_of}
use Rattle.bulk_json.specs.Usual.{usual_line, usual_asked, named_front, named_end, named_line, named_asked}

abbrev usual_tree : Data
usual_tree = object (member (codes "create") (object no_members) no_members)

usual_read : read usual_line ≡ Some usual_tree
unfolding lex punctuate value items members content
usual_read = refl

usual_told : (path : Option (List ℕ)) → asked_in path usual_tree ≡ usual_asked path
unfolding stream_in
usual_told path = refl

usual_is : (path : Option (List ℕ)) → asked_of path usual_line ≡ usual_asked path
unfolding asked_of
usual_is path = ap (option_and_then (asked_in path)) (tree_at_utf8 usual_line (IsUtf8-are_ascii _ refl) ∙ usual_read) ∙ usual_told path

pub usual_by_bytes : (path : Option (List ℕ)) (line : List ℕ) → bytes_eq line usual_line ≡ true → usual_asked path ≡ asked_of path line
usual_by_bytes path line same = sym (ap (asked_of path) ((bytes_eq-Decides line usual_line).0 same) ∙ usual_is path)

-- ---- the line that names a stream

byte_plain : (b : ℕ) → is_name_byte b ≡ true → escape_byte b ≡ b ∷ []
byte_plain b is = escape_byte_plain b (no_quote b is) (no_slash b is) (no_control b is)
  where
    no_quote : (b : ℕ) → is_name_byte b ≡ true → b ≢ 34
    no_quote b is = grind (arith, nat_tests)

    no_slash : (b : ℕ) → is_name_byte b ≡ true → b ≢ 92
    no_slash b is = grind (arith, nat_tests)

    no_control : (b : ℕ) → is_name_byte b ≡ true → 32 ≤ b
    no_control b is = grind (arith, nat_tests)

both_parts : (a b : Bool) → (a && b) ≡ true → (a ≡ true) × (b ≡ true)
both_parts true true is = (refl, refl)
both_parts true false is = absurd cc
both_parts false b is = absurd cc

all_plain : (s : List ℕ) → list_all is_name_byte s ≡ true → escape s ≡ s
all_plain [] is = refl
all_plain (b ∷ s) is = let parts = both_parts (is_name_byte b) (list_all is_name_byte s) is in ap₂ (λ xs ys. xs ++ ys) (byte_plain b parts.0) (all_plain s parts.1)

first_is : (b : ℕ) → is_letter_or_digit b ≡ true → is_name_byte b ≡ true
first_is b is = ap (λ v. v || b == 45 || b == 95 || b == 46) is

name_plain : (name : List ℕ) → IsTrue (is_stream_name name) → escape name ≡ name
unfolding is_stream_name are_name_bytes
name_plain [] is = refl
name_plain (b ∷ s) is =
    let plain = both_parts _ _ is in
    let parts = both_parts _ _ plain.1 in ap₂ (λ xs ys. xs ++ ys) (byte_plain b (first_is b parts.0)) (all_plain s parts.1)

abbrev named_tree : List ℕ → Data
named_tree name = object (member (codes "create") (object (member (codes "_index") (string name) no_members)) no_members)

named_text : (name : List ℕ) → escape name ≡ name → compact_text (named_tree name) ≡ named_line name
unfolding escape_byte
named_text name plain = ap (λ s. named_front ++ (((s ++ 34 ∷ []) ++ 125 ∷ []) ++ 125 ∷ [])) plain ∙ ap (λ s. named_front ++ s) (ends name)
  where
    ends : (s : List ℕ) → ((s ++ 34 ∷ []) ++ 125 ∷ []) ++ 125 ∷ [] ≡ s ++ named_end
    ends s = simp append_assoc

abbrev whole : Option (Json × List Token) → Option Data
whole o = option_and_then of_json (option_and_then (λ p. if_last p.0 p.1) o)

named_read : (name : List ℕ) → escape name ≡ name → read (named_line name) ≡ Some (named_tree name)
named_read name plain =
    let j = outline (named_tree name) in
    let lexed : tokens (named_line name) ≡ json_tokens j =
    ap tokens (sym (named_text name plain) ∙ sym (print-outline (named_tree name))) ∙ tokens-print (json_tokens j) (ArePrintable-json_tokens j ((tt, tt), tt)) in
    ap whole (ap (value 127) (lexed ∙ sym (append-nil (json_tokens j))) ∙ value-json_tokens j 127 [] (omega arith))

named_told : (path : Option (List ℕ)) (name : List ℕ) → IsTrue (is_stream_name name) → asked_in path (named_tree name) ≡ Some (named_asked name)
unfolding stream_in
named_told path name is = rw is refl

pub named_by_bytes : (path : Option (List ℕ)) (line name : List ℕ) → IsUtf8 name → IsTrue (is_stream_name name) → line ≡ named_line name → Some (named_asked name) ≡ asked_of path line
unfolding asked_of
named_by_bytes path line name utf8 is same =
    let text : IsUtf8 (named_line name) = IsUtf8-append named_front (name ++ named_end) (IsUtf8-are_ascii _ refl) (IsUtf8-append name named_end utf8 (IsUtf8-are_ascii _ refl)) in
    sym (ap (λ l. option_and_then (asked_in path) (tree_of l)) same
    ∙ ap (option_and_then (asked_in path)) (tree_at_utf8 (named_line name) text ∙ named_read name (name_plain name is)) ∙ named_told path name is)

-- ---- what stands between a front and an end

pub behind_front : (front line rest : List ℕ) → bytes_eq (take (length front) line) front ≡ true → rest ≡ drop (length front) line → line ≡ front ++ rest
behind_front front line rest same is = sym (take-append-drop (length front) line) ∙ ap₂ (λ a b. a ++ b) ((bytes_eq-Decides (take (length front) line) front).0 same) (sym is)

pub before_end : (end line rest : List ℕ) (n : ℕ) → bytes_eq (drop n line) end ≡ true → rest ≡ take n line → line ≡ rest ++ end
before_end end line rest n same is = sym (take-append-drop n line) ∙ ap₂ (λ a b. a ++ b) (sym is) ((bytes_eq-Decides (drop n line) end).0 same)
