-- The JSON text of a reply: RFC 8259, without a space.
use Rattle.std.specs.Prelude.{ℕ, List, [], ◌∷◌, ◌++◌, flat_map, true, false}
use Rattle.std.specs.Fmt.{signed_decimal}
use Rattle.json.specs.Print.{quoted}
use Rattle.reply_json.specs.declared.out.Member.{Member, Member-F, fold-Member}
use Rattle.reply_json.specs.declared.out.Out.{Out, Out-F, fold-Out}

-- the texts, with a comma between each two
abbrev pub joined : List (List ℕ) → List ℕ
joined [] = []
joined (t ∷ ts) = t ++ flat_map (λ u. 44 ∷ u) ts

-- the text of one level, whose parts are texts already: `null`, `true`, `false`, a number in decimal, a
-- text in quotes and with its escapes, elements between brackets, members between braces in their order
abbrev pub text_step : Out-F (List ℕ) (List ℕ) → List ℕ
text_step Out-F.Null = 110 ∷ 117 ∷ 108 ∷ 108 ∷ []
text_step (Out-F.Flag true) = 116 ∷ 114 ∷ 117 ∷ 101 ∷ []
text_step (Out-F.Flag false) = 102 ∷ 97 ∷ 108 ∷ 115 ∷ 101 ∷ []
text_step (Out-F.Num n) = signed_decimal n
text_step (Out-F.Word w) = quoted w
text_step (Out-F.List elements) = 91 ∷ (joined elements ++ 93 ∷ [])
text_step (Out-F.Object members) = 123 ∷ (joined members ++ 125 ∷ [])

-- a name, a colon and the value
abbrev pub member_step : Member-F (List ℕ) (List ℕ) → List ℕ
member_step m = quoted m.name ++ 58 ∷ m.value

abbrev pub text : Out → List ℕ
text = fold-Out (List ℕ) (List ℕ) text_step member_step

abbrev pub member_text : Member → List ℕ
member_text = fold-Member (List ℕ) (List ℕ) text_step member_step
