-- The tokens of a reply, of which its text is the print; for private clauses.
use Rattle.std.specs.Prelude.{List, [], ◌∷◌, ◌++◌, flat_map}
use Rattle.std.specs.Fmt.{signed_decimal}
use Rattle.json.specs.Token.{Token, begin_object, end_object, begin_array, end_array, key, string, number, boolean, null}
use Rattle.reply_json.specs.declared.out.Member.{Member, Member-F, fold-Member}
use Rattle.reply_json.specs.declared.out.Out.{Out, Out-F, fold-Out}

abbrev pub joined_tokens : List (List Token) → List Token
joined_tokens tss = flat_map (λ ts. ts) tss

abbrev pub tokens_step : Out-F (List Token) (List Token) → List Token
tokens_step Out-F.Null = null ∷ []
tokens_step (Out-F.Flag b) = boolean b ∷ []
tokens_step (Out-F.Num z) = number (signed_decimal z) ∷ []
tokens_step (Out-F.Word w) = string w ∷ []
tokens_step (Out-F.List elements) = begin_array ∷ (joined_tokens elements ++ end_array ∷ [])
tokens_step (Out-F.Object members) = begin_object ∷ (joined_tokens members ++ end_object ∷ [])

abbrev pub member_tokens_step : Member-F (List Token) (List Token) → List Token
member_tokens_step m = key m.name ∷ m.value

abbrev pub tokens_of : Out → List Token
tokens_of = fold-Out (List Token) (List Token) tokens_step member_tokens_step

abbrev pub member_tokens : Member → List Token
member_tokens = fold-Member (List Token) (List Token) tokens_step member_tokens_step
