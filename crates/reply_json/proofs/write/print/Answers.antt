use Rattle.std.proofs.Common.{◌≡◌, ◌++◌, sym, ap, ap₂, ◌∙◌, rules}
use Rattle.json.specs.Print.{print}
use Rattle.reply_json.specs.Tokens.{tokens_of}
use Rattle.reply_json.proofs.Reading.{text_printed}
use Rattle.reply_json.proofs.write.print.Goals as goal

pub returns-in-Ok-clause-ok : goal.returns-in-Ok-clause-ok
returns-in-Ok-clause-ok c =
    let tokens : c.put_tree.new.writer.tokens ≡ tokens_of c.args.out.now = c.in-Ok.ensures.ok ∙ ap (λ ts. ts ++ tokens_of c.args.out.now) c.new-writer.ensures.tokens in
    let before : c.put_tree.new.writer.before ≡ c.args.into.now.items = search rules in
    c.into_inner.ensures.items ∙ ap₂ (λ b ts. b ++ print ts) before tokens ∙ ap (λ s. c.args.into.now.items ++ s) (sym (text_printed c.args.out.now))
