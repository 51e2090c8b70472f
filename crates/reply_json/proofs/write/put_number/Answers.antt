use Rattle.std.proofs.Common.{subst, sym, ap, ◌∙◌, to_z-of_z}
use Rattle.std.specs.Fmt.{signed_decimal}
use Rattle.json.specs.Print.{IsNumber}
use Rattle.reply_json.proofs.Numbers.{number_in_memory}
use Rattle.reply_json.proofs.write.put_number.Goals as goal

pub number-requires : goal.number-requires
number-requires c = subst IsNumber (sym (c.format.ensures.text ∙ ap signed_decimal (to_z-of_z c.ranges.n))) (number_in_memory c.args.n c.ranges.n)
