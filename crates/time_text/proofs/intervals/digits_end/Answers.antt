use Rattle.std.proofs.Common.{rules, ◌≡◌, length}
use Rattle.std.specs.Char.{is_ascii_digit}
use Rattle.std.specs.List.{prefix_len}
use Rattle.std.proofs.lemmas.List.Sums.{prefix_len-drop_no, prefix_len-drop_all}
use Rattle.time_text.specs.ShapeLaws.{digits_in_front}
use Rattle.time_text.proofs.intervals.digits_end.Goals as goal

pub returns-then-not-is_ascii_digit-clause-digits : goal.returns-then-not-is_ascii_digit-clause-digits
returns-then-not-is_ascii_digit-clause-digits c =
    let end : c.loop-place.place ≡ prefix_len is_ascii_digit c.args.text.now = search (rules, prefix_len-drop_no) in
    rw end (digits_in_front c.args.text.now)

pub returns-clause-digits : goal.returns-clause-digits
returns-clause-digits c =
    let end : length c.args.text.now ≡ prefix_len is_ascii_digit c.args.text.now = search (rules, prefix_len-drop_all) in
    rw end (digits_in_front c.args.text.now)
