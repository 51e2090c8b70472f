use Rattle.std.proofs.Common.{◌≡◌, ◌++◌, drop}
use Rattle.reply_json.proofs.copying.+copy.Given as goal

-- what was copied, and what is left, are all
abbrev pub invariant-copy_elements-loop-element : goal.invariant-copy_elements-loop-element
invariant-copy_elements-loop-element l = l.copies.items ++ drop l.element-index l.elements ≡ l.elements

abbrev pub invariant-copy_members-loop-member : goal.invariant-copy_members-loop-member
invariant-copy_members-loop-member l = l.copies.items ++ drop l.member-index l.members ≡ l.members
