use Rattle.std.proofs.Common.{◌≡◌, ◌++◌, drop, map}
use Rattle.reply_json.specs.Tokens.{tokens_of, member_tokens, joined_tokens}
use Rattle.reply_json.proofs.write.+put.Given as goal

-- what was written, and what the elements that are left give, is what all give
abbrev pub invariant-put_elements-loop-element : goal.invariant-put_elements-loop-element
invariant-put_elements-loop-element l = record {
  same : l.writer.before ≡ l.initial.writer.before;
  all : l.writer.tokens ++ joined_tokens (map tokens_of (drop l.element-index l.elements)) ≡ l.initial.writer.tokens ++ joined_tokens (map tokens_of l.elements);
}

abbrev pub invariant-put_members-loop-member : goal.invariant-put_members-loop-member
invariant-put_members-loop-member l = record {
  same : l.writer.before ≡ l.initial.writer.before;
  all : l.writer.tokens ++ joined_tokens (map member_tokens (drop l.member-index l.members)) ≡ l.initial.writer.tokens ++ joined_tokens (map member_tokens l.members);
}
