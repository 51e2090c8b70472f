use Rattle.std.proofs.Common.{◌≡◌, ◌++◌, drop}
use Rattle.synthetic_source.specs.Groups.{named_members}
use Rattle.synthetic_source.specs.Levels.{longest}
use Rattle.synthetic_source.specs.Replies.{out_members}
use Rattle.synthetic_source.specs.Seen.{seen_all, seen_groups}
use Rattle.synthetic_source.proofs.rebuilding.+members_out.Given as goal

abbrev pub decreases-members_out : goal.decreases-members_out
decreases-members_out l = longest (seen_all l.entries.now)

abbrev pub invariant-loop-group : goal.invariant-loop-group
invariant-loop-group l = l.members.items ++ out_members (named_members (seen_groups (drop l.group-index l.group-items))) ≡ out_members (named_members (seen_groups l.group-items))
